use Rattle.std.proofs.Common.{◌≡◌, ℕ, true, false, cond, not, List, [], ◌∷◌, ◌++◌, Option, Some, None, nat_eq, eq-eqb, refl, sym, ap, ◌∙◌, subst, ⊎_elim}
use Rattle.std.proofs.lemmas.Bool.{ne_eqb, cases_eq}
use Rattle.std.specs.Option.{option_map, option_to_list}
use Rattle.casper_words.specs.declared.page.Right.{Right}
use Rattle.casper_cache.specs.declared.held.Held.{Held}
use Rattle.casper_cache.specs.Holding.{is_of, entry_of, others, with_word, graded, with_right}
use Rattle.casper_cache.specs.Changes.{FrontKeepsEntries, WrittenChangesOne, GradedChangesOne, OthersAreTheRest, OthersKeepTheirOrder}
use Rattle.casper_cache.proofs.Entries.{entry_of-page, entry_of-others, entry_of-others_same, entry_of-graded, others-absent}

-- an entry of another page is not tested as the page's
other_test : (page q : ℕ) (entry : Held) → entry.page ≡ q → (q ≡ page → ⊥) → is_of page entry ≡ false
other_test page q entry is differ = ne_eqb entry.page page (λ e. differ (sym is ∙ e))

-- a change of the page's entry leaves the entry of another
unchanged : (change : Held → Held) (page q : ℕ) (held : List Held) → (q ≡ page → ⊥) →
    entry_of q held ≡ option_map (λ (entry : Held). cond (is_of page entry) (change entry) entry) (entry_of q held)
unchanged change page q held differ =
    (elim (entry_of q held) as (λ o. entry_of q held ≡ o → o ≡ option_map (λ (entry : Held). cond (is_of page entry) (change entry) entry) o) [
      | None ↦ λ _. refl
      | Some x ↦ λ e. rw (other_test page q x (entry_of-page q held x e) differ) refl
    ]) refl

-- the page in front with its entry changed: the entry of every page
changed_front : (change : Held → Held) → ((entry : Held) → (change entry).page ≡ entry.page) →
    (page q : ℕ) (held : List Held) →
    entry_of q (option_to_list (option_map change (entry_of page held)) ++ others page held) ≡
    option_map (λ (entry : Held). cond (is_of page entry) (change entry) entry) (entry_of q held)
changed_front change keeps page q held =
    (elim (entry_of page held) as (λ o. entry_of page held ≡ o →
    entry_of q (option_to_list (option_map change o) ++ others page held) ≡
    option_map (λ (entry : Held). cond (is_of page entry) (change entry) entry) (entry_of q held)) [
      | None ↦ λ none. ⊎_elim
          (λ (same : q ≡ page).
          let absent : entry_of q held ≡ None = subst (λ p. entry_of p held ≡ None) (sym same) none in
          rw (others-absent page held none, absent) refl)
          (λ (differ : q ≡ page → ⊥). rw (others-absent page held none) (unchanged change page q held differ))
          (cases_eq q page)
      | Some x ↦ λ found.
          let is : x.page ≡ page = entry_of-page page held x found in
          ⊎_elim
          (λ (same : q ≡ page).
          let here : entry_of q held ≡ Some x = subst (λ p. entry_of p held ≡ Some x) (sym same) found in
          let test : is_of page x ≡ true = eq-eqb x.page page is in
          let hit : is_of q (change x) ≡ true = eq-eqb (change x).page q (keeps x ∙ is ∙ sym same) in
          rw (hit, here) (ap (λ b. Some (cond b (change x) x)) (sym test)))
          (λ (differ : q ≡ page → ⊥).
          let miss : is_of q (change x) ≡ false = ne_eqb (change x).page q (λ e. differ (sym e ∙ keeps x ∙ is)) in
          rw miss (entry_of-others page q held differ ∙ unchanged change page q held differ))
          (cases_eq q page)
    ]) refl

pub front_keeps_entries : FrontKeepsEntries
front_keeps_entries page q held =
    let same : (o : Option Held) → option_map (λ (entry : Held). entry) o ≡ o = λ o. elim o as (λ o. option_map (λ (entry : Held). entry) o ≡ o) [ None ↦ refl | Some x ↦ refl ] in
    let either : (o : Option Held) → option_map (λ (entry : Held). cond (is_of page entry) entry entry) o ≡ o =
    λ o. elim o as (λ o. option_map (λ (entry : Held). cond (is_of page entry) entry entry) o ≡ o) [
      | None ↦ refl
      | Some x ↦ elim (is_of page x) as (λ b. Some (cond b x x) ≡ Some x) [ true ↦ refl | false ↦ refl ]
    ] in
    ap (λ o. entry_of q (option_to_list o ++ others page held)) (sym (same (entry_of page held))) ∙
    changed_front (λ entry. entry) (λ _. refl) page q held ∙
    either (entry_of q held)

pub written_changes_one : WrittenChangesOne
written_changes_one page word value q held = changed_front (with_word word value) (λ _. refl) page q held

pub graded_changes_one : GradedChangesOne
graded_changes_one right page q held = entry_of-graded right page q held

pub others_are_the_rest : OthersAreTheRest
others_are_the_rest page q held =
    ⊎_elim
    (λ (same : q ≡ page).
    let test : nat_eq q page ≡ true = eq-eqb q page same in
    rw test (subst (λ p. entry_of p (others page held) ≡ None) (sym same) (entry_of-others_same page held)))
    (λ (differ : q ≡ page → ⊥).
    let test : nat_eq q page ≡ false = ne_eqb q page differ in
    rw test (entry_of-others page q held differ))
    (cases_eq q page)

-- dropping a page twice drops no more
others-others : (page : ℕ) (held : List Held) → others page (others page held) ≡ others page held
others-others page held = others-absent page (others page held) (entry_of-others_same page held)

-- an entry of the page in front is dropped
others-front : (change : Held → Held) → ((entry : Held) → (change entry).page ≡ entry.page) → (page : ℕ) (held : List Held) →
    others page (option_to_list (option_map change (entry_of page held)) ++ others page held) ≡ others page held
others-front change keeps page held =
    (elim (entry_of page held) as (λ o. entry_of page held ≡ o → others page (option_to_list (option_map change o) ++ others page held) ≡ others page held) [
      | None ↦ λ _. others-others page held
      | Some x ↦ λ found.
          let test : is_of page (change x) ≡ true = eq-eqb (change x).page page (keeps x ∙ entry_of-page page held x found) in
          rw test (others-others page held)
    ]) refl

others-graded : (right : Right) (page : ℕ) (held : List Held) → others page (graded right page held) ≡ others page held
others-graded right page [] = refl
others-graded right page (x ∷ xs) =
    let rest : others page (graded right page xs) ≡ others page xs = others-graded right page xs in
    (elim (is_of page x) as (λ b. is_of page x ≡ b → others page (cond b (with_right right x) x ∷ graded right page xs) ≡ cond (not b) (x ∷ others page xs) (others page xs)) [
      | true ↦ λ test. rw test rest
      | false ↦ λ test. rw test (ap (λ l. x ∷ l) rest)
    ]) refl

pub others_keep_their_order : OthersKeepTheirOrder
others_keep_their_order page held =
    let same : (o : Option Held) → option_map (λ (entry : Held). entry) o ≡ o = λ o. elim o as (λ o. option_map (λ (entry : Held). entry) o ≡ o) [ None ↦ refl | Some x ↦ refl ] in (
      ap (λ o. others page (option_to_list o ++ others page held)) (sym (same (entry_of page held))) ∙ others-front (λ entry. entry) (λ _. refl) page held,
      λ word value. others-front (with_word word value) (λ _. refl) page held,
      λ right. others-graded right page held,
    )
