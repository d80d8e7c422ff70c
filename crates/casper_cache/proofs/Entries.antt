use Rattle.std.proofs.Common.{◌≡◌, ℕ, zero, suc, ◌+◌, ◌-◌, ◌<◌, ◌≤◌, Bool, true, false, cond, not, eqb, eq-eqb, List, [], ◌∷◌, ◌++◌, Some, None, length, take, remove, get_or, slice_get, find, map, reverse, refl, sym, ap, ◌∙◌, subst, ⊎_elim, arith}
use Rattle.std.specs.Option.{option_map, option_to_list}
use Rattle.std.proofs.lemmas.Bool.{eqb-true, ne_eqb, cases_eq}
use Rattle.std.proofs.lemmas.List.{take_more, get_or-reverse, get_or-map, length-map, length-reverse}
use Rattle.casper_words.specs.declared.page.Right.{Right}
use Rattle.casper_cache.specs.declared.held.Held.{Held}
use Rattle.casper_cache.specs.Holding.{is_of, entry_of, others, front_of, written, with_word, with_right, graded, ArePagesDistinct}

-- what is found passes
pub found_passes : {X : Type 0} (p : X → Bool) (xs : List X) (x : X) → find p xs ≡ Some x → p x ≡ true
found_passes p [] x e = cc
found_passes p (y ∷ ys) x e =
    (elim (p y) as (λ b. p y ≡ b → cond b (Some y) (find p ys) ≡ Some x → p x ≡ true) [
      | true ↦ λ is h. let same : y ≡ x = cc in subst (λ z. p z ≡ true) same is
      | false ↦ λ _ h. found_passes p ys x h
    ]) refl e

-- what stands at a place and passes is missed by no search
pub found_at : {X : Type 0} (p : X → Bool) (xs : List X) (i : ℕ) (x : X) → slice_get xs i ≡ Some x → p x ≡ true → find p xs ≡ None → ⊥
found_at p [] i x at passes none = cc
found_at p (y ∷ ys) zero x at passes none =
    let same : y ≡ x = cc in
    let here : p y ≡ true = subst (λ z. p z ≡ true) (sym same) passes in
    (elim (p y) as (λ b. b ≡ true → cond b (Some y) (find p ys) ≡ None → ⊥) [ true ↦ λ _ h. cc | false ↦ λ e _. cc ]) here none
found_at p (y ∷ ys) (suc i) x at passes none =
    (elim (p y) as (λ b. cond b (Some y) (find p ys) ≡ None → ⊥) [ true ↦ λ h. cc | false ↦ λ h. found_at p ys i x at passes h ])
    none

-- no other is dropped where the page is not held
pub others-absent : (page : ℕ) (held : List Held) → entry_of page held ≡ None → others page held ≡ held
others-absent page [] none = refl
others-absent page (x ∷ xs) none =
    (elim (eqb x.page page) as (λ b. cond b (Some x) (entry_of page xs) ≡ None → cond (not b) (x ∷ others page xs) (others page xs) ≡ x ∷ xs) [
      | true ↦ λ h. cc
      | false ↦ λ h. ap (λ l. x ∷ l) (others-absent page xs h)
    ]) none

-- a test of two equal numbers
is_of-same : (page : ℕ) (entry : Held) → entry.page ≡ page → is_of page entry ≡ true
is_of-same page entry is = eq-eqb entry.page page is

-- without the entry at the page's place, the others are left
pub remove-others : (page : ℕ) (held : List Held) (place : ℕ) (entry : Held) →
    ArePagesDistinct held → slice_get held place ≡ Some entry → entry.page ≡ page → remove held place ≡ others page held
remove-others page [] place entry distinct at is = cc
remove-others page (x ∷ xs) zero entry distinct at is =
    let same : x ≡ entry = cc in
    let here : x.page ≡ page = ap (λ (e : Held). e.page) same ∙ is in
    let test : is_of page x ≡ true = is_of-same page x here in
    let absent : entry_of page xs ≡ None = subst (λ q. entry_of q xs ≡ None) here distinct.0 in
    rw test (sym (others-absent page xs absent))
remove-others page (x ∷ xs) (suc place) entry distinct at is =
    let rest : remove xs place ≡ others page xs = remove-others page xs place entry distinct.1 at is in
    (elim (is_of page x) as (λ b. is_of page x ≡ b → x ∷ remove xs place ≡ cond (not b) (x ∷ others page xs) (others page xs)) [
      | true ↦ λ test.
          let here : x.page ≡ page = eqb-true x.page page test in
          absurd (found_at (is_of x.page) xs place entry at (is_of-same x.page entry (is ∙ sym here)) distinct.0)
      | false ↦ λ _. ap (λ l. x ∷ l) rest
    ]) refl

-- the entry that is found is one of the page
pub entry_of-page : (page : ℕ) (held : List Held) (entry : Held) → entry_of page held ≡ Some entry → entry.page ≡ page
entry_of-page page held entry e = eqb-true entry.page page (found_passes (is_of page) held entry e)

-- a page that no entry is of stays as it is when it is lowered
pub graded-absent : (right : Right) (page : ℕ) (held : List Held) → entry_of page held ≡ None → graded right page held ≡ held
graded-absent right page [] none = refl
graded-absent right page (x ∷ xs) none =
    (elim (is_of page x) as (λ b. cond b (Some x) (entry_of page xs) ≡ None → cond b (with_right right x) x ∷ graded right page xs ≡ x ∷ xs) [
      | true ↦ λ h. cc
      | false ↦ λ h. ap (λ l. x ∷ l) (graded-absent right page xs h)
    ]) none

-- a search for another page passes over what is not of it
pub entry_of-others : (page q : ℕ) (held : List Held) → (q ≡ page → ⊥) → entry_of q (others page held) ≡ entry_of q held
entry_of-others page q [] differ = refl
entry_of-others page q (x ∷ xs) differ =
    let rest : entry_of q (others page xs) ≡ entry_of q xs = entry_of-others page q xs differ in
    (elim (is_of page x) as (λ b. is_of page x ≡ b → entry_of q (cond (not b) (x ∷ others page xs) (others page xs)) ≡ cond (is_of q x) (Some x) (entry_of q xs)) [
      | true ↦ λ test.
          let other : is_of q x ≡ false = ne_eqb x.page q (λ e. differ (sym e ∙ eqb-true x.page page test)) in
          rw other rest
      | false ↦ λ _. ap (λ l. cond (is_of q x) (Some x) l) rest
    ]) refl

-- no other is of the page
pub entry_of-others_same : (page : ℕ) (held : List Held) → entry_of page (others page held) ≡ None
entry_of-others_same page [] = refl
entry_of-others_same page (x ∷ xs) =
    let rest : entry_of page (others page xs) ≡ None = entry_of-others_same page xs in
    (elim (is_of page x) as (λ b. is_of page x ≡ b → entry_of page (cond (not b) (x ∷ others page xs) (others page xs)) ≡ None) [
      | true ↦ λ _. rest
      | false ↦ λ test. rw test rest
    ]) refl

-- a page that was not held is none of the others
pub entry_of-others_none : (page q : ℕ) (held : List Held) → entry_of q held ≡ None → entry_of q (others page held) ≡ None
entry_of-others_none page q held none =
    ⊎_elim
    (λ (same : q ≡ page). subst (λ p. entry_of p (others page held) ≡ None) (sym same) (entry_of-others_same page held))
    (λ (differ : q ≡ page → ⊥). entry_of-others page q held differ ∙ none)
    (cases_eq q page)

-- the others stay distinct
pub distinct-others : (page : ℕ) (held : List Held) → ArePagesDistinct held → ArePagesDistinct (others page held)
distinct-others page [] distinct = tt
distinct-others page (x ∷ xs) distinct =
    let rest : ArePagesDistinct (others page xs) = distinct-others page xs distinct.1 in
    elim (is_of page x) as (λ b. ArePagesDistinct (cond (not b) (x ∷ others page xs) (others page xs))) [
      | true ↦ rest
      | false ↦ (entry_of-others_none page x.page xs distinct.0, rest)
    ]

-- an entry of the page in front of the others
pub distinct-in_front : (page : ℕ) (held : List Held) (entry : Held) → entry.page ≡ page → ArePagesDistinct held →
    ArePagesDistinct (entry ∷ others page held)
distinct-in_front page held entry is distinct =
    (subst (λ q. entry_of q (others page held) ≡ None) (sym is) (entry_of-others_same page held), distinct-others page held distinct)

-- the page in front, whatever is done to its entry but for its page
pub distinct-changed_front : (change : Held → Held) → ((entry : Held) → (change entry).page ≡ entry.page) →
    (page : ℕ) (held : List Held) → ArePagesDistinct held →
    ArePagesDistinct (option_to_list (option_map change (entry_of page held)) ++ others page held)
distinct-changed_front change keeps page held distinct =
    (elim (entry_of page held) as (λ o. entry_of page held ≡ o → ArePagesDistinct (option_to_list (option_map change o) ++ others page held)) [
      | None ↦ λ _. distinct-others page held distinct
      | Some entry ↦ λ e. distinct-in_front page held (change entry) (keeps entry ∙ entry_of-page page held entry e) distinct
    ]) refl

pub distinct-front_of : (page : ℕ) (held : List Held) → ArePagesDistinct held → ArePagesDistinct (front_of page held)
distinct-front_of page held distinct =
    (elim (entry_of page held) as (λ o. entry_of page held ≡ o → ArePagesDistinct (option_to_list o ++ others page held)) [
      | None ↦ λ _. distinct-others page held distinct
      | Some entry ↦ λ e. distinct-in_front page held entry (entry_of-page page held entry e) distinct
    ]) refl

pub distinct-written : (page word value : ℕ) (held : List Held) → ArePagesDistinct held → ArePagesDistinct (written page word value held)
distinct-written page word value held distinct = distinct-changed_front (with_word word value) (λ _. refl) page held distinct

-- lowering a page finds each page as before, with the right to read on that page
pub entry_of-graded : (right : Right) (page q : ℕ) (held : List Held) →
    entry_of q (graded right page held) ≡ option_map (λ entry. cond (is_of page entry) (with_right right entry) entry) (entry_of q held)
entry_of-graded right page q [] = refl
entry_of-graded right page q (x ∷ xs) =
    let rest = entry_of-graded right page q xs in
    let same : is_of q (cond (is_of page x) (with_right right x) x) ≡ is_of q x =
    elim (is_of page x) as (λ b. is_of q (cond b (with_right right x) x) ≡ is_of q x) [ true ↦ refl | false ↦ refl ] in
    rw same
    (elim (is_of q x) as (λ b.
    cond b (Some (cond (is_of page x) (with_right right x) x)) (entry_of q (graded right page xs)) ≡
    option_map (λ entry. cond (is_of page entry) (with_right right entry) entry) (cond b (Some x) (entry_of q xs))) [
      | true ↦ refl
      | false ↦ rest
    ])

pub distinct-graded : (right : Right) (page : ℕ) (held : List Held) → ArePagesDistinct held → ArePagesDistinct (graded right page held)
distinct-graded right page [] distinct = tt
distinct-graded right page (x ∷ xs) distinct =
    let change : Held → Held = λ entry. cond (is_of page entry) (with_right right entry) entry in
    let same : (change x).page ≡ x.page = elim (is_of page x) as (λ b. (cond b (with_right right x) x).page ≡ x.page) [ true ↦ refl | false ↦ refl ] in
    let absent : entry_of x.page (graded right page xs) ≡ None = entry_of-graded right page x.page xs ∙ ap (λ o. option_map change o) distinct.0 in
    (subst (λ q. entry_of q (graded right page xs) ≡ None) (sym same) absent, distinct-graded right page xs distinct.1)

-- the page and the others are at most all
pub length-entry-others : (page : ℕ) (held : List Held) → length (option_to_list (entry_of page held)) + length (others page held) ≤ length held
length-entry-others page [] = omega arith
length-entry-others page (x ∷ xs) =
    let rest = length-entry-others page xs in
    let fewer : length (others page xs) ≤ length xs = omega (arith, rest) in
    elim (is_of page x) as (λ b. length (option_to_list (cond b (Some x) (entry_of page xs))) + length (cond (not b) (x ∷ others page xs) (others page xs)) ≤ suc (length xs)) [
      | true ↦ omega (arith, fewer)
      | false ↦ omega (arith, rest)
    ]

-- the next of the pages from the back
pub evicted_more : (held : List Held) (back : ℕ) (entry : Held) → back < length held → entry ≡ get_or held (length held - 1 - back) entry →
    take (back + 1) (reverse (map (λ (e : Held). e.page) held)) ≡ take back (reverse (map (λ (e : Held). e.page) held)) ++ entry.page ∷ []
evicted_more held back entry within read =
    let pages : List ℕ = map (λ (e : Held). e.page) held in
    let long : length pages ≡ length held = length-map held (λ (e : Held). e.page) in
    let last : length held - 1 - back < length held = omega arith in
    let here : get_or (reverse pages) back 0 ≡ entry.page =
    get_or-reverse pages back 0 (omega arith) ∙ ap (λ n. get_or pages (n - 1 - back) 0) long ∙
    get_or-map (λ (e : Held). e.page) held (length held - 1 - back) entry 0 last ∙ ap (λ (e : Held). e.page) (sym read) in
    take_more (reverse pages) back 0 (omega (arith, length-reverse pages)) ∙ ap (λ p. take back (reverse pages) ++ p ∷ []) here
