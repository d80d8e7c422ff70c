use Rattle.std.proofs.Common.{◌≡◌, ℕ, ◌<◌, ◌≤◌, ◌∙◌, Bool, true, false, cond, eq-eqb, List, [], ◌∷◌, Option, Some, None, filter, filter_map, length, map, option_map, refl, sym, ap, subst, ⊎_elim, arith}
use Rattle.std.specs.List.{cons_option, find}
use Rattle.std.proofs.lemmas.Bool.{eqb-true, cases_eq}
use Rattle.casper_words.specs.Crew.{IsClient}
use Rattle.casper_words.specs.declared.page.Right.{Right}
use Rattle.casper_words.specs.declared.page.Right.TheVariants as may
use Rattle.casper_words.specs.declared.page.Want.{Want}
use Rattle.casper_dir.specs.declared.holders.Holders.{Holders}
use Rattle.casper_dir.specs.Rights.{right_at, writer_at, ChangesOneRight}
use Rattle.casper_dir.proofs.EqualRights.{writer_holds_to_write}
use Rattle.casper_cache.specs.declared.held.Held.{Held}
use Rattle.casper_cache.specs.Holding.{is_of, entry_of, right_of, lowered, with_right, is_to_write, first_to_write, ArePagesDistinct}
use Rattle.casper_cache.proofs.Entries.{entry_of-graded, entry_of-page}
use Rattle.casper_model.specs.Held.{lowered as kept_for_reading}
use Rattle.casper_hub.specs.Owned.{want_of, wants_of}
use Rattle.casper_hub.specs.Given.{left_of, kept_as, lowered_right}
use Rattle.casper_hub.proofs.KeptPages.{HaveRights}
use Rattle.casper_hub.proofs.Giving.{changed_here, changed_elsewhere}

-- the held pages, all kept for reading
abbrev pub all_lowered : List Held → List Held
all_lowered held = map (with_right may.Read) held

-- how many pages are held for writing
abbrev pub count_to_write : List Held → ℕ
count_to_write held = length (filter (λ (entry : Held). is_to_write entry.right) held)

-- all pages kept for reading are all wants kept for reading
pub wants_lowered : (held : List Held) → wants_of (all_lowered held) ≡ map kept_for_reading (wants_of held)
wants_lowered [] = refl
wants_lowered (x ∷ xs) = ap (λ (l : List Want). kept_for_reading (want_of x) ∷ l) (wants_lowered xs)

-- what is left where each right is lowered too is what is left, all kept for reading
pub kept-all_lowered : (before after : ℕ → Option Right) (held : List Held) → HaveRights before held →
    filter_map (kept_as before (λ page. lowered_right (after page))) held ≡ all_lowered (filter_map (kept_as before after) held)
kept-all_lowered before after [] have = refl
kept-all_lowered before after (x ∷ xs) have =
    let rest : filter_map (kept_as before (λ page. lowered_right (after page))) xs ≡ all_lowered (filter_map (kept_as before after) xs) = kept-all_lowered before after xs have.1 in
    ap (λ (o : Option Right). cons_option (left_of o (lowered_right (after x.page)) x) (filter_map (kept_as before (λ page. lowered_right (after page))) xs)) have.0
    ∙ ap (cons_option (left_of (Some x.right) (lowered_right (after x.page)) x)) rest
    ∙ by (after x.page)
    ∙ ap (λ (o : Option Right). all_lowered (cons_option (left_of o (after x.page) x) (filter_map (kept_as before after) xs))) (sym have.0)
  where
    by : (o : Option Right) → cons_option (left_of (Some x.right) (lowered_right o) x) (all_lowered (filter_map (kept_as before after) xs))
        ≡ all_lowered (cons_option (left_of (Some x.right) o x) (filter_map (kept_as before after) xs))
    by None = refl
    by (Some right) = refl

-- one page lowered first makes no difference once all are
pub lowered_among_all : (page : ℕ) (held : List Held) → all_lowered (lowered page held) ≡ all_lowered held
lowered_among_all page [] = refl
lowered_among_all page (x ∷ xs) =
    let same : with_right may.Read (cond (is_of page x) (with_right may.Read x) x) ≡ with_right may.Read x =
    elim (is_of page x) as (λ b. with_right may.Read (cond b (with_right may.Read x) x) ≡ with_right may.Read x) [ true ↦ refl | false ↦ refl ] in
    ap (λ (h : Held). h ∷ all_lowered (lowered page xs)) same ∙ ap (λ (l : List Held). with_right may.Read x ∷ l) (lowered_among_all page xs)

-- where no page is held for writing, all are kept for reading
pub none_to_write : (held : List Held) → first_to_write held ≡ None → held ≡ all_lowered held
none_to_write [] none = refl
none_to_write (x ∷ xs) none = by x.right (none_to_write xs) refl none
  where
    by : (right : Right) → (first_to_write xs ≡ None → xs ≡ all_lowered xs) → x.right ≡ right → option_map (λ (h : Held). h.page) (cond (is_to_write right) (Some x) (find (λ (h : Held). is_to_write h.right) xs)) ≡ None → x ∷ xs ≡ all_lowered (x ∷ xs)
    by may.Read rest is e = ap (λ (r : Right). record x { right = r } ∷ xs) is ∙ ap (λ (l : List Held). with_right may.Read x ∷ l) (rest e)
    by may.Write rest is e = cc

-- the first page held for writing is held for writing
pub first_is_to_write : (page : ℕ) (held : List Held) → ArePagesDistinct held → first_to_write held ≡ Some page → right_of page held ≡ Some may.Write
first_is_to_write page [] distinct first = cc
first_is_to_write page (x ∷ xs) distinct first = by x.right (first_is_to_write page xs distinct.1) refl first
  where
    by : (right : Right) → (first_to_write xs ≡ Some page → right_of page xs ≡ Some may.Write) → x.right ≡ right → option_map (λ (h : Held). h.page) (cond (is_to_write right) (Some x) (find (λ (h : Held). is_to_write h.right) xs)) ≡ Some page →
        right_of page (x ∷ xs) ≡ Some may.Write
    by may.Write rest is e =
        let same : x.page ≡ page = cc in
        ap (λ (b : Bool). option_map (λ (h : Held). h.right) (cond b (Some x) (entry_of page xs))) (eq-eqb x.page page same) ∙ ap (λ (r : Right). Some r) is
    by may.Read rest is e =
        let behind : right_of page xs ≡ Some may.Write = rest e in
        (elim (is_of page x) as (λ b. is_of page x ≡ b → option_map (λ (h : Held). h.right) (cond b (Some x) (entry_of page xs)) ≡ Some may.Write) [
          | true ↦ λ here.
              let absent : entry_of page xs ≡ None = subst (λ (q : ℕ). entry_of q xs ≡ None) (eqb-true x.page page here) distinct.0 in
              cc
          | false ↦ λ _. behind
        ]) refl

-- no more pages are held for writing once one is lowered
lowered_no_more : (page : ℕ) (held : List Held) → count_to_write (lowered page held) ≤ count_to_write held
lowered_no_more page [] = omega arith
lowered_no_more page (x ∷ xs) =
    let rest : count_to_write (lowered page xs) ≤ count_to_write xs = lowered_no_more page xs in
    elim (is_of page x) as (λ b. count_to_write (cond b (with_right may.Read x) x ∷ lowered page xs) ≤ count_to_write (x ∷ xs)) [
      | true ↦ (elim (is_to_write x.right) as (λ b. count_to_write (lowered page xs) ≤ length (cond b (x ∷ filter (λ (h : Held). is_to_write h.right) xs) (filter (λ (h : Held). is_to_write h.right) xs))) [ true ↦ omega (arith, rest) | false ↦ rest ])
      | false ↦ (elim (is_to_write x.right) as (λ b. length (cond b (x ∷ filter (λ (h : Held). is_to_write h.right) (lowered page xs)) (filter (λ (h : Held). is_to_write h.right) (lowered page xs))) ≤ length (cond b (x ∷ filter (λ (h : Held). is_to_write h.right) xs) (filter (λ (h : Held). is_to_write h.right) xs))) [ true ↦ omega (arith, rest) | false ↦ rest ])
    ]

-- and fewer once the first of them is
pub lowered_fewer : (page : ℕ) (held : List Held) → first_to_write held ≡ Some page → count_to_write (lowered page held) < count_to_write held
lowered_fewer page [] first = cc
lowered_fewer page (x ∷ xs) first = by x.right (lowered_fewer page xs) refl first
  where
    by : (right : Right) → (first_to_write xs ≡ Some page → count_to_write (lowered page xs) < count_to_write xs) → x.right ≡ right → option_map (λ (h : Held). h.page) (cond (is_to_write right) (Some x) (find (λ (h : Held). is_to_write h.right) xs)) ≡ Some page →
        count_to_write (lowered page (x ∷ xs)) < count_to_write (x ∷ xs)
    by may.Write fewer is e =
        let same : x.page ≡ page = cc in
        let here : is_of page x ≡ true = eq-eqb x.page page same in
        let rest : count_to_write (lowered page xs) ≤ count_to_write xs = lowered_no_more page xs in
        rw (here, is) (omega (arith, rest))
    by may.Read fewer is e =
        let rest : count_to_write (lowered page xs) < count_to_write xs = fewer e in
        elim (is_of page x) as (λ b. count_to_write (cond b (with_right may.Read x) x ∷ lowered page xs) < count_to_write (x ∷ xs)) [
          | true ↦ rw is rest
          | false ↦ rw is rest
        ]

-- the rights of a client are those of its cache, once it keeps a page for reading
pub agree_lowered : (rights now : List Holders) (who page : ℕ) (held : List Held) → IsClient who → ChangesOneRight rights now who page (Some may.Read) →
    right_of page held ≡ Some may.Write → ((q : ℕ) → right_at rights who q ≡ right_of q held) → (q : ℕ) → right_at now who q ≡ right_of q (lowered page held)
agree_lowered rights now who page held client changes writes agree q =
    ⊎_elim
    (λ (same : q ≡ page).
    subst (λ (p : ℕ). right_at now who p ≡ right_of p (lowered page held)) (sym same)
    (changed_here rights now who page (Some may.Read) client changes ∙ sym (graded page ∙ here (entry_of page held) (λ entry found. entry_of-page page held entry found) writes)))
    (λ (differ : q ≡ page → ⊥).
    changed_elsewhere rights now who page (Some may.Read) changes who q client differ ∙ agree q
    ∙ sym (graded q ∙ there differ (entry_of q held) (λ entry found. entry_of-page q held entry found)))
    (cases_eq q page)
  where
    change : Held → Held
    change entry = cond (is_of page entry) (with_right may.Read entry) entry

    graded : (p : ℕ) → right_of p (lowered page held) ≡ option_map (λ (h : Held). h.right) (option_map change (entry_of p held))
    graded p = ap (option_map (λ (h : Held). h.right)) (entry_of-graded may.Read page p held)

    here : (o : Option Held) → ((entry : Held) → o ≡ Some entry → entry.page ≡ page) → option_map (λ (h : Held). h.right) o ≡ Some may.Write →
        option_map (λ (h : Held). h.right) (option_map change o) ≡ Some may.Read
    here None of e = cc
    here (Some entry) of e = ap (λ (b : Bool). Some ((cond b (with_right may.Read entry) entry).right)) (eq-eqb entry.page page (of entry refl))

    there : (q ≡ page → ⊥) → (o : Option Held) → ((entry : Held) → o ≡ Some entry → entry.page ≡ q) →
        option_map (λ (h : Held). h.right) (option_map change o) ≡ option_map (λ (h : Held). h.right) o
    there differ None of = refl
    there differ (Some entry) of =
        (elim (is_of page entry) as (λ b. is_of page entry ≡ b → Some ((cond b (with_right may.Read entry) entry).right) ≡ Some entry.right) [
          | true ↦ λ same. absurd (differ (sym (of entry refl) ∙ eqb-true entry.page page same))
          | false ↦ λ _. refl
        ]) refl

-- a right that was lowered first is lowered all the same
pub lowered_first : (rights now : List Holders) (who page : ℕ) → IsClient who → ChangesOneRight rights now who page (Some may.Read) →
    right_at rights who page ≡ Some may.Write → (q : ℕ) → lowered_right (right_at now who q) ≡ lowered_right (right_at rights who q)
lowered_first rights now who page client changes was q =
    ⊎_elim
    (λ (same : q ≡ page).
    subst (λ (p : ℕ). lowered_right (right_at now who p) ≡ lowered_right (right_at rights who p)) (sym same)
    (ap lowered_right (changed_here rights now who page (Some may.Read) client changes) ∙ sym (ap lowered_right was)))
    (λ (differ : q ≡ page → ⊥). ap lowered_right (changed_elsewhere rights now who page (Some may.Read) changes who q client differ))
    (cases_eq q page)

-- where the cache holds no page for writing, the rights of its client are lowered already
pub none_writes : (held : List Held) (page : ℕ) → first_to_write held ≡ None → right_of page held ≡ lowered_right (right_of page held)
none_writes [] page none = refl
none_writes (x ∷ xs) page none = by x.right (none_writes xs page) refl none
  where
    by : (right : Right) → (first_to_write xs ≡ None → right_of page xs ≡ lowered_right (right_of page xs)) → x.right ≡ right → option_map (λ (h : Held). h.page) (cond (is_to_write right) (Some x) (find (λ (h : Held). is_to_write h.right) xs)) ≡ None →
        right_of page (x ∷ xs) ≡ lowered_right (right_of page (x ∷ xs))
    by may.Write rest is e = cc
    by may.Read rest is e =
        elim (is_of page x) as (λ b. option_map (λ (h : Held). h.right) (cond b (Some x) (entry_of page xs)) ≡ lowered_right (option_map (λ (h : Held). h.right) (cond b (Some x) (entry_of page xs)))) [
          | true ↦ ap (λ (r : Right). Some r) is
          | false ↦ rest e
        ]

-- a page that the client may write has the client as its writer
pub writer_of : (rights : List Holders) (who page : ℕ) → right_at rights who page ≡ Some may.Write → writer_at rights page ≡ Some who
writer_of rights who page is = (writer_holds_to_write rights page who).1 is
