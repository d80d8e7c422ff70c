use Rattle.std.proofs.Common.{◌≡◌, ℕ, ◌-◌, ◌<◌, true, false, cond, not, nat_eq, eq-eqb, List, [], ◌∷◌, ◌++◌, Option, Some, None, IsNone, IsSome, length, take, slice_set, slice_index, slice_get, refl, sym, ap, ◌∙◌, subst, ⊎_elim, arith, take_all}
use Rattle.std.specs.Option.{option_map, option_to_list, option_map_or}
use Rattle.std.specs.Map.{lookup, lookup_entry, remove_entry, set_value}
use Rattle.std.proofs.lemmas.Bool.{eqb-true, ne_eqb, cases_eq}
use Rattle.std.proofs.lemmas.List.{length-map}
use Rattle.lru.specs.LruCache.{LruCache, promoted, put_entries}
use Rattle.casper_words.specs.declared.page.Right.{Right}
use Rattle.casper_cache.specs.declared.held.Held.{Held}
use Rattle.casper_cache.specs.declared.leaf.Leaf.{Leaf}
use Rattle.casper_cache.specs.Leaves.{held_of, shown}
use Rattle.casper_cache.specs.Holding.{is_of, entry_of, right_of, words_of, word_of, others, front_of, written, graded, with_right, ArePagesDistinct}
use Rattle.casper_cache.proofs.Entries.{others-absent, graded-absent}

-- the two tests of a page ask the same
turned : (page : ℕ) (entry : ℕ × Leaf) → is_of page (held_of entry) ≡ nat_eq page entry.0
turned page entry =
    ⊎_elim
    (λ (same : entry.0 ≡ page). eq-eqb entry.0 page same ∙ sym (eq-eqb page entry.0 (sym same)))
    (λ (differ : entry.0 ≡ page → ⊥). ne_eqb entry.0 page differ ∙ sym (ne_eqb page entry.0 (λ e. differ (sym e))))
    (cases_eq entry.0 page)

-- the entry of a page that is found
pub entry-found : (page : ℕ) (entries : List (ℕ × Leaf)) (leaf : Leaf) → lookup (nat_eq page) entries ≡ Some leaf →
    lookup_entry (nat_eq page) entries ≡ Some (page, leaf)
entry-found page [] leaf found = cc
entry-found page (entry ∷ rest) leaf found =
    (elim (nat_eq page entry.0) as (λ b. nat_eq page entry.0 ≡ b → cond b (Some entry.1) (lookup (nat_eq page) rest) ≡ Some leaf →
    cond b (Some entry) (lookup_entry (nat_eq page) rest) ≡ Some (page, leaf)) [
      | true ↦ λ is h.
          let here : entry.0 ≡ page = sym (eqb-true page entry.0 is) in
          let same : entry.1 ≡ leaf = cc in
          λ i. Some (here i, same i)
      | false ↦ λ _ h. entry-found page rest leaf h
    ]) refl found

pub entry-absent : (page : ℕ) (entries : List (ℕ × Leaf)) → lookup (nat_eq page) entries ≡ None → lookup_entry (nat_eq page) entries ≡ None
entry-absent page [] none = refl
entry-absent page (entry ∷ rest) none =
    (elim (nat_eq page entry.0) as (λ b. cond b (Some entry.1) (lookup (nat_eq page) rest) ≡ None → cond b (Some entry) (lookup_entry (nat_eq page) rest) ≡ None) [
      | true ↦ λ h. cc
      | false ↦ λ h. entry-absent page rest h
    ]) none

-- what is found of a page is its entry
pub entry_of-shown : (page : ℕ) (entries : List (ℕ × Leaf)) → entry_of page (shown entries) ≡ option_map held_of (lookup_entry (nat_eq page) entries)
entry_of-shown page [] = refl
entry_of-shown page (entry ∷ rest) =
    rw (turned page entry)
    (elim (nat_eq page entry.0) as (λ b. cond b (Some (held_of entry)) (entry_of page (shown rest)) ≡ option_map held_of (cond b (Some entry) (lookup_entry (nat_eq page) rest))) [
      | true ↦ refl
      | false ↦ entry_of-shown page rest
    ])

-- by what a search for the page gives
pub entry_of-at : (page : ℕ) (entries : List (ℕ × Leaf)) (found : Option Leaf) → lookup (nat_eq page) entries ≡ found →
    entry_of page (shown entries) ≡ option_map (λ leaf. held_of (page, leaf)) found
entry_of-at page entries None is = entry_of-shown page entries ∙ ap (option_map held_of) (entry-absent page entries is)
entry_of-at page entries (Some leaf) is = entry_of-shown page entries ∙ ap (option_map held_of) (entry-found page entries leaf is)

pub right_of-at : (page : ℕ) (entries : List (ℕ × Leaf)) (found : Option Leaf) → lookup (nat_eq page) entries ≡ found →
    right_of page (shown entries) ≡ option_map (λ leaf. leaf.right) found
right_of-at page entries None is = rw (entry_of-at page entries None is) refl
right_of-at page entries (Some leaf) is = rw (entry_of-at page entries (Some leaf) is) refl

pub words_of-at : (page : ℕ) (entries : List (ℕ × Leaf)) (found : Option Leaf) → lookup (nat_eq page) entries ≡ found →
    words_of page (shown entries) ≡ option_map (λ leaf. leaf.words) found
words_of-at page entries None is = rw (entry_of-at page entries None is) refl
words_of-at page entries (Some leaf) is = rw (entry_of-at page entries (Some leaf) is) refl

-- without the page's entry, the others are left
pub shown-remove : (page : ℕ) (entries : List (ℕ × Leaf)) → ArePagesDistinct (shown entries) →
    shown (remove_entry (nat_eq page) entries) ≡ others page (shown entries)
shown-remove page [] distinct = refl
shown-remove page (entry ∷ rest) distinct =
    rw (turned page entry)
    ((elim (nat_eq page entry.0) as (λ b. nat_eq page entry.0 ≡ b →
    shown (cond b rest (entry ∷ remove_entry (nat_eq page) rest)) ≡ cond (not b) (held_of entry ∷ others page (shown rest)) (others page (shown rest))) [
      | true ↦ λ is. sym (others-absent page (shown rest) (subst (λ q. entry_of q (shown rest) ≡ None) (sym (eqb-true page entry.0 is)) distinct.0))
      | false ↦ λ _. ap (λ l. held_of entry ∷ l) (shown-remove page rest distinct.1)
    ]) refl)

-- a page that is not there is not promoted
pub promoted-absent : (page : ℕ) (entries : List (ℕ × Leaf)) → lookup (nat_eq page) entries ≡ None → promoted (nat_eq page) entries ≡ entries
promoted-absent page entries none = rw (entry-absent page entries none) refl

-- a page that is promoted is in front
pub shown-promoted : (page : ℕ) (entries : List (ℕ × Leaf)) → ArePagesDistinct (shown entries) →
    shown (promoted (nat_eq page) entries) ≡ front_of page (shown entries)
shown-promoted page entries distinct =
    rw (entry_of-shown page entries)
    ((elim (lookup_entry (nat_eq page) entries) as (λ o. lookup_entry (nat_eq page) entries ≡ o →
    shown (option_map_or (λ e. e ∷ remove_entry (nat_eq page) entries) o entries) ≡ option_to_list (option_map held_of o) ++ others page (shown entries)) [
      | None ↦ λ none. sym (others-absent page (shown entries) (entry_of-shown page entries ∙ ap (option_map held_of) none))
      | Some entry ↦ λ _. ap (λ l. held_of entry ∷ l) (shown-remove page entries distinct)
    ]) refl)

-- a word written into a page that is promoted
pub shown-written : (page word value : ℕ) (entries : List (ℕ × Leaf)) (leaf : Leaf) → ArePagesDistinct (shown entries) →
    lookup (nat_eq page) entries ≡ Some leaf →
    shown (set_value (nat_eq page) (promoted (nat_eq page) entries) (record leaf { words = slice_set leaf.words word value })) ≡
    written page word value (shown entries)
shown-written page word value entries leaf distinct found =
    let same : nat_eq page page ≡ true = eq-eqb page page refl in
    rw (entry_of-at page entries (Some leaf) found, entry-found page entries leaf found, same)
    (ap (λ l. held_of (page, record leaf { words = slice_set leaf.words word value }) ∷ l) (shown-remove page entries distinct))

-- another right to a page, in its place
pub shown-graded : (right : Right) (page : ℕ) (entries : List (ℕ × Leaf)) (leaf : Leaf) → ArePagesDistinct (shown entries) →
    lookup (nat_eq page) entries ≡ Some leaf →
    shown (set_value (nat_eq page) entries (record leaf { right = right })) ≡ graded right page (shown entries)
shown-graded right page [] leaf distinct found = cc
shown-graded right page (entry ∷ rest) leaf distinct found =
    rw (turned page entry)
    ((elim (nat_eq page entry.0) as (λ b. nat_eq page entry.0 ≡ b → cond b (Some entry.1) (lookup (nat_eq page) rest) ≡ Some leaf →
    shown (cond b ((entry.0, record leaf { right = right }) ∷ rest) (entry ∷ set_value (nat_eq page) rest (record leaf { right = right }))) ≡
    cond b (with_right right (held_of entry)) (held_of entry) ∷ graded right page (shown rest)) [
      | true ↦ λ is h.
          let same : entry.1 ≡ leaf = cc in
          let absent : entry_of page (shown rest) ≡ None = subst (λ q. entry_of q (shown rest) ≡ None) (sym (eqb-true page entry.0 is)) distinct.0 in
          rw (graded-absent right page (shown rest) absent)
          (ap (λ (l : Leaf). held_of (entry.0, record l { right = right }) ∷ shown rest) (sym same))
      | false ↦ λ _ h. ap (λ l. held_of entry ∷ l) (shown-graded right page rest leaf distinct.1 h)
    ]) refl found)

-- a page that is put is in front of the others, where there is room for it
pub shown-put : (page : ℕ) (leaf : Leaf) (old : LruCache ℕ Leaf) → ArePagesDistinct (shown old.entries) →
    (IsNone (right_of page (shown old.entries)) → length (shown old.entries) < old.cap) →
    shown (put_entries nat_eq old page leaf) ≡ held_of (page, leaf) ∷ others page (shown old.entries)
shown-put page leaf old distinct few =
    (elim (lookup (nat_eq page) old.entries) as (λ o. lookup (nat_eq page) old.entries ≡ o →
    shown (put_entries nat_eq old page leaf) ≡ held_of (page, leaf) ∷ others page (shown old.entries)) [
      | None ↦ λ none.
          let absent : right_of page (shown old.entries) ≡ None = right_of-at page old.entries None none in
          let shorter : length (shown old.entries) < old.cap = few (subst IsNone (sym absent) refl) in
          let all : take (old.cap - 1) old.entries ≡ old.entries = take_all (old.cap - 1) old.entries (omega (arith, shorter, length-map old.entries held_of)) in
          rw (entry-absent page old.entries none, all, others-absent page (shown old.entries) (entry_of-at page old.entries None none)) refl
      | Some was ↦ λ found.
          rw (entry-found page old.entries was found) (ap (λ l. held_of (page, leaf) ∷ l) (shown-remove page old.entries distinct))
    ]) refl

-- a word of a page that is found
pub word_of-at : (page word : ℕ) (entries : List (ℕ × Leaf)) (leaf : Leaf) → lookup (nat_eq page) entries ≡ Some leaf →
    word_of page word (shown entries) ≡ slice_index leaf.words word
word_of-at page word entries leaf found = rw (words_of-at page entries (Some leaf) found) refl

-- a page with a right is found
pub found-again : (page : ℕ) (entries : List (ℕ × Leaf)) → IsSome (right_of page (shown entries)) → IsSome (lookup (nat_eq page) entries)
found-again page entries is =
    (elim (lookup (nat_eq page) entries) as (λ o. lookup (nat_eq page) entries ≡ o → IsSome o) [
      | None ↦ λ none. let h = subst IsSome (right_of-at page entries None none) is in cc
      | Some leaf ↦ λ _. refl
    ]) refl

-- the page of the first entry is found
pub lookup-first : (page : ℕ) (entries : List (ℕ × Leaf)) → option_map (λ (entry : Held). entry.page) (slice_get (shown entries) 0) ≡ Some page →
    lookup (nat_eq page) entries ≡ None → ⊥
lookup-first page [] first none = cc
lookup-first page (entry ∷ rest) first none =
    let here : entry.0 ≡ page = cc in
    let test : nat_eq page entry.0 ≡ true = eq-eqb page entry.0 (sym here) in
    let found = rw test at none in cc

-- it is promoted already
promoted-first : (page : ℕ) (entries : List (ℕ × Leaf)) → option_map (λ (entry : Held). entry.page) (slice_get (shown entries) 0) ≡ Some page →
    promoted (nat_eq page) entries ≡ entries
promoted-first page [] first = cc
promoted-first page (entry ∷ rest) first =
    let here : entry.0 ≡ page = cc in
    let test : nat_eq page entry.0 ≡ true = eq-eqb page entry.0 (sym here) in
    rw test refl

-- a word written into it, where it stands
pub shown-written_first : (page word value : ℕ) (entries : List (ℕ × Leaf)) (leaf : Leaf) → ArePagesDistinct (shown entries) →
    option_map (λ (entry : Held). entry.page) (slice_get (shown entries) 0) ≡ Some page → lookup (nat_eq page) entries ≡ Some leaf →
    shown (set_value (nat_eq page) entries (record leaf { words = slice_set leaf.words word value })) ≡ written page word value (shown entries)
shown-written_first page word value entries leaf distinct first found =
    ap (λ es. shown (set_value (nat_eq page) es (record leaf { words = slice_set leaf.words word value }))) (sym (promoted-first page entries first)) ∙
    shown-written page word value entries leaf distinct found
