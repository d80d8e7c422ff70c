use Rattle.std.proofs.Common.{◌≡◌, ℕ, suc, ◌+◌, ◌*◌, ◌<◌, Bool, true, false, cond, not, List, [], ◌∷◌, length, get_or, refl, sym, ◌∙◌, ap, arith, inl, inr, Option, Some, None}
use Rattle.std.specs.Prelude.{nat_lt, slice_index, slice_set, position, option_map}
use Rattle.std.specs.List.{position_or_len}
use Rattle.std.specs.Str.{bytes_eq}
use Rattle.std.proofs.Math.ListN.{length-set}
use Rattle.std.proofs.lemmas.List.{get_or-set_other}
use Rattle.std.proofs.lemmas.List.Folds.{position_or_len-set}
use Rattle.std.proofs.lemmas.Bool.{cases_Bool}
use Rattle.std.proofs.lemmas.Bool.Decides.{nat_tests}
use Rattle.std.proofs.lemmas.Slice.Eq.{bytes_eq-Decides}
use Rattle.casper_heap.proofs.Tests.{some_by_test}
use Rattle.casper_names.specs.Table.{is_named, entries_of, entry_of, names_of, value_place}
use Rattle.casper_names.proofs.Naming.{removed_entries}

-- what stands at the first place that passes a test passes it
passes_there : {X : Type 0} (p : X → Bool) (xs : List X) (d : X) → position_or_len p xs < length xs → p (get_or xs (position_or_len p xs) d) ≡ true
passes_there p [] d below = absurd (omega arith)
passes_there p (x ∷ xs) d below =
    elim (cases_Bool (p x)) [
      | inl here ↦
          let place : position_or_len p (x ∷ xs) ≡ 0 = ap (λ test. cond (not test) (1 + position_or_len p xs) 0) here in
          ap (λ at. p (get_or (x ∷ xs) at d)) place ∙ here
      | inr other ↦
          let place : position_or_len p (x ∷ xs) ≡ 1 + position_or_len p xs = ap (λ test. cond (not test) (1 + position_or_len p xs) 0) other in
          let one : 1 + position_or_len p xs ≡ suc (position_or_len p xs) = omega arith in
          ap (λ at. p (get_or (x ∷ xs) at d)) (place ∙ one) ∙ passes_there p xs d (omega (arith, below, place))
    ]

pub at_position : {X : Type 0} (p : X → Bool) (xs : List X) (at : ℕ) (d : X) → position p xs ≡ Some at → p (get_or xs at d) ≡ true
at_position p xs at d is =
    let found = some_by_test (nat_lt (position_or_len p xs) (length xs)) (position_or_len p xs) at is in
    let test : nat_lt (position_or_len p xs) (length xs) ≡ true = found.0 in
    let below : position_or_len p xs < length xs = grind (arith, nat_tests) in
    sym (ap (λ at. p (get_or xs at d)) found.1) ∙ passes_there p xs d below

pub not_both : (b : Bool) → (b ≡ true → ⊥) → b ≡ false
not_both true never = absurd (never refl)
not_both false never = refl

-- an entry with one name does not have another
pub one_name : (name other : List ℕ) (entry : Option (List ℕ)) → is_named name entry ≡ true → bytes_eq other name ≡ false → is_named other entry ≡ false
one_name name other None is apart = refl
one_name name other (Some bytes) is apart =
    not_both (bytes_eq bytes other)
    (λ also.
    let same : bytes ≡ name = (bytes_eq-Decides bytes name).0 is in
    let equal : bytes ≡ other = (bytes_eq-Decides bytes other).0 also in
    let both : bytes_eq other name ≡ true = (bytes_eq-Decides other name).1 (sym equal ∙ same) in
    let e : false ≡ true = sym apart ∙ both in
    cc)

-- an entry that is taken out changes no other name
pub others_kept : (words : List ℕ) (name other : List ℕ) (entry : ℕ) → entry_of words name ≡ Some entry → entry < 64 → length words ≡ 512
    → bytes_eq other name ≡ false → names_of (slice_set words (5 * entry) 0) other ≡ names_of words other
others_kept words name other entry found below long apart =
    let changed = slice_set words (5 * entry) 0 in
    let entries = entries_of words in
    let p : Option (List ℕ) → Bool = is_named other in
    let without : entries_of changed ≡ slice_set entries entry None = removed_entries words entry below long in
    let there : is_named other (get_or entries entry None) ≡ false =
    one_name name other (get_or entries entry None) (at_position (is_named name) entries entry None found) apart in
    let place : position_or_len p (slice_set entries entry None) ≡ position_or_len p entries = position_or_len-set p entries entry None None (sym there) in
    let size : length (slice_set entries entry None) ≡ length entries = length-set entries entry None in
    let same : position p (slice_set entries entry None) ≡ position p entries =
    ap (λ (at : ℕ). cond (nat_lt at (length (slice_set entries entry None))) (Some at) None) place
    ∙ ap (λ (n : ℕ). cond (nat_lt (position_or_len p entries) n) (Some (position_or_len p entries)) None) size in
    ap (λ (list : List (Option (List ℕ))). option_map (λ at. slice_index changed (value_place at)) (position p list)) without
    ∙ ap (option_map (λ at. slice_index changed (value_place at))) same
    ∙ by_place (position p entries)
  where
    by_place : (choice : Option ℕ) → option_map (λ at. slice_index (slice_set words (5 * entry) 0) (value_place at)) choice ≡ option_map (λ at. slice_index words (value_place at)) choice
    by_place None = refl
    by_place (Some at) = ap (λ (value : ℕ). Some value) (get_or-set_other words (5 * entry) (value_place at) 0 0 (omega arith))
