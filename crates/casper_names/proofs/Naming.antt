use Rattle.std.proofs.Common.{◌≡◌, ◌↔◌, ℕ, zero, suc, ◌+◌, ◌*◌, ◌<◌, ◌≤◌, Bool, true, false, cond, List, ◌++◌, map, take, length, get_or, refl, sym, ◌∙◌, ap, arith, inl, inr, append_assoc, Option, Some, None}
use Rattle.std.specs.Prelude.{nat_lt, slice_index, slice_set, position, IsSome, IfSome}
use Rattle.std.specs.List.{flat_map, list_all, range_with_len, position_or_len}
use Rattle.std.proofs.lemmas.List.{append-nil, length-take-le}
use Rattle.std.proofs.lemmas.List.FromFn.{length-map-range_with_len, get_or-map-range_with_len}
use Rattle.std.proofs.lemmas.List.Folds.{flat_map-map}
use Rattle.std.proofs.lemmas.Bool.{cases_Bool}
use Rattle.std.proofs.lemmas.Bool.Decides.{nat_tests}
use Rattle.casper_words.specs.Name.{is_name_byte, IsName}
use Rattle.std.proofs.lemmas.List.{get_or-set_other, get_or-set_same}
use Rattle.casper_heap.proofs.Contents.{made_set}
use Rattle.casper_heap.proofs.Tests.{some_by_test}
use Rattle.casper_names.specs.Table.{is_length, bytes_of, name_by, name_at, entries_of, entry_reads, scan_calls, listed, names_in, valid_read, valid_reads}

-- what a name is made of its bytes, by a test
named_by : (result : Option (List ℕ)) (bytes : List ℕ) → 1 ≤ length bytes → length bytes ≤ 24 → (IsSome result ↔ IsName bytes)
    → IfSome result (λ name. name ≡ bytes) → result ≡ cond (list_all is_name_byte bytes) (Some bytes) None
named_by None bytes low high exact same =
    elim (cases_Bool (list_all is_name_byte bytes)) [
      | inl fits ↦ let never : false ≡ true = exact.1 (record { some = low; short = high; alphabet = fits }) in cc
      | inr fails ↦ sym (ap (λ test. cond test (Some bytes) None) fails)
    ]
named_by (Some name) bytes low high exact same =
    let is : IsName bytes = exact.0 refl in
    let fits : list_all is_name_byte bytes ≡ true = is.alphabet in
    ap (λ name. Some name) same ∙ sym (ap (λ test. cond test (Some bytes) None) fits)

pub named : (result : Option (List ℕ)) (count first second third : ℕ) → 1 ≤ count → count ≤ 24
    → (IsSome result ↔ IsName (take count (bytes_of first second third)))
    → IfSome result (λ name. name ≡ take count (bytes_of first second third)) → result ≡ name_by count first second third
named result count first second third low high exact same =
    let size : length (bytes_of first second third) ≡ 24 = refl in
    let long : length (take count (bytes_of first second third)) ≡ count = length-take-le count (bytes_of first second third) (omega (arith, size)) in
    let test : is_length count ≡ true = grind (arith, nat_tests) in
    named_by result (take count (bytes_of first second third)) (omega (arith, long)) (omega (arith, long)) exact same
    ∙ sym (ap (λ test. cond test
    (cond (list_all is_name_byte (take count (bytes_of first second third))) (Some (take count (bytes_of first second third))) None) None) test)

-- one more piece of a list that is made by place
pub flat_more : {X : Type 0} (f : ℕ → List X) (from count : ℕ)
    → flat_map f (range_with_len from (suc count)) ≡ flat_map f (range_with_len from count) ++ f (from + count)
flat_more f from zero = let e : from + 0 ≡ from = omega arith in append-nil (f from) ∙ sym (ap f e)
flat_more f from (suc count) =
    let e : from + 1 + count ≡ from + suc count = omega arith in
    ap (λ rest. f from ++ rest) (flat_more f (from + 1) count ∙ ap (λ at. flat_map f (range_with_len (from + 1) count) ++ f at) e)
    ∙ sym (append_assoc (f from) (flat_map f (range_with_len (from + 1) count)) (f (from + suc count)))

module _ (words : List ℕ) (count : ℕ) (all : count ≡ 64) where
  pub all_entries : map (name_at words) (range_with_len 0 count) ≡ entries_of words
  unfolding entries_of
  all_entries = ap (λ (n : ℕ). map (name_at words) (range_with_len 0 n)) all

  pub all_reads : flat_map (entry_reads words) (range_with_len 0 count) ≡ scan_calls words
  unfolding scan_calls
  all_reads = ap (λ (n : ℕ). flat_map (entry_reads words) (range_with_len 0 n)) all

-- the names and the reads of the values, place by place
module _ (words : List ℕ) (count : ℕ) (all : count ≡ 64) where
  pub all_names : flat_map (λ k. listed (name_at words k)) (range_with_len 0 count) ≡ names_in (entries_of words)
  unfolding entries_of
  all_names =
      ap (λ (n : ℕ). flat_map (λ k. listed (name_at words k)) (range_with_len 0 n)) all
      ∙ sym (flat_map-map listed (name_at words) (range_with_len 0 64))

  pub all_values : flat_map (λ k. valid_read words k (name_at words k)) (range_with_len 0 count) ≡ valid_reads words
  unfolding valid_reads
  all_values = ap (λ (n : ℕ). flat_map (λ k. valid_read words k (name_at words k)) (range_with_len 0 n)) all

pub entry_at : (words : List ℕ) (entry : ℕ) (d : Option (List ℕ)) → entry < 64 → get_or (entries_of words) entry d ≡ name_at words entry
unfolding entries_of
entry_at words entry d below = get_or-map-range_with_len (name_at words) 0 64 entry entry d below (omega arith)

pub listed_short : (name : Option (List ℕ)) → length (listed name) ≤ 1
listed_short None = omega arith
listed_short (Some name) = let one : length (listed (Some name)) ≡ 1 = refl in omega (arith, one)

pub entries_count : (words : List ℕ) → length (entries_of words) ≡ 64
unfolding entries_of
entries_count words = length-map-range_with_len (name_at words) 0 64

-- a place that was found is one of the list
pub position_below : {X : Type 0} (p : X → Bool) (xs : List X) (choice : Option ℕ) → choice ≡ position p xs → IfSome choice (λ at. at < length xs)
position_below p xs None is = tt
position_below p xs (Some at) is =
    let found = some_by_test (nat_lt (position_or_len p xs) (length xs)) (position_or_len p xs) at (sym is) in
    let test : nat_lt (position_or_len p xs) (length xs) ≡ true = found.0 in
    let same : position_or_len p xs ≡ at = found.1 in
    let below : position_or_len p xs < length xs = grind (arith, nat_tests) in
    omega (arith, below, same)

-- an entry by its words alone
pub same_entry : (words changed : List ℕ) (entry : ℕ) → ((j : ℕ) → j < 4 → slice_index changed (5 * entry + j) ≡ slice_index words (5 * entry + j))
    → name_at changed entry ≡ name_at words entry
same_entry words changed entry same =
    let zero_is : 5 * entry + 0 ≡ 5 * entry = omega arith in
    let first : slice_index changed (5 * entry) ≡ slice_index words (5 * entry) =
    sym (ap (slice_index changed) zero_is) ∙ same 0 (omega arith) ∙ ap (slice_index words) zero_is in
    ap (λ (n : ℕ). name_by n (slice_index changed (5 * entry + 1)) (slice_index changed (5 * entry + 2)) (slice_index changed (5 * entry + 3))) first
    ∙ ap (λ (n : ℕ). name_by (slice_index words (5 * entry)) n (slice_index changed (5 * entry + 2)) (slice_index changed (5 * entry + 3))) (same 1 (omega arith))
    ∙ ap (λ (n : ℕ). name_by (slice_index words (5 * entry)) (slice_index words (5 * entry + 1)) n (slice_index changed (5 * entry + 3))) (same 2 (omega arith))
    ∙ ap (λ (n : ℕ). name_by (slice_index words (5 * entry)) (slice_index words (5 * entry + 1)) (slice_index words (5 * entry + 2)) n) (same 3 (omega arith))

-- a length of 0 makes its entry invalid, and no other
removed_by : (words : List ℕ) (entry count : ℕ) → count ≡ 64 → entry < count → length words ≡ 512
    → entries_of (slice_set words (5 * entry) 0) ≡ slice_set (entries_of words) entry None
removed_by words entry count all below long =
    let changed = slice_set words (5 * entry) 0 in
    let start : 0 + entry ≡ entry = omega arith in
    let length_is : slice_index changed (5 * entry) ≡ 0 = get_or-set_same words (5 * entry) 0 0 (omega arith) in
    sym (all_entries changed count all)
    ∙ made_set (name_at words) (name_at changed) 0 count entry None below
    (ap (name_at changed) start
    ∙ ap (λ (n : ℕ). name_by n (slice_index changed (5 * entry + 1)) (slice_index changed (5 * entry + 2)) (slice_index changed (5 * entry + 3))) length_is)
    (λ k _ high ne. same_entry words changed k (λ j small. get_or-set_other words (5 * entry) (5 * k + j) 0 0 (omega arith)))
    ∙ ap (λ (entries : List (Option (List ℕ))). slice_set entries entry None) (all_entries words count all)

pub removed_entries : (words : List ℕ) (entry : ℕ) → entry < 64 → length words ≡ 512
    → entries_of (slice_set words (5 * entry) 0) ≡ slice_set (entries_of words) entry None
removed_entries words entry below long = removed_by words entry 64 refl below long
