use Rattle.std.proofs.Common.{◌≡◌, ◌≢◌, ℕ, zero, suc, ◌+◌, ◌<◌, ◌≤◌, Bool, true, false, cond, not, List, [], ◌∷◌, ◌++◌, length, get_or, refl, sym, ◌∙◌, ap, arith, inl, inr, Option, Some, None}
use Rattle.std.specs.Prelude.{nat_lt, slice_index, slice_set, position, option_map, is_some, IfSome}
use Rattle.std.specs.List.{position_or_len}
use Rattle.std.specs.Str.{bytes_eq}
use Rattle.std.proofs.Math.ListN.{length-set}
use Rattle.std.proofs.lemmas.List.{get_or-set_other, get_or-set_same}
use Rattle.std.proofs.lemmas.List.Folds.{position_or_len-set}
use Rattle.std.proofs.lemmas.List.Sums.{position_or_len_is}
use Rattle.std.proofs.lemmas.Bool.{cases_Bool}
use Rattle.std.proofs.lemmas.Bool.Decides.{nat_tests}
use Rattle.std.proofs.lemmas.Slice.Eq.{bytes_eq-Decides}
use Rattle.casper_words.specs.Name.{IsName}
use Rattle.casper_words.specs.declared.call.Call.{Call}
use Rattle.casper_heap.specs.Objects.{Field}
use Rattle.casper_heap.proofs.Tests.{none_by_test}
use Rattle.casper_names.specs.Table.{is_named, entries_of, entry_of, names_of, value_place}
use Rattle.casper_names.specs.Binding.{is_free, found_or_free, entry_for, with_name, with_an_object, bind_writes}
use Rattle.casper_names.proofs.Keeping.{at_position, one_name}
use Rattle.casper_names.proofs.Naming.{entries_count}
use Rattle.casper_names.proofs.Writing.{after_entry, written_entries, value_there, others_stay}

-- where none passes, neither the first nor one after it does
none_behind : {X : Type 0} (p : X → Bool) (x : X) (xs : List X) → length (x ∷ xs) ≤ position_or_len p (x ∷ xs) → (p x ≡ false) × (length xs ≤ position_or_len p xs)
none_behind p x xs none =
    elim (cases_Bool (p x)) [
      | inl here ↦
          let place : position_or_len p (x ∷ xs) ≡ 0 = ap (λ test. cond (not test) (1 + position_or_len p xs) 0) here in
          absurd (omega (arith, place, none))
      | inr other ↦
          let place : position_or_len p (x ∷ xs) ≡ 1 + position_or_len p xs = ap (λ test. cond (not test) (1 + position_or_len p xs) 0) other in
          (other, omega (arith, place, none))
    ]

none_passes : {X : Type 0} (p : X → Bool) (xs : List X) (k : ℕ) (d : X) → length xs ≤ position_or_len p xs → k < length xs → p (get_or xs k d) ≡ false
none_passes p [] k d none below = absurd (omega arith)
none_passes p (x ∷ xs) zero d none below = (none_behind p x xs none).0
none_passes p (x ∷ xs) (suc k) d none below = none_passes p xs k d (none_behind p x xs none).1 (omega arith)

no_position : {X : Type 0} (p : X → Bool) (xs : List X) → position p xs ≡ None → length xs ≤ position_or_len p xs
no_position p xs is =
    let test : nat_lt (position_or_len p xs) (length xs) ≡ false = none_by_test (nat_lt (position_or_len p xs) (length xs)) (position_or_len p xs) is in
    grind (arith, nat_tests)

-- a place that is as good after the write of an element as before
same_position : {X : Type 0} (p : X → Bool) (xs : List X) (at : ℕ) (x d : X) → p x ≡ p (get_or xs at d) → position p (slice_set xs at x) ≡ position p xs
same_position p xs at x d same =
    ap (λ (place : ℕ). cond (nat_lt place (length (slice_set xs at x))) (Some place) None) (position_or_len-set p xs at x d same)
    ∙ ap (λ (n : ℕ). cond (nat_lt (position_or_len p xs) n) (Some (position_or_len p xs)) None) (length-set xs at x)

-- an element that passes, where none did, is the first that passes
first_position : {X : Type 0} (p : X → Bool) (xs : List X) (at : ℕ) (x d : X) → p x ≡ true → at < length xs → position p xs ≡ None → position p (slice_set xs at x) ≡ Some at
first_position p xs at x d is below none =
    let size : length (slice_set xs at x) ≡ length xs = length-set xs at x in
    let place : position_or_len p (slice_set xs at x) ≡ at =
    position_or_len_is p (slice_set xs at x) at d (omega (arith, size, below))
    (λ k before. ap p (get_or-set_other xs at k x d (omega arith)) ∙ none_passes p xs k d (no_position p xs none) (omega arith))
    (λ _. ap p (get_or-set_same xs at x d below) ∙ is) in
    let test : nat_lt at (length xs) ≡ true = grind (arith, nat_tests) in
    ap (λ (place : ℕ). cond (nat_lt place (length (slice_set xs at x))) (Some place) None) place
    ∙ ap (λ (n : ℕ). cond (nat_lt at n) (Some at) None) size
    ∙ ap (λ (test : Bool). cond test (Some at) None) test

free_is_none : (entry : Option (List ℕ)) → is_free entry ≡ true → entry ≡ None
free_is_none None is = refl
free_is_none (Some name) is = cc

-- the entry where a name is bound has no other name, and becomes the first with this name
record Chosen (entries : List (Option (List ℕ))) (name : List ℕ) (entry : ℕ) : Type 0 where
  no_other : (other : List ℕ) → bytes_eq other name ≡ false → is_named other (get_or entries entry None) ≡ false
  first : position (is_named name) (slice_set entries entry (Some name)) ≡ Some entry

chosen : (entries : List (Option (List ℕ))) (name : List ℕ) (entry : ℕ) (found : Option ℕ) → position (is_named name) entries ≡ found
    → found_or_free found (position is_free entries) ≡ Some entry → entry < length entries → Chosen entries name entry
chosen entries name entry (Some at) is chose below =
    let there : position (is_named name) entries ≡ Some entry = is ∙ chose in
    let named : is_named name (get_or entries entry None) ≡ true = at_position (is_named name) entries entry None there in
    record {
      no_other = λ other apart. one_name name other (get_or entries entry None) named apart;
      first = same_position (is_named name) entries entry (Some name) None ((bytes_eq-Decides name name).1 refl ∙ sym named) ∙ there;
    }
chosen entries name entry None is chose below =
    let free : get_or entries entry None ≡ None = free_is_none (get_or entries entry None) (at_position is_free entries entry None chose) in
    record {
      no_other = λ other apart. ap (is_named other) free;
      first = first_position (is_named name) entries entry (Some name) None ((bytes_eq-Decides name name).1 refl) below is;
    }

-- the calls where there is an object, by the entry that was chosen
pub chosen_list : (object : Option (List Field)) (walk scan : List Call) (found choice : Option ℕ) (name : List ℕ) (value : ℕ) → is_some object ≡ true
    → found ≡ choice → walk ++ with_an_object object (scan ++ bind_writes found name value) ≡ walk ++ (scan ++ bind_writes choice name value)
chosen_list None walk scan found choice name value there is = cc
chosen_list (Some fields) walk scan found choice name value there is = ap (λ (choice : Option ℕ). walk ++ (scan ++ bind_writes choice name value)) is

pub within_table : (words : List ℕ) (entries : List (Option (List ℕ))) (choice : Option ℕ) → entries ≡ entries_of words
    → IfSome choice (λ entry. entry < length entries) → IfSome choice (λ entry. entry < 64)
within_table words entries None same within = tt
within_table words entries (Some entry) same within = let size : length entries ≡ 64 = ap length same ∙ entries_count words in omega (arith, within, size)

module _ (words : List ℕ) (name : List ℕ) (entry value : ℕ) (chose : entry_for words name ≡ Some entry) (below : entry < 64) (long : length words ≡ 512)
    (is : IsName name) where
  so : Chosen (entries_of words) name entry
  so = let size = entries_count words in chosen (entries_of words) name entry (entry_of words name) refl chose (omega (arith, size, below))

  bound_name : names_of (after_entry words entry name value) name ≡ Some value
  bound_name =
      ap (λ (entries : List (Option (List ℕ))). option_map (λ at. slice_index (after_entry words entry name value) (value_place at)) (position (is_named name) entries))
      (written_entries words entry name value below long is)
      ∙ ap (option_map (λ at. slice_index (after_entry words entry name value) (value_place at))) so.first
      ∙ ap (λ (value : ℕ). Some value) (value_there words entry name value below long)

  -- any other name leads where it led
  other_name : (other : List ℕ) → bytes_eq other name ≡ false → names_of (after_entry words entry name value) other ≡ names_of words other
  other_name other apart =
      let entries = entries_of words in
      let mine : is_named other (get_or entries entry None) ≡ false = so.no_other other apart in
      let new : is_named other (Some name) ≡ false =
      one_name name other (Some name) ((bytes_eq-Decides name name).1 refl) apart in
      ap (λ (entries : List (Option (List ℕ))). option_map (λ at. slice_index (after_entry words entry name value) (value_place at)) (position (is_named other) entries))
      (written_entries words entry name value below long is)
      ∙ ap (option_map (λ at. slice_index (after_entry words entry name value) (value_place at))) (same_position (is_named other) entries entry (Some name) None (new ∙ sym mine))
      ∙ by_place (position (is_named other) entries)
      (λ at found same.
      let named : is_named other (get_or entries at None) ≡ true = at_position (is_named other) entries at None found in
      let not : is_named other (get_or entries at None) ≡ false = ap (λ (k : ℕ). is_named other (get_or entries k None)) same ∙ mine in
      let e : true ≡ false = sym named ∙ not in
      cc)
    where
      by_place : (choice : Option ℕ) → ((at : ℕ) → choice ≡ Some at → at ≢ entry)
          → option_map (λ at. slice_index (after_entry words entry name value) (value_place at)) choice ≡ option_map (λ at. slice_index words (value_place at)) choice
      by_place None apart = refl
      by_place (Some at) apart = ap (λ (value : ℕ). Some value) (others_stay words entry name value at 4 (apart at refl) (omega arith))

  pub bound_names : (other : List ℕ) → names_of (after_entry words entry name value) other ≡ with_name (names_of words) name value other
  bound_names other =
      elim (cases_Bool (bytes_eq other name)) [
        | inl same ↦
            let equal : other ≡ name = (bytes_eq-Decides other name).0 same in
            ap (names_of (after_entry words entry name value)) equal ∙ bound_name
            ∙ sym (ap (λ (test : Bool). cond test (Some value) (names_of words other)) same)
        | inr apart ↦ other_name other apart ∙ sym (ap (λ (test : Bool). cond test (Some value) (names_of words other)) apart)
      ]
