use Rattle.std.proofs.Common.{◌≡◌, ℕ, zero, suc, ◌+◌, ◌*◌, ◌/◌, ◌%◌, ◌<◌, ◌≤◌, Bool, true, false, cond, ◌&&◌, List, [], ◌∷◌, ◌++◌, map, length, append_assoc, refl, sym, ◌∙◌, ap, subst, arith, Option, Some, None, Result, Ok, Err}
use Rattle.std.specs.Prelude.{slice_index, slice_get, nat_lt, nat_eq, option_map}
use Rattle.std.specs.List.{range_with_len}
use Rattle.std.specs.Int.{bit_at}
use Rattle.std.proofs.lemmas.List.{append-nil}
use Rattle.std.proofs.lemmas.List.FromFn.{length-map-range_with_len}
use Rattle.std.proofs.lemmas.Bool.{cond_both}
use Rattle.std.proofs.lemmas.Bool.Decides.{nat_tests}
use Rattle.casper_words.specs.declared.call.Call.{Call}
use Rattle.casper_heap.specs.declared.fault.HeapFault.{HeapFault}
use Rattle.casper_heap.specs.declared.fault.HeapFault.TheVariants.{NoObject, NoField, NotARef}
use Rattle.casper_heap.specs.Objects.{Field, Number, Reference, value_of, field_of, fields_of, field_place}
use Rattle.casper_heap.specs.Answers.{place_if, answer_of_set, answer_of_get, answer_of_ref, answer_of_follow, target_of, count_if_both, number_of}
use Rattle.casper_heap.specs.HeapCalls.{where_field, where_object}
use Rattle.casper_heap.proofs.Tests.{ok_by_test, err_by_test}

less_suc : (at count : ℕ) → nat_lt at count ≡ nat_lt (suc at) (suc count)
less_suc at count = grind (arith, nat_tests)

-- an element of a list that is made by place
pub get_made : {X : Type 0} (f : ℕ → X) (from count at : ℕ) → slice_get (map f (range_with_len from count)) at ≡ cond (nat_lt at count) (Some (f (from + at))) None
get_made f from zero at = grind (arith, nat_tests)
get_made f from (suc count) zero =
    let e : from + 0 ≡ from = omega arith in
    let test : nat_lt 0 (suc count) ≡ true = grind (arith, nat_tests) in
    ap (λ at. Some (f at)) (sym e) ∙ sym (ap (λ test. cond test (Some (f (from + 0))) None) test)
get_made f from (suc count) (suc at) =
    let rest = get_made f (from + 1) count at in
    let e : from + 1 + at ≡ from + suc at = omega arith in
    let test : nat_lt at count ≡ nat_lt (suc at) (suc count) = less_suc at count in
    rest ∙ ap (λ place. cond (nat_lt at count) (Some (f place)) None) e ∙ ap (λ test. cond test (Some (f (from + suc at))) None) test

-- the number that a field is stored as is the word that it was made of
pub value_back : (tag value : ℕ) → value_of (field_of tag value) ≡ value
value_back tag value =
    cond_both (nat_eq tag 1) (Reference (value / 512) (value % 512)) (Number value) (λ field. value_of field ≡ value)
    (λ _. omega arith) (λ _. refl)

-- where a field has a place, its calls are made
pub field_taken : (word field : ℕ) (count : Option ℕ) (place : ℕ) → place_if count word field ≡ Ok place → (calls : List Call) → where_field count field calls ≡ calls
field_taken word field None place is calls = cc
field_taken word field (Some count) place is calls =
    ap (λ test. cond test calls []) (ok_by_test (nat_lt field count) (field_place word field) place HeapFault.NoField is).0

pub field_refused : (word field : ℕ) (count : Option ℕ) (fault : HeapFault) → place_if count word field ≡ Err fault → (calls : List Call) → where_field count field calls ≡ []
field_refused word field None fault is calls = refl
field_refused word field (Some count) fault is calls =
    ap (λ test. cond test calls []) (err_by_test (nat_lt field count) (field_place word field) HeapFault.NoField fault is).0

-- the place that was found is that of the field
pub place_found : (word field : ℕ) (count : Option ℕ) (place : ℕ) → place_if count word field ≡ Ok place → field_place word field ≡ place
place_found word field None place is = cc
place_found word field (Some count) place is = (ok_by_test (nat_lt field count) (field_place word field) place HeapFault.NoField is).1

module _ (words : List ℕ) (word field : ℕ) where
  field_there : ℕ → Field
  field_there at = field_of (bit_at (slice_index words (word + 1)) at) (slice_index words (field_place word at))

  got : (count : ℕ) → slice_get (fields_of words word count) field ≡ cond (nat_lt field count) (Some (field_there field)) None
  unfolding field_there
  got count = let e : 0 + field ≡ field = omega arith in
      get_made field_there 0 count field ∙ ap (λ at. cond (nat_lt field count) (Some (field_there at)) None) e

  pub set_taken : (count : Option ℕ) (place : ℕ) → place_if count word field ≡ Ok place → answer_of_set (option_map (fields_of words word) count) field ≡ Ok tt
  set_taken None place is = cc
  set_taken (Some count) place is =
      let test = (ok_by_test (nat_lt field count) (field_place word field) place HeapFault.NoField is).0 in
      ap (λ (size : ℕ). cond (nat_lt field size) (Ok tt) (Err HeapFault.NoField)) (length-map-range_with_len _ 0 count)
      ∙ ap (λ test. cond test (Ok tt) (Err HeapFault.NoField)) test

  pub set_refused : (count : Option ℕ) (fault : HeapFault) → place_if count word field ≡ Err fault
      → answer_of_set (option_map (fields_of words word) count) field ≡ Err fault
  set_refused None fault is = cc
  set_refused (Some count) fault is =
      let test = err_by_test (nat_lt field count) (field_place word field) HeapFault.NoField fault is in
      ap (λ (size : ℕ). cond (nat_lt field size) (Ok tt) (Err HeapFault.NoField)) (length-map-range_with_len _ 0 count)
      ∙ ap (λ test. cond test (Ok tt) (Err HeapFault.NoField)) test.0 ∙ ap (λ fault. Err fault) test.1

  pub get_taken : (count : Option ℕ) (place : ℕ) → place_if count word field ≡ Ok place
      → answer_of_get (option_map (fields_of words word) count) field ≡ Ok (slice_index words place)
  unfolding field_there
  get_taken None place is = cc
  get_taken (Some count) place is =
      let test = ok_by_test (nat_lt field count) (field_place word field) place HeapFault.NoField is in
      ap number_of (got count ∙ ap (λ test. cond test (Some (field_there field)) None) test.0)
      ∙ ap (λ value. Ok value) (value_back (bit_at (slice_index words (word + 1)) field) (slice_index words (field_place word field)) ∙ ap (λ at. slice_index words at) test.1)

  pub get_refused : (count : Option ℕ) (fault : HeapFault) → place_if count word field ≡ Err fault
      → answer_of_get (option_map (fields_of words word) count) field ≡ Err fault
  unfolding field_there
  get_refused None fault is = cc
  get_refused (Some count) fault is =
      let test = err_by_test (nat_lt field count) (field_place word field) HeapFault.NoField fault is in
      ap number_of (got count ∙ ap (λ test. cond test (Some (field_there field)) None) test.0) ∙ ap (λ fault. Err fault) test.1

  pub follow_taken : (pages : ℕ) (count : Option ℕ) (place : ℕ) → place_if count word field ≡ Ok place
      → answer_of_follow pages (option_map (fields_of words word) count) field
      ≡ target_of pages (Some (field_of (bit_at (slice_index words (word + 1)) field) (slice_index words place)))
  unfolding field_there
  follow_taken pages None place is = cc
  follow_taken pages (Some count) place is =
      let test = ok_by_test (nat_lt field count) (field_place word field) place HeapFault.NoField is in
      ap (target_of pages) (got count ∙ ap (λ test. cond test (Some (field_there field)) None) test.0
      ∙ ap (λ at. Some (field_of (bit_at (slice_index words (word + 1)) field) (slice_index words at))) test.1)

  pub follow_refused : (pages : ℕ) (count : Option ℕ) (fault : HeapFault) → place_if count word field ≡ Err fault
      → answer_of_follow pages (option_map (fields_of words word) count) field ≡ Err fault
  unfolding field_there
  follow_refused pages None fault is = cc
  follow_refused pages (Some count) fault is =
      let test = err_by_test (nat_lt field count) (field_place word field) HeapFault.NoField fault is in
      ap (target_of pages) (got count ∙ ap (λ test. cond test (Some (field_there field)) None) test.0) ∙ ap (λ fault. Err fault) test.1

  -- where both objects are there, the field of the first decides
  pub ref_by_field : (others : ℕ → List Field) (count other : Option ℕ) (size : ℕ) → count_if_both count other ≡ Ok size
      → answer_of_ref (option_map (fields_of words word) count) (option_map others other) field ≡ cond (nat_lt field size) (Ok tt) (Err HeapFault.NoField)
  ref_by_field others None other size is = cc
  ref_by_field others (Some count) None size is = cc
  ref_by_field others (Some count) (Some other) size is =
      let same : count ≡ size = cc in
      ap (λ (size : ℕ). cond (nat_lt field size) (Ok tt) (Err HeapFault.NoField)) (length-map-range_with_len _ 0 count ∙ same)

-- the calls of a reference that is set are those up to its store, and the store
pub ref_list : (count other : Option ℕ) (size field : ℕ) (walk second store : List Call) → count_if_both count other ≡ Ok size → nat_lt field size ≡ true
    → walk ++ where_object count (second ++ where_object other (where_field count field store)) ≡ (walk ++ where_object count second) ++ store
ref_list None other size field walk second store is test = cc
ref_list (Some count) None size field walk second store is test = cc
ref_list (Some count) (Some other) size field walk second store is test =
    let same : size ≡ count = cc in
    let there : nat_lt field count ≡ true = sym (ap (nat_lt field) same) ∙ test in
    ap (λ test. walk ++ (second ++ cond test store [])) there ∙ sym (append_assoc walk second store)

-- a field that has a place is one of its object
pub count_there : (word field : ℕ) (count : Option ℕ) (place : ℕ) → place_if count word field ≡ Ok place → (n : ℕ) × (count ≡ Some n) × (field < n)
count_there word field None place is = cc
count_there word field (Some count) place is =
    let test : nat_lt field count ≡ true = (ok_by_test (nat_lt field count) (field_place word field) place HeapFault.NoField is).0 in
    let below : field < count = grind (arith, nat_tests) in
    (count, refl, below)

pub both_there : (count other : Option ℕ) (n : ℕ) → count_if_both count other ≡ Ok n → count ≡ Some n
both_there None other n is = cc
both_there (Some count) None n is = cc
both_there (Some count) (Some other) n is = cc
