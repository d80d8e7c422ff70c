use Rattle.std.proofs.Common.{◌≡◌, ℕ, ◌+◌, ◌/◌, ◌%◌, ◌≤◌, Bool, true, false, cond, ◌&&◌, ◌==◌, not, length, length-append, List, [], ◌∷◌, ◌++◌, refl, sym, ◌∙◌, ap, subst, arith, Option, Some, None}
use Rattle.std.specs.Prelude.{nat_le, slice_index, is_some}
use Rattle.std.specs.List.{find}
use Rattle.std.proofs.lemmas.List.{append-nil}
use Rattle.std.proofs.lemmas.List.FromFn.{length-map-range_with_len}
use Rattle.std.proofs.lemmas.Bool.{and_parts, eqb-true, eq-eqb}
use Rattle.std.proofs.lemmas.Bool.Decides.{nat_tests}
use Rattle.casper_words.specs.declared.call.Call.{Call}
use Rattle.casper_space.specs.WordCalls.{write_of}
use Rattle.casper_heap.specs.declared.block.HeapBlock.{HeapBlock}
use Rattle.casper_heap.specs.Walk.{used_end, blocks_at, blocks_of, first_free, walk_end}
use Rattle.casper_heap.specs.Objects.{count_at, field_place}
use Rattle.casper_heap.specs.Answers.{place_of_new}
use Rattle.casper_heap.specs.HeapCalls.{object_writes, new_writes}
use Rattle.casper_heap.proofs.Tests.{Met, met, some_by_test, none_by_test, mapped}
use Rattle.casper_heap.proofs.Reaching.{Reaches, Found, found, reached_block, none_if}
use Rattle.casper_heap.proofs.Standing.{Stands, object_stands, stands_at, end_most}

not_true : (b : Bool) → not b ≡ true → b ≡ false
not_true true is = cc
not_true false is = refl

-- a free block that is found is one of the page's, with so many fields
pub record IsFree (words : List ℕ) (place count : ℕ) : Type 0 where
  pub reached : Reaches words (used_end words) 1 place
  pub fields : slice_index words place % 256 ≡ count
  pub free : (slice_index words place / 256 == 1) ≡ false

pub free_stands : (words : List ℕ) (count place : ℕ) → first_free (blocks_of words) count ≡ Some place → IsFree words place count
unfolding blocks_of
free_stands words count place is =
    let test : HeapBlock → Bool = λ block. not block.live && block.fields == count in
    let hit = mapped (λ (block : HeapBlock). block.place) (find test (blocks_at words (used_end words) 1)) place is in
    let block : HeapBlock = hit.0 in
    let at = found words (used_end words) test block 1 hit.1 in
    let parts = and_parts (not block.live) (block.fields == count) at.passes in
    let fields : block.fields ≡ count = eqb-true block.fields count parts.1 in
    let header : slice_index words block.place % 256 ≡ count = sym (ap (λ (b : HeapBlock). b.fields) at.is) ∙ fields in
    record {
      reached = subst (Reaches words (used_end words) 1) hit.2 at.reached;
      fields = sym (ap (λ at. slice_index words at % 256) hit.2) ∙ header;
      free = sym (ap (λ at. slice_index words at / 256 == 1) hit.2) ∙ sym (ap (λ (b : HeapBlock). b.live) at.is) ∙ not_true block.live parts.0;
    }

free_within : (words : List ℕ) (count place : ℕ) → IsFree words place count → place + count + 2 ≤ 512
free_within words count place so =
    let facts : Met words (used_end words) place = met words (used_end words) place (reached_block so.reached) in
    let most : used_end words ≤ 512 = end_most words in
    omega (arith, facts.ends, so.fields, most)

pub new_within_by : (words : List ℕ) (free : Option ℕ) (end count place : ℕ) → free ≡ first_free (blocks_of words) count
    → place_of_new free end count ≡ Some place → place + count + 2 ≤ 512
new_within_by words None end count place free is =
    let found = some_by_test (nat_le (end + count + 2) 512) end place is in
    let test : nat_le (end + count + 2) 512 ≡ true = found.0 in
    let same : end ≡ place = found.1 in
    grind (arith, nat_tests)
new_within_by words (Some at) end count place free is =
    let same : at ≡ place = cc in
    free_within words count place (free_stands words count place (sym free ∙ ap (λ at. Some at) same))

-- a new object lies within its page
pub new_within : (words : List ℕ) (count place : ℕ) → place_of_new (first_free (blocks_of words) count) (walk_end words) count ≡ Some place
    → place + count + 2 ≤ 512
new_within words count place is = new_within_by words (first_free (blocks_of words) count) (walk_end words) count place refl is

-- the writes of a new object, by its place
pub new_list : (free : Option ℕ) (page end count place : ℕ) → place_of_new free end count ≡ Some place
    → new_writes free page end count ≡ object_writes page place count ++ cond (is_some free) [] (write_of page 0 (place + count + 2) ∷ [])
new_list None page end count place is =
    let found = some_by_test (nat_le (end + count + 2) 512) end place is in
    ap (λ (test : Bool). cond test (object_writes page end count ++ write_of page 0 (end + count + 2) ∷ []) []) found.0
    ∙ ap (λ (at : ℕ). object_writes page at count ++ write_of page 0 (at + count + 2) ∷ []) found.1
new_list (Some at) page end count place is =
    let same : at ≡ place = cc in
    ap (λ (at : ℕ). object_writes page at count) same ∙ sym (append-nil (object_writes page place count))

pub new_none : (free : Option ℕ) (page end count : ℕ) → place_of_new free end count ≡ None → new_writes free page end count ≡ []
new_none None page end count is =
    ap (λ (test : Bool). cond test (object_writes page end count ++ write_of page 0 (end + count + 2) ∷ []) [])
    (none_by_test (nat_le (end + count + 2) 512) end is)
new_none (Some at) page end count is = cc

-- as many calls as words
pub length_object : (page place count : ℕ) → length (object_writes page place count) ≡ count + 2
unfolding object_writes
length_object page place count =
    let fields = length-map-range_with_len (λ (field : ℕ). write_of page (field_place place field) 0) 0 count in
    omega (arith, fields)

-- no object stands where a free block does
pub free_is_new : (words : List ℕ) (place count : ℕ) → IsFree words place count → count_at words place ≡ None
free_is_new words place count so =
    none_if (count_at words place)
    (λ n is.
    let stands : Stands words place n 1 = object_stands words place n is in
    let live : (slice_index words place / 256 == 1) ≡ true = eq-eqb (slice_index words place / 256) 1 stands.live in
    let free : (slice_index words place / 256 == 1) ≡ false = so.free in
    cc)

pub length_new : (page place count : ℕ) (free : Option ℕ) → length (object_writes page place count ++ cond (is_some free) [] (write_of page 0 (place + count + 2) ∷ [])) ≤ count + 3
length_new page place count None =
    let object = length_object page place count in
    let both = length-append (object_writes page place count) (write_of page 0 (place + count + 2) ∷ []) in
    omega (arith, object, both)
length_new page place count (Some at) =
    let object = length_object page place count in
    let both = length-append (object_writes page place count) [] in
    omega (arith, object, both)
