use Rattle.std.proofs.Common.{◌≡◌, ℕ, ◌+◌, ◌/◌, ◌%◌, ◌≤◌, Bool, true, false, cond, List, [], ◌∷◌, ◌++◌, replicate, length, refl, sym, ◌∙◌, ap, subst, arith, Option, Some, None}
use Rattle.std.specs.Prelude.{nat_le, slice_index, is_some}
use Rattle.std.proofs.lemmas.List.{append-nil}
use Rattle.casper_words.specs.declared.call.Call.{Call}
use Rattle.casper_words.specs.declared.page.Ref.{Ref}
use Rattle.casper_space.specs.WordCalls.{write_of, with_word, words_after}
use Rattle.casper_space.proofs.Making.{words_after_both}
use Rattle.casper_heap.specs.Walk.{used_end, blocks_of, first_free, walk_end}
use Rattle.casper_heap.specs.Objects.{Number, count_at, objects_of, with_object}
use Rattle.casper_heap.specs.Answers.{place_of_new}
use Rattle.casper_heap.specs.HeapCalls.{object_writes}
use Rattle.casper_heap.proofs.Tests.{some_by_test}
use Rattle.casper_heap.proofs.Reaching.{none_if}
use Rattle.casper_heap.proofs.Extending.{end_after_low, reached_ends}
use Rattle.casper_heap.proofs.Standing.{Stands, stands_at, object_stands}
use Rattle.casper_heap.proofs.NewPlaces.{IsFree, free_stands, free_is_new, new_within_by}
use Rattle.casper_heap.proofs.Making.{Written, written, reused_objects, added_objects}

walk_end_low : (words : List ℕ) → 1 ≤ walk_end words
unfolding blocks_of
walk_end_low words = end_after_low words (used_end words) 1

end_is_new : (words : List ℕ) → count_at words (walk_end words) ≡ None
unfolding blocks_of
end_is_new words =
    none_if (count_at words (walk_end words))
    (λ n is.
    let so : Stands words (walk_end words) n 1 = object_stands words (walk_end words) n is in
    let ends = reached_ends so.reached in
    omega arith)

-- no object stands where a new one goes
pub place_is_new : (words : List ℕ) (free : Option ℕ) (end count place : ℕ) → free ≡ first_free (blocks_of words) count → end ≡ walk_end words
    → place_of_new free end count ≡ Some place → count_at words place ≡ None
place_is_new words None end count place freed ends is =
    let found = some_by_test (nat_le (end + count + 2) 512) end place is in
    ap (count_at words) (sym found.1 ∙ ends) ∙ end_is_new words
place_is_new words (Some at) end count place freed ends is =
    let same : at ≡ place = cc in
    free_is_new words place count (free_stands words count place (sym freed ∙ ap (λ (at : ℕ). Some at) same))

-- what the writes of a new object leave of the objects
pub new_objects : (pages last : ℕ → List ℕ) (page count place end : ℕ) (free : Option ℕ) → free ≡ first_free (blocks_of (pages page)) count
    → end ≡ walk_end (pages page) → place_of_new free end count ≡ Some place → 1 ≤ count → count ≤ 64 → length (pages page) ≡ 512
    → last ≡ words_after pages (object_writes page place count ++ cond (is_some free) [] (write_of page 0 (place + count + 2) ∷ []))
    → (other : Ref) → objects_of last other ≡ with_object (objects_of pages) (record { page = page; word = place }) (Some (replicate count (Number 0))) other
new_objects pages last page count place end None freed ends is some few long become other =
    let found = some_by_test (nat_le (end + count + 2) 512) end place is in
    let stop : walk_end (pages page) ≡ place = sym ends ∙ found.1 in
    let low : 1 ≤ walk_end (pages page) = walk_end_low (pages page) in
    let within : place + count + 2 ≤ 512 = new_within_by (pages page) None end count place freed is in
    added_objects pages (words_after pages (object_writes page place count)) last (record { page = page; word = place }) count some few stop
    (omega (arith, low, stop)) within (written pages page place count long within)
    (become ∙ words_after_both pages (object_writes page place count) (write_of page 0 (place + count + 2) ∷ [])) other
new_objects pages last page count place end (Some at) freed ends is some few long become other =
    let same : at ≡ place = cc in
    let so : IsFree (pages page) place count = free_stands (pages page) count place (sym freed ∙ ap (λ (at : ℕ). Some at) same) in
    let within : place + count + 2 ≤ 512 = new_within_by (pages page) (Some at) end count place freed is in
    let after = words_after pages (object_writes page place count) in
    let stands : Stands (pages page) place count (slice_index (pages page) place / 256) =
    stands_at (pages page) place count (slice_index (pages page) place / 256) so.reached so.fields refl in
    ap (λ (pages : ℕ → List ℕ). objects_of pages other)
    (become ∙ ap (λ (calls : List Call). words_after pages calls) (append-nil (object_writes page place count)))
    ∙ reused_objects pages after (record { page = page; word = place }) count (slice_index (pages page) place / 256) stands
    (written pages page place count long within) other
