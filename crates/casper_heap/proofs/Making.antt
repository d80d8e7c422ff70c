use Rattle.std.proofs.Common.{◌≡◌, ◌≢◌, ℕ, zero, suc, ◌+◌, ◌*◌, ◌/◌, ◌%◌, ◌<◌, ◌≤◌, Bool, true, false, cond, ◌&&◌, List, [], ◌∷◌, ◌++◌, map, replicate, min, max, length, refl, sym, ◌∙◌, ap, subst, arith, inl, inr, Option, Some, None}
use Rattle.std.specs.Prelude.{◌==◌, slice_index, slice_set, option_map, is_some}
use Rattle.std.specs.List.{range_with_len}
use Rattle.std.proofs.Math.ListN.{length-set}
use Rattle.std.proofs.lemmas.List.{get_or-set_other, get_or-set_same}
use Rattle.std.proofs.lemmas.Bool.{cases_Bool, cases_lt, eq-eqb, eqb-true, eqb-false}
use Rattle.casper_words.specs.declared.call.Call.{Call}
use Rattle.casper_words.specs.declared.page.Ref.{Ref}
use Rattle.casper_space.specs.WordCalls.{write_of, with_word, words_after}
use Rattle.casper_space.proofs.Making.{words_after_both}
use Rattle.casper_heap.specs.Walk.{used_end, end_of, blocks_at, blocks_of, fields_in, walk_end}
use Rattle.casper_heap.specs.Objects.{Field, Number, field_place, fields_of, count_at, objects_of, with_object}
use Rattle.casper_heap.specs.HeapCalls.{field_writes, object_writes}
use Rattle.casper_heap.proofs.Reaching.{none_if}
use Rattle.casper_heap.proofs.Extending.{extended, reached_ends}
use Rattle.casper_heap.proofs.Standing.{Stands, stands_at, object_stands}
use Rattle.casper_heap.proofs.Contents.{fields_same, fields_zero}
use Rattle.casper_heap.proofs.Effects.{object_at, headed, pages_changed}
use Rattle.casper_heap.proofs.Storing.{set_here, set_elsewhere}

-- zeros were written into fields from one on
record Cleared (pages after : ℕ → List ℕ) (page place from count : ℕ) : Type 0 where
  elsewhere : (at : ℕ) → (at == page) ≡ false → after at ≡ pages at
  long : length (after page) ≡ 512
  zeros : (k : ℕ) → from ≤ k → k < from + count → slice_index (after page) (field_place place k) ≡ 0
  low : (k : ℕ) → k < place + 2 + from → slice_index (after page) k ≡ slice_index (pages page) k
  high : (k : ℕ) → place + 2 + from + count ≤ k → slice_index (after page) k ≡ slice_index (pages page) k

cleared : (pages : ℕ → List ℕ) (page place from count : ℕ) → length (pages page) ≡ 512 → place + from + count + 2 ≤ 512
    → Cleared pages (words_after pages (map (λ field. write_of page (field_place place field) 0) (range_with_len from count))) page place from count
cleared pages page place from zero long within = record {
  elsewhere = λ at ne. refl;
  long = long;
  zeros = λ k low high. absurd (omega arith);
  low = λ k below. refl;
  high = λ k above. refl;
}
cleared pages page place from (suc count) long within =
    let once = with_word pages page (field_place place from) 0 in
    let here : once page ≡ slice_set (pages page) (field_place place from) 0 = set_here pages page (field_place place from) 0 in
    let size : length (once page) ≡ 512 = ap length here ∙ length-set (pages page) (field_place place from) 0 ∙ long in
    let rest = cleared once page place (from + 1) count size (omega arith) in
    let after = words_after once (map (λ field. write_of page (field_place place field) 0) (range_with_len (from + 1) count)) in
    record {
      elsewhere = λ at ne. rest.elsewhere at ne ∙ set_elsewhere pages page (field_place place from) 0 at ne;
      long = rest.long;
      zeros = λ k low high. elim (cases_lt from k) [
        | inl later ↦ rest.zeros k (omega arith) (omega arith)
        | inr first ↦
            let same : k ≡ from = omega arith in
            ap (λ (k : ℕ). slice_index (after page) (field_place place k)) same ∙ rest.low (field_place place from) (omega arith)
            ∙ ap (λ (words : List ℕ). slice_index words (field_place place from)) here
            ∙ get_or-set_same (pages page) (field_place place from) 0 0 (omega arith)
      ];
      low = λ k below. rest.low k (omega arith) ∙ ap (λ (words : List ℕ). slice_index words k) here
          ∙ get_or-set_other (pages page) (field_place place from) k 0 0 (omega arith);
      high = λ k above. rest.high k (omega arith) ∙ ap (λ (words : List ℕ). slice_index words k) here
          ∙ get_or-set_other (pages page) (field_place place from) k 0 0 (omega arith);
    }

-- an object of zeros was written
pub record Written (pages after : ℕ → List ℕ) (page place count : ℕ) : Type 0 where
  pub elsewhere : (at : ℕ) → (at == page) ≡ false → after at ≡ pages at
  pub long : length (after page) ≡ 512
  pub header : slice_index (after page) place ≡ 256 + count
  pub tags : slice_index (after page) (place + 1) ≡ 0
  pub zeros : (k : ℕ) → k < count → slice_index (after page) (field_place place k) ≡ 0
  pub low : (k : ℕ) → k < place → slice_index (after page) k ≡ slice_index (pages page) k
  pub high : (k : ℕ) → place + count + 2 ≤ k → slice_index (after page) k ≡ slice_index (pages page) k

pub written : (pages : ℕ → List ℕ) (page place count : ℕ) → length (pages page) ≡ 512 → place + count + 2 ≤ 512
    → Written pages (words_after pages (object_writes page place count)) page place count
unfolding object_writes
written pages page place count long within =
    let once = with_word pages page place (256 + count) in
    let twice = with_word once page (place + 1) 0 in
    let here : twice page ≡ slice_set (slice_set (pages page) place (256 + count)) (place + 1) 0 =
    set_here once page (place + 1) 0 ∙ ap (λ (words : List ℕ). slice_set words (place + 1) 0) (set_here pages page place (256 + count)) in
    let first : length (slice_set (pages page) place (256 + count)) ≡ length (pages page) = length-set (pages page) place (256 + count) in
    let second : length (slice_set (slice_set (pages page) place (256 + count)) (place + 1) 0) ≡ length (slice_set (pages page) place (256 + count)) =
    length-set (slice_set (pages page) place (256 + count)) (place + 1) 0 in
    let size : length (twice page) ≡ 512 = ap length here ∙ second ∙ first ∙ long in
    let so = cleared twice page place 0 count size (omega arith) in
    let stays : (k : ℕ) → k ≢ place → k ≢ place + 1 → slice_index (twice page) k ≡ slice_index (pages page) k =
    λ k ne other. ap (λ (words : List ℕ). slice_index words k) here
    ∙ get_or-set_other (slice_set (pages page) place (256 + count)) (place + 1) k 0 0 other
    ∙ get_or-set_other (pages page) place k (256 + count) 0 ne in
    record {
      elsewhere = λ at ne. so.elsewhere at ne ∙ set_elsewhere once page (place + 1) 0 at ne ∙ set_elsewhere pages page place (256 + count) at ne;
      long = so.long;
      header = so.low place (omega arith) ∙ ap (λ (words : List ℕ). slice_index words place) here
          ∙ get_or-set_other (slice_set (pages page) place (256 + count)) (place + 1) place 0 0 (omega arith)
          ∙ get_or-set_same (pages page) place (256 + count) 0 (omega arith);
      tags = so.low (place + 1) (omega arith) ∙ ap (λ (words : List ℕ). slice_index words (place + 1)) here
          ∙ get_or-set_same (slice_set (pages page) place (256 + count)) (place + 1) 0 0 (omega (arith, first));
      zeros = λ k below. so.zeros k (omega arith) (omega arith);
      low = λ k below. so.low k (omega arith) ∙ stays k (omega arith) (omega arith);
      high = λ k above. so.high k (omega arith) ∙ stays k (omega arith) (omega arith);
    }

-- an object was written into a free block
pub reused_objects : (pages after : ℕ → List ℕ) (r : Ref) (count kind : ℕ) → Stands (pages r.page) r.word count kind
    → Written pages after r.page r.word count → (other : Ref) → objects_of after other ≡ with_object (objects_of pages) r (Some (replicate count (Number 0))) other
reused_objects pages after r count kind stands so other =
    let header : slice_index (after r.page) r.word ≡ 256 + count = so.header in
    let few : count ≤ 64 = stands.few in
    let fields : fields_of (after r.page) r.word count ≡ replicate count (Number 0) = fields_zero (after r.page) r.word count so.tags so.zeros in
    pages_changed pages after r (Some (replicate count (Number 0))) so.elsewhere
    (λ place. headed (pages r.page) (after r.page) r.word count kind stands so.low so.high 1 (omega arith) (omega (arith, header)) (omega (arith, header)) place
    ∙ ap (λ (fields : List Field). cond (place == r.word) (Some fields) (object_at (pages r.page) place)) fields)
    other

-- an object was written where the walk had stopped, and the first word tells its end
module _ (words changed : List ℕ) (stop count : ℕ) (some : 1 ≤ count) (few : count ≤ 64) (stop_is : walk_end words ≡ stop)
    (within : stop + count + 2 ≤ 512) (first : slice_index changed 0 ≡ stop + count + 2) (header : slice_index changed stop ≡ 256 + count)
    (low : (k : ℕ) → 1 ≤ k → k < stop → slice_index changed k ≡ slice_index words k) where
  last_end : used_end changed ≡ stop + count + 2
  last_end = ap end_of first ∙ (let e : min (max (stop + count + 2) 1) 512 ≡ stop + count + 2 = omega arith in e)

  before_stop : (other n : ℕ) → Stands words other n 1 → other + n + 2 ≤ stop
  unfolding blocks_of
  before_stop other n so =
      let ends = reached_ends so.reached in
      let size : slice_index words other % 256 ≡ n = so.fields in
      omega (arith, ends, size, stop_is)

  more_by_count : (other : ℕ) (choice : Option ℕ) → count_at words other ≡ choice
      → option_map (fields_of changed other) choice ≡ option_map (fields_of words other) choice
  more_by_count other None is = refl
  more_by_count other (Some n) is =
      let so : Stands words other n 1 = object_stands words other n is in
      let ends : other + n + 2 ≤ stop = before_stop other n so in
      ap (λ (fields : List Field). Some fields)
      (fields_same words changed other n so.some (λ k from below. low k (omega arith) (omega arith)))

  -- nothing was there
  pub stop_is_new : count_at words stop ≡ None
  stop_is_new = none_if (count_at words stop) (λ n is.
      let ends : stop + n + 2 ≤ stop = before_stop stop n (object_stands words stop n is) in
      omega arith)

  pub added : (other : ℕ) → object_at changed other ≡ cond (other == stop) (Some (fields_of changed stop count)) (object_at words other)
  unfolding blocks_of
  added other =
      ap (λ (end : ℕ). option_map (fields_of changed other) (fields_in (blocks_at changed end 1) other)) last_end
      ∙ ap (option_map (fields_of changed other))
      (extended words changed (used_end words) stop count some few (omega (arith, header)) (omega (arith, header)) low other 1 (omega arith) stop_is)
      ∙ elim (cases_Bool (other == stop)) [
        | inl same ↦
            let equal : other ≡ stop = eqb-true other stop same in
            ap (λ (test : Bool). option_map (fields_of changed other) (cond test (Some count) (count_at words other))) same
            ∙ ap (λ (at : ℕ). Some (fields_of changed at count)) equal
            ∙ sym (ap (λ (test : Bool). cond test (Some (fields_of changed stop count)) (object_at words other)) same)
        | inr apart_from ↦
            ap (λ (test : Bool). option_map (fields_of changed other) (cond test (Some count) (count_at words other))) apart_from
            ∙ more_by_count other (count_at words other) refl
            ∙ sym (ap (λ (test : Bool). cond test (Some (fields_of changed stop count)) (object_at words other)) apart_from)
      ]

pub added_objects : (pages after last : ℕ → List ℕ) (r : Ref) (count : ℕ) → 1 ≤ count → count ≤ 64 → walk_end (pages r.page) ≡ r.word → 1 ≤ r.word
    → r.word + count + 2 ≤ 512 → Written pages after r.page r.word count → last ≡ with_word after r.page 0 (r.word + count + 2)
    → (other : Ref) → objects_of last other ≡ with_object (objects_of pages) r (Some (replicate count (Number 0))) other
added_objects pages after last r count some few stop_is low within so become other =
    let words = slice_set (after r.page) 0 (r.word + count + 2) in
    let here : last r.page ≡ words = ap (λ (pages : ℕ → List ℕ). pages r.page) become ∙ set_here after r.page 0 (r.word + count + 2) in
    let size : length (after r.page) ≡ 512 = so.long in
    let stays : (k : ℕ) → 1 ≤ k → slice_index words k ≡ slice_index (after r.page) k =
    λ k from. get_or-set_other (after r.page) 0 k (r.word + count + 2) 0 (omega arith) in
    let fields : fields_of words r.word count ≡ replicate count (Number 0) =
    fields_zero words r.word count (stays (r.word + 1) (omega arith) ∙ so.tags) (λ k below. stays (field_place r.word k) (omega arith) ∙ so.zeros k below) in
    pages_changed pages last r (Some (replicate count (Number 0)))
    (λ page ne. ap (λ (pages : ℕ → List ℕ). pages page) become ∙ set_elsewhere after r.page 0 (r.word + count + 2) page ne ∙ so.elsewhere page ne)
    (λ place. ap (λ (words : List ℕ). object_at words place) here
    ∙ added (pages r.page) words r.word count some few stop_is within (get_or-set_same (after r.page) 0 (r.word + count + 2) 0 (omega arith))
    (stays r.word low ∙ so.header) (λ k from below. stays k from ∙ so.low k below) place
    ∙ ap (λ (fields : List Field). cond (place == r.word) (Some fields) (object_at (pages r.page) place)) fields)
    other
