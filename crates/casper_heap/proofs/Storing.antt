use Rattle.std.proofs.Common.{◌≡◌, ◌≢◌, ℕ, zero, suc, ◌+◌, ◌*◌, ◌/◌, ◌%◌, ◌<◌, ◌≤◌, Bool, true, false, cond, ◌&&◌, List, [], ◌∷◌, ◌++◌, map, length, refl, sym, ◌∙◌, ap, subst, arith, Option, Some, None}
use Rattle.std.specs.Prelude.{◌==◌, slice_index, slice_set, option_map}
use Rattle.std.specs.Int.{bit_at}
use Rattle.std.proofs.Math.ListN.{length-set}
use Rattle.std.proofs.lemmas.List.{get_or-set_other, get_or-set_same}
use Rattle.std.proofs.lemmas.Bool.{eq-eqb}
use Rattle.casper_words.specs.declared.page.Ref.{Ref}
use Rattle.casper_space.specs.WordCalls.{with_word}
use Rattle.casper_heap.specs.Objects.{Field, Number, Reference, field_of, field_place, fields_of, count_at, objects_of, with_object, with_field}
use Rattle.casper_heap.specs.HeapCalls.{with_tag, without_tag, tags_at}
use Rattle.casper_heap.proofs.Standing.{Stands, object_stands}
use Rattle.casper_heap.proofs.Contents.{fields_stored, tag_set, tag_set_other, tag_clear, tag_clear_other}
use Rattle.casper_heap.proofs.Effects.{object_at, stored, headed, pages_changed}

module _ (pages : ℕ → List ℕ) (page word value : ℕ) where
  pub set_here : with_word pages page word value page ≡ slice_set (pages page) word value
  set_here = ap (λ (test : Bool). cond test (slice_set (pages page) word value) (pages page)) (eq-eqb page page refl)

  pub set_elsewhere : (at : ℕ) → (at == page) ≡ false → with_word pages page word value at ≡ pages at
  set_elsewhere at ne = ap (λ (test : Bool). cond test (slice_set (pages page) word value) (pages at)) ne

-- a field and the tags were stored
module _ (words : List ℕ) (place count at value tags : ℕ) (content : Field) (long : length words ≡ 512)
    (is : count_at words place ≡ Some count) (below : at < count) (mine : field_of (bit_at tags at) value ≡ content)
    (others : (k : ℕ) → k < count → k ≢ at → bit_at tags k ≡ bit_at (slice_index words (place + 1)) k) where
  abbrev after_store : List ℕ
  after_store = slice_set (slice_set words (field_place place at) value) (place + 1) tags

  stays : (k : ℕ) → k ≢ field_place place at → k ≢ place + 1 → slice_index after_store k ≡ slice_index words k
  stays k ne other =
      get_or-set_other (slice_set words (field_place place at) value) (place + 1) k tags 0 other
      ∙ get_or-set_other words (field_place place at) k value 0 ne

  pub store_effect : (other : ℕ) → object_at after_store other
      ≡ cond (other == place) (option_map (λ fields. slice_set fields at content) (object_at words place)) (object_at words other)
  store_effect other =
      let so : Stands words place count 1 = object_stands words place count is in
      let ends : place + count + 2 ≤ 512 = so.ends in
      let size : length (slice_set words (field_place place at) value) ≡ length words = length-set words (field_place place at) value in
      let tags_are : slice_index after_store (place + 1) ≡ tags =
      get_or-set_same (slice_set words (field_place place at) value) (place + 1) tags 0 (omega (arith, size)) in
      let value_is : slice_index after_store (field_place place at) ≡ value =
      get_or-set_other (slice_set words (field_place place at) value) (place + 1) (field_place place at) tags 0 (omega arith)
      ∙ get_or-set_same words (field_place place at) value 0 (omega arith) in
      stored words after_store place count 1 so (λ k low. stays k (omega arith) (omega arith)) (λ k high. stays k (omega arith) (omega arith))
      (stays place (omega arith) (omega arith)) (option_map (λ fields. slice_set fields at content) (object_at words place))
      (ap (option_map (fields_of after_store place)) is
      ∙ ap (λ (fields : List Field). Some fields)
      (fields_stored words after_store place count at content below
      (ap (λ (tags : ℕ). field_of (bit_at tags at) (slice_index after_store (field_place place at))) tags_are
      ∙ ap (λ (value : ℕ). field_of (bit_at tags at) value) value_is ∙ mine)
      (λ k small ne. ap (λ (tags : ℕ). bit_at tags k) tags_are ∙ others k small ne)
      (λ k small ne. stays (field_place place k) (omega arith) (omega arith)))
      ∙ sym (ap (λ (choice : Option ℕ). option_map (λ fields. slice_set fields at content) (option_map (fields_of words place) choice)) is))
      other

-- the objects after a field and the tags of one of them were stored
pub stored_objects : (pages changed : ℕ → List ℕ) (r : Ref) (count at value tags : ℕ) (content : Field) → length (pages r.page) ≡ 512
    → count_at (pages r.page) r.word ≡ Some count → at < count → field_of (bit_at tags at) value ≡ content
    → ((k : ℕ) → k < count → k ≢ at → bit_at tags k ≡ bit_at (tags_at (pages r.page) r.word) k)
    → changed ≡ with_word (with_word pages r.page (field_place r.word at) value) r.page (r.word + 1) tags
    → (other : Ref) → objects_of changed other ≡ with_field (objects_of pages) r at content other
stored_objects pages changed r count at value tags content long is below mine others become other =
    let once = with_word pages r.page (field_place r.word at) value in
    let twice = with_word once r.page (r.word + 1) tags in
    let here : changed r.page ≡ slice_set (slice_set (pages r.page) (field_place r.word at) value) (r.word + 1) tags =
    ap (λ (pages : ℕ → List ℕ). pages r.page) become ∙ set_here once r.page (r.word + 1) tags
    ∙ ap (λ (words : List ℕ). slice_set words (r.word + 1) tags) (set_here pages r.page (field_place r.word at) value) in
    pages_changed pages changed r (option_map (λ fields. slice_set fields at content) (objects_of pages r))
    (λ page ne. ap (λ (pages : ℕ → List ℕ). pages page) become ∙ set_elsewhere once r.page (r.word + 1) tags page ne
    ∙ set_elsewhere pages r.page (field_place r.word at) value page ne)
    (λ place. ap (λ (words : List ℕ). object_at words place) here
    ∙ store_effect (pages r.page) r.word count at value tags content long is below mine others place)
    other

-- a field that was made a number
pub number_objects : (pages changed : ℕ → List ℕ) (r : Ref) (count at value : ℕ) → length (pages r.page) ≡ 512
    → count_at (pages r.page) r.word ≡ Some count → at < count
    → changed ≡ with_word (with_word pages r.page (field_place r.word at) value) r.page (r.word + 1) (without_tag (tags_at (pages r.page) r.word) at)
    → (other : Ref) → objects_of changed other ≡ with_field (objects_of pages) r at (Number value) other
number_objects pages changed r count at value long is below become other =
    let so : Stands (pages r.page) r.word count 1 = object_stands (pages r.page) r.word count is in
    let few : count ≤ 64 = so.few in
    stored_objects pages changed r count at value (without_tag (tags_at (pages r.page) r.word) at) (Number value) long is below
    (ap (λ (tag : ℕ). field_of tag value) (tag_clear (tags_at (pages r.page) r.word) at (omega arith)))
    (λ k small ne. tag_clear_other (tags_at (pages r.page) r.word) at k (omega arith) (omega arith) ne) become other

-- and one that was made a reference
pub reference_objects : (pages changed : ℕ → List ℕ) (r : Ref) (count at page word : ℕ) → length (pages r.page) ≡ 512
    → count_at (pages r.page) r.word ≡ Some count → at < count → word < 512
    → changed ≡ with_word (with_word pages r.page (field_place r.word at) (512 * page + word)) r.page (r.word + 1)
    (with_tag (tags_at (pages r.page) r.word) at)
    → (other : Ref) → objects_of changed other ≡ with_field (objects_of pages) r at (Reference page word) other
reference_objects pages changed r count at page word long is below small become other =
    let so : Stands (pages r.page) r.word count 1 = object_stands (pages r.page) r.word count is in
    let few : count ≤ 64 = so.few in
    let high : (512 * page + word) / 512 ≡ page = omega arith in
    let low : (512 * page + word) % 512 ≡ word = omega arith in
    stored_objects pages changed r count at (512 * page + word) (with_tag (tags_at (pages r.page) r.word) at) (Reference page word) long is below
    (ap (λ (tag : ℕ). field_of tag (512 * page + word)) (tag_set (tags_at (pages r.page) r.word) at (omega arith))
    ∙ ap (λ (to : ℕ). Reference to ((512 * page + word) % 512)) high ∙ ap (λ (to : ℕ). Reference page to) low)
    (λ k under ne. tag_set_other (tags_at (pages r.page) r.word) at k (omega arith) ne) become other

-- an object was freed
pub freed_objects : (pages changed : ℕ → List ℕ) (r : Ref) (count : ℕ) → length (pages r.page) ≡ 512
    → count_at (pages r.page) r.word ≡ Some count → changed ≡ with_word pages r.page r.word count
    → (other : Ref) → objects_of changed other ≡ with_object (objects_of pages) r None other
freed_objects pages changed r count long is become other =
    let words = pages r.page in
    let after = slice_set words r.word count in
    let so : Stands words r.word count 1 = object_stands words r.word count is in
    let ends : r.word + count + 2 ≤ 512 = so.ends in
    let few : count ≤ 64 = so.few in
    let header : slice_index after r.word ≡ count = get_or-set_same words r.word count 0 (omega arith) in
    pages_changed pages changed r None
    (λ page ne. ap (λ (pages : ℕ → List ℕ). pages page) become ∙ set_elsewhere pages r.page r.word count page ne)
    (λ place. ap (λ (words : List ℕ). object_at words place) (ap (λ (pages : ℕ → List ℕ). pages r.page) become ∙ set_here pages r.page r.word count)
    ∙ headed words after r.word count 1 so (λ k low. get_or-set_other words r.word k count 0 (omega arith))
    (λ k high. get_or-set_other words r.word k count 0 (omega arith)) 0 (omega arith) (omega (arith, header)) (omega (arith, header)) place)
    other
