use Rattle.std.specs.Prelude.{ℕ, ◌+◌, ◌*◌, ◌/◌, ◌%◌, Bool, ◌&&◌, ◌==◌, cond, List, map, slice_index, slice_set, Option, None, Some, option_map}
use Rattle.std.specs.Int.{bit_at}
use Rattle.std.specs.List.{range_with_len}
use Rattle.casper_words.specs.declared.page.Ref.{Ref}
use Rattle.casper_heap.specs.Walk.{blocks_of, fields_in}

-- what a field holds: a number, or a reference to a word of a page
pub data Field : Type 0 where
  Number : ℕ → Field
  Reference : ℕ → ℕ → Field

-- the number that a field is stored as
abbrev pub value_of : Field → ℕ
value_of (Number value) = value
value_of (Reference page word) = 512 * page + word

-- a field by its bit of the tag word and its own word
abbrev pub field_of : ℕ → ℕ → Field
field_of tag value = cond (tag == 1) (Reference (value / 512) (value % 512)) (Number value)

-- the place of a field of the object at a place
abbrev pub field_place : ℕ → ℕ → ℕ
field_place place field = place + 2 + field

-- the fields of a block of so many at a place
abbrev pub fields_of : List ℕ → ℕ → ℕ → List Field
fields_of words place count =
    map (λ field. field_of (bit_at (slice_index words (place + 1)) field) (slice_index words (field_place place field))) (range_with_len 0 count)

-- the number of fields of the object at a place, where there is one
abbrev pub count_at : List ℕ → ℕ → Option ℕ
count_at words place = fields_in (blocks_of words) place

-- the objects: what each reference names, a live block that the walk of its page meets
abbrev pub objects_of : (ℕ → List ℕ) → Ref → Option (List Field)
objects_of pages r = option_map (fields_of (pages r.page) r.word) (count_at (pages r.page) r.word)

abbrev pub is_same_ref : Ref → Ref → Bool
is_same_ref one other = one.page == other.page && one.word == other.word

-- objects with another thing at one reference; every other object stays
abbrev pub with_object : (Ref → Option (List Field)) → Ref → Option (List Field) → Ref → Option (List Field)
with_object objects r object other = cond (is_same_ref other r) object (objects other)

-- objects with one field of one object changed; every other field and object stays
abbrev pub with_field : (Ref → Option (List Field)) → Ref → ℕ → Field → Ref → Option (List Field)
with_field objects r field content = with_object objects r (option_map (λ fields. slice_set fields field content) (objects r))
