use Rattle.std.specs.Prelude.{ℕ, ◌+◌, ◌*◌, ◌^◌, ◌==◌, nat_lt, nat_le, cond, List, [], ◌∷◌, ◌++◌, map, slice_index, bit_and, bit_or, Option, None, Some}
use Rattle.std.specs.Int.{w64, bit_not}
use Rattle.std.specs.List.{range_with_len}
use Rattle.casper_words.specs.declared.call.Call.{Call}
use Rattle.casper_words.specs.declared.page.Ref.{Ref}
use Rattle.casper_space.specs.WordCalls.{write_of}
use Rattle.casper_heap.specs.Walk.{read_at, walk_calls, blocks_of, walk_end, first_free}
use Rattle.casper_heap.specs.Objects.{count_at, field_place}

-- a tag word with the bit of a field set, or clear
abbrev pub with_tag : ℕ → ℕ → ℕ
with_tag tags field = bit_or tags (2 ^ field)

abbrev pub without_tag : ℕ → ℕ → ℕ
without_tag tags field = bit_and tags (bit_not w64 (2 ^ field))

-- calls that are made where there is an object
abbrev pub where_object : Option ℕ → List Call → List Call
where_object None calls = []
where_object (Some count) calls = calls

-- calls that are made where there is an object with this field
abbrev pub where_field : Option ℕ → ℕ → List Call → List Call
where_field None field calls = []
where_field (Some count) field calls = cond (nat_lt field count) calls []

-- the tag word of the object at a place
abbrev pub tags_at : List ℕ → ℕ → ℕ
tags_at words place = slice_index words (place + 1)

abbrev pub count_of : (ℕ → List ℕ) → Ref → Option ℕ
count_of pages r = count_at (pages r.page) r.word

-- the calls that store a number in a field of the object at a place, and tags
abbrev pub store_calls : ℕ → List ℕ → ℕ → ℕ → ℕ → ℕ → List Call
store_calls page words place field value tags =
    read_at page words (place + 1) ∷ write_of page (field_place place field) value ∷ write_of page (place + 1) tags ∷ []

abbrev pub set_calls : (ℕ → List ℕ) → Ref → ℕ → ℕ → List Call
set_calls pages r field value =
    walk_calls pages r.page
    ++ where_field (count_of pages r) field (store_calls r.page (pages r.page) r.word field value (without_tag (tags_at (pages r.page) r.word) field))

-- the walk of the page of a second reference, where that is another page
abbrev pub second_walk : (ℕ → List ℕ) → Ref → Ref → List Call
second_walk pages r to = cond (to.page == r.page) [] (walk_calls pages to.page)

abbrev pub ref_calls : (ℕ → List ℕ) → Ref → ℕ → Ref → List Call
ref_calls pages r field to =
    walk_calls pages r.page
    ++ where_object (count_of pages r) (second_walk pages r to
    ++ where_object (count_of pages to) (where_field (count_of pages r) field
    (store_calls r.page (pages r.page) r.word field (512 * to.page + to.word) (with_tag (tags_at (pages r.page) r.word) field))))

abbrev pub get_calls : (ℕ → List ℕ) → Ref → ℕ → List Call
get_calls pages r field =
    walk_calls pages r.page
    ++ where_field (count_of pages r) field (read_at r.page (pages r.page) (field_place r.word field) ∷ [])

abbrev pub follow_calls : (ℕ → List ℕ) → Ref → ℕ → List Call
follow_calls pages r field =
    walk_calls pages r.page
    ++ where_field (count_of pages r) field
    (read_at r.page (pages r.page) (r.word + 1) ∷ read_at r.page (pages r.page) (field_place r.word field) ∷ [])

-- the write of the header of a free block in place of that of an object
abbrev pub free_write : Option ℕ → Ref → List Call
free_write None r = []
free_write (Some count) r = write_of r.page r.word count ∷ []

abbrev pub free_calls : (ℕ → List ℕ) → Ref → List Call
free_calls pages r = walk_calls pages r.page ++ free_write (count_of pages r) r

abbrev pub field_writes : ℕ → ℕ → ℕ → List Call
field_writes page place count = map (λ field. write_of page (field_place place field) 0) (range_with_len 0 count)

-- the writes of an object of so many fields, all of them the number 0
unfoldable pub object_writes : ℕ → ℕ → ℕ → List Call
object_writes page place count =
    write_of page place (256 + count) ∷ write_of page (place + 1) 0 ∷ field_writes page place count

-- the writes of a new object: in the free block, or at the walk's end where it fits
abbrev pub new_writes : Option ℕ → ℕ → ℕ → ℕ → List Call
new_writes (Some place) page end count = object_writes page place count
new_writes None page end count =
    cond (nat_le (end + count + 2) 512) (object_writes page end count ++ write_of page 0 (end + count + 2) ∷ []) []

abbrev pub new_calls : (ℕ → List ℕ) → ℕ → ℕ → List Call
new_calls pages page count =
    walk_calls pages page ++ new_writes (first_free (blocks_of (pages page)) count) page (walk_end (pages page)) count
