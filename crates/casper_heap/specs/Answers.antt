use Rattle.std.specs.Prelude.{ℕ, ◌+◌, nat_lt, nat_le, cond, List, length, slice_get, Option, None, Some, Result, Ok, Err}
use Rattle.casper_words.specs.declared.page.Ref.{Ref}
use Rattle.casper_heap.specs.declared.fault.HeapFault.{HeapFault}
use Rattle.casper_heap.specs.declared.fault.PageFull.{PageFull}
use Rattle.casper_heap.specs.declared.fault.HeapFault.TheVariants.{NoObject, NoField, NotARef}
use Rattle.casper_heap.specs.Objects.{Field, Number, Reference, value_of, field_place}

-- whether an object has a field
abbrev pub answer_of_set : Option (List Field) → ℕ → Result (Unit {0}) HeapFault
answer_of_set None field = Err HeapFault.NoObject
answer_of_set (Some fields) field = cond (nat_lt field (length fields)) (Ok tt) (Err HeapFault.NoField)

-- whether there are both objects, and the field of the first
abbrev pub answer_of_ref : Option (List Field) → Option (List Field) → ℕ → Result (Unit {0}) HeapFault
answer_of_ref None target field = Err HeapFault.NoObject
answer_of_ref (Some fields) None field = Err HeapFault.NoObject
answer_of_ref (Some fields) (Some others) field = answer_of_set (Some fields) field

-- a field as a number
abbrev pub number_of : Option Field → Result ℕ HeapFault
number_of None = Err HeapFault.NoField
number_of (Some content) = Ok (value_of content)

abbrev pub answer_of_get : Option (List Field) → ℕ → Result ℕ HeapFault
answer_of_get None field = Err HeapFault.NoObject
answer_of_get (Some fields) field = number_of (slice_get fields field)

-- a field as a reference to a page of a store of so many
abbrev pub target_of : ℕ → Option Field → Result Ref HeapFault
target_of pages None = Err HeapFault.NoField
target_of pages (Some (Number value)) = Err HeapFault.NotARef
target_of pages (Some (Reference page word)) = cond (nat_lt page pages) (Ok (record { page = page; word = word })) (Err HeapFault.NotARef)

abbrev pub answer_of_follow : ℕ → Option (List Field) → ℕ → Result Ref HeapFault
answer_of_follow pages None field = Err HeapFault.NoObject
answer_of_follow pages (Some fields) field = target_of pages (slice_get fields field)

abbrev pub answer_of_free : Option (List Field) → Result (Unit {0}) HeapFault
answer_of_free None = Err HeapFault.NoObject
answer_of_free (Some fields) = Ok tt

-- the place of a field, by the number of fields of its object
abbrev pub place_if : Option ℕ → ℕ → ℕ → Result ℕ HeapFault
place_if None place field = Err HeapFault.NoObject
place_if (Some count) place field = cond (nat_lt field count) (Ok (field_place place field)) (Err HeapFault.NoField)

-- the number of fields of the first of two objects, where both are there
abbrev pub count_if_both : Option ℕ → Option ℕ → Result ℕ HeapFault
count_if_both None other = Err HeapFault.NoObject
count_if_both (Some count) None = Err HeapFault.NoObject
count_if_both (Some count) (Some other) = Ok count

-- where a new object goes: into the first free block of its size, or to the walk's end where it fits
abbrev pub place_of_new : Option ℕ → ℕ → ℕ → Option ℕ
place_of_new (Some place) end count = Some place
place_of_new None end count = cond (nat_le (end + count + 2) 512) (Some end) None

abbrev pub answer_of_new : Option ℕ → ℕ → Result Ref PageFull
answer_of_new None page = Err (record {})
answer_of_new (Some place) page = Ok (record { page = page; word = place })
