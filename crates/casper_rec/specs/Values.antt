use Rattle.std.specs.Prelude.{◌≡◌, ℕ, ◌+◌, ◌<◌, ◌≤◌, ◌^◌, List, [], ◌∷◌, ◌++◌, take, drop, map, All, ◌⊎◌}
use Rattle.byteorder.specs.Endian.{little_bytes, little_number}
use Rattle.casper_rec.specs.declared.field.Field.{Field}

-- the number in a field of a block, whose lowest byte comes first
unfoldable pub value_at : List ℕ → Field → ℕ
value_at block field = little_number field.width (drop field.offset block)

-- the numbers in the fields of a block
abbrev pub values_of : List Field → List ℕ → List ℕ
values_of fields block = map (λ field. value_at block field) fields

-- the block with a number in a field
unfoldable pub with_value : List ℕ → Field → ℕ → List ℕ
with_value block field value = take field.offset block ++ little_bytes field.width value ++ drop (field.offset + field.width) block

-- the block with the numbers in the fields
abbrev pub with_values : List Field → List ℕ → List ℕ → List ℕ
with_values [] values block = block
with_values (field ∷ fields) [] block = block
with_values (field ∷ fields) (value ∷ values) block = with_values fields values (with_value block field value)

-- each number of a field of four bytes is below 2^32
abbrev pub FitFields : List Field → List ℕ → Type 0
FitFields [] values = Unit {0}
FitFields (field ∷ fields) [] = Unit {0}
FitFields (field ∷ fields) (value ∷ values) = (field.width ≡ 4 → value < 2 ^ 32) × FitFields fields values

-- the byte at a place is in none of the fields
abbrev pub IsOutside : List Field → ℕ → Type 0
IsOutside fields place = All (λ field. (place < field.offset) ⊎ (field.offset + field.width ≤ place)) fields
