use Rattle.std.specs.Prelude.{◌≡◌, ℕ, ◌+◌, ◌≤◌, List, [], ◌∷◌, ◌⊎◌}
use Rattle.casper_rec.specs.declared.field.Field.{Field}

-- a field of four or eight bytes that ends within a block
pub record IsField (field : Field) : Type 0 where
  pub width : (field.width ≡ 4) ⊎ (field.width ≡ 8)
  pub within : field.offset + field.width ≤ 4096

-- each field begins at or after the end of the one before, the first one at or after this byte
abbrev pub StandFrom : ℕ → List Field → Type 0
StandFrom byte [] = Unit {0}
StandFrom byte (field ∷ fields) = (byte ≤ field.offset) × IsField field × StandFrom (field.offset + field.width) fields

-- the fields of a record
abbrev pub IsTable : List Field → Type 0
IsTable fields = StandFrom 0 fields
