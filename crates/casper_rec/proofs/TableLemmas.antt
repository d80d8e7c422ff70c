use Rattle.std.proofs.Common.{◌≡◌, ℕ, zero, suc, ◌+◌, ◌<◌, ◌≤◌, ◌^◌, List, [], ◌∷◌, length, get_or, take, drop, refl, sym, ◌∙◌, ap, arith}
use Rattle.std.proofs.lemmas.List.{drop_all}
use Rattle.byteorder.specs.Endian.{little_number}
use Rattle.casper_rec.specs.declared.field.Field.{Field}
use Rattle.casper_rec.specs.Table.{IsField, StandFrom}
use Rattle.casper_rec.specs.Values.{value_at, values_of, with_value, with_values, FitFields, IsOutside}
use Rattle.casper_rec.proofs.FieldLemmas.{length-with_value, take-with_value, value_at-take, fits_width, value_at-with_value, byte_outside}

-- each item of a table is a field
pub field_at : (byte : ℕ) (fields : List Field) (k : ℕ) (d : Field) → StandFrom byte fields → k < length fields → IsField (get_or fields k d)
field_at byte [] k d stand within = absurd (omega arith)
field_at byte (field ∷ fields) zero d stand within = stand.1
field_at byte (field ∷ fields) (suc k) d stand within = field_at (field.offset + field.width) fields k d stand.2 (omega arith)

-- each number of a field of four bytes is below 2^32
pub fits_at : (fields : List Field) (values : List ℕ) (k : ℕ) (d : Field) (e : ℕ) → FitFields fields values → k < length fields → k < length values → (get_or fields k d).width ≡ 4 → get_or values k e < 2 ^ 32
fits_at [] values k d e fit within in_values four = absurd (omega arith)
fits_at (field ∷ fields) [] k d e fit within in_values four = absurd (omega arith)
fits_at (field ∷ fields) (value ∷ values) zero d e fit within in_values four = fit.0 four
fits_at (field ∷ fields) (value ∷ values) (suc k) d e fit within in_values four = fits_at fields values k d e fit.1 (omega arith) (omega arith) four

-- one more number is written
pub with_more : (fields : List Field) (values : List ℕ) (block : List ℕ) (k : ℕ) (d : Field) → k < length fields → k < length values
    → with_values (drop k fields) (drop k values) block ≡ with_values (drop (k + 1) fields) (drop (k + 1) values) (with_value block (get_or fields k d) (get_or values k 0))
with_more [] values block k d within in_values = absurd (omega arith)
with_more (field ∷ fields) [] block k d within in_values = absurd (omega arith)
with_more (field ∷ fields) (value ∷ values) block zero d within in_values = refl
with_more (field ∷ fields) (value ∷ values) block (suc k) d within in_values =
    let next : suc k + 1 ≡ suc (k + 1) = omega arith in
    with_more fields values block k d (omega arith) (omega arith)
    ∙ ap (λ n. with_values (drop n (field ∷ fields)) (drop n (value ∷ values)) (with_value block (get_or fields k d) (get_or values k 0))) (sym next)

-- a block keeps its length where numbers are written
pub length-with_values : (byte : ℕ) (fields : List Field) (values : List ℕ) (block : List ℕ) → StandFrom byte fields → length block ≡ 4096 → length (with_values fields values block) ≡ 4096
length-with_values byte [] values block stand long = long
length-with_values byte (field ∷ fields) [] block stand long = long
length-with_values byte (field ∷ fields) (value ∷ values) block stand long =
    length-with_values (field.offset + field.width) fields values (with_value block field value) stand.2 (length-with_value block field value stand.1 long)

-- the bytes in front of a table stay
pub take-with_values : (byte : ℕ) (fields : List Field) (values : List ℕ) (block : List ℕ) (place : ℕ) → StandFrom byte fields → length block ≡ 4096 → place ≤ byte → take place (with_values fields values block) ≡ take place block
take-with_values byte [] values block place stand long before = refl
take-with_values byte (field ∷ fields) [] block place stand long before = refl
take-with_values byte (field ∷ fields) (value ∷ values) block place stand long before =
    let behind : byte ≤ field.offset = stand.0 in
    take-with_values (field.offset + field.width) fields values (with_value block field value) place stand.2 (length-with_value block field value stand.1 long) (omega arith)
    ∙ take-with_value block field value place stand.1 long (omega arith)

-- the numbers that were written are read
pub values_of-with_values : (byte : ℕ) (fields : List Field) (values : List ℕ) (block : List ℕ) → StandFrom byte fields → length block ≡ 4096 → length values ≡ length fields
    → FitFields fields values → ((k : ℕ) → get_or values k 0 < 2 ^ 64) → values_of fields (with_values fields values block) ≡ values
values_of-with_values byte [] [] block stand long same fit wide = refl
values_of-with_values byte [] (value ∷ values) block stand long same fit wide = absurd (omega arith)
values_of-with_values byte (field ∷ fields) [] block stand long same fit wide = absurd (omega arith)
values_of-with_values byte (field ∷ fields) (value ∷ values) block stand long same fit wide =
    let written : List ℕ = with_value block field value in
    let held = length-with_value block field value stand.1 long in
    let first : value_at (with_values fields values written) field ≡ value =
    value_at-take (with_values fields values written) field
    ∙ ap (λ list. little_number field.width (drop field.offset list)) (take-with_values (field.offset + field.width) fields values written (field.offset + field.width) stand.2 held (omega arith))
    ∙ sym (value_at-take written field)
    ∙ value_at-with_value block field value stand.1 long (fits_width field value stand.1 fit.0 (wide 0)) in
    let rest : values_of fields (with_values fields values written) ≡ values =
    values_of-with_values (field.offset + field.width) fields values written stand.2 held (omega arith) fit.1 (λ k. wide (suc k)) in
    ap (λ head. head ∷ values_of fields (with_values fields values written)) first ∙ ap (λ tail. value ∷ tail) rest

-- a byte outside every field stays
pub bytes_outside : (byte : ℕ) (fields : List Field) (values : List ℕ) (block : List ℕ) (place : ℕ) → StandFrom byte fields → length block ≡ 4096 → IsOutside fields place → get_or (with_values fields values block) place 0 ≡ get_or block place 0
bytes_outside byte [] values block place stand long outside = refl
bytes_outside byte (field ∷ fields) [] block place stand long outside = refl
bytes_outside byte (field ∷ fields) (value ∷ values) block place stand long outside =
    bytes_outside (field.offset + field.width) fields values (with_value block field value) place stand.2 (length-with_value block field value stand.1 long) (λ k d within. outside (suc k) d (omega arith))
    ∙ byte_outside block field value place stand.1 long (outside 0 field (omega arith))

-- what writing all numbers made of a block: the numbers, and the bytes outside
pub all_written : (fields : List Field) (values : List ℕ) (block new : List ℕ) (k : ℕ) → length fields ≤ k → with_values (drop k fields) (drop k values) new ≡ with_values fields values block → new ≡ with_values fields values block
all_written fields values block new k past written =
    sym (ap (λ list. with_values list (drop k values) new) (drop_all k fields past)) ∙ written

-- numbers fit their fields where each does
pub fit_from_each : (fields : List Field) (values : List ℕ) → ((k : ℕ) (d : Field) → k < length fields → (get_or fields k d).width ≡ 4 → get_or values k 0 < 2 ^ 32) → FitFields fields values
fit_from_each [] values each = tt
fit_from_each (field ∷ fields) [] each = tt
fit_from_each (field ∷ fields) (value ∷ values) each = (each 0 field (omega arith), fit_from_each fields values (λ k d within. each (suc k) d (omega arith)))
