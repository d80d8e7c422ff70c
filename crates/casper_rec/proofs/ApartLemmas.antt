use Rattle.std.proofs.Common.{ℕ, zero, suc, ◌+◌, ◌<◌, ◌≤◌, List, [], ◌∷◌, length, get_or, arith}
use Rattle.std.specs.Prelude.{All, AllPairs}
use Rattle.casper_rec.specs.declared.field.Field.{Field}
use Rattle.casper_rec.specs.Table.{IsField, StandFrom}
use Rattle.casper_rec.specs.TableLaws.{TablesStandApart}
use Rattle.casper_rec.proofs.TableLemmas.{field_at}

-- the fields after a byte begin at or after it
stand_behind : (byte : ℕ) (fields : List Field) (k : ℕ) (d : Field) → StandFrom byte fields → k < length fields → byte ≤ (get_or fields k d).offset
stand_behind byte [] k d stand within = absurd (omega arith)
stand_behind byte (field ∷ fields) zero d stand within = stand.0
stand_behind byte (field ∷ fields) (suc k) d stand within =
    let first : byte ≤ field.offset = stand.0 in
    let behind : field.offset + field.width ≤ (get_or fields k d).offset = stand_behind (field.offset + field.width) fields k d stand.2 (omega arith) in
    omega arith

apart_from : (byte : ℕ) (fields : List Field) → StandFrom byte fields → (i j : ℕ) (d : Field) → i < j → j < length fields → (get_or fields i d).offset + (get_or fields i d).width ≤ (get_or fields j d).offset
apart_from byte [] stand i j d below within = absurd (omega arith)
apart_from byte (field ∷ fields) stand i zero d below within = absurd (omega arith)
apart_from byte (field ∷ fields) stand zero (suc j) d below within = stand_behind (field.offset + field.width) fields j d stand.2 (omega arith)
apart_from byte (field ∷ fields) stand (suc i) (suc j) d below within = apart_from (field.offset + field.width) fields stand.2 i j d (omega arith) (omega arith)

stand_from_apart : (byte : ℕ) (fields : List Field) → ((k : ℕ) (d : Field) → k < length fields → byte ≤ (get_or fields k d).offset)
    → All IsField fields → AllPairs (λ earlier later. earlier.offset + earlier.width ≤ later.offset) fields → StandFrom byte fields
stand_from_apart byte [] behind each apart = tt
stand_from_apart byte (field ∷ fields) behind each apart = (
  behind 0 field (omega arith),
  each 0 field (omega arith),
  stand_from_apart (field.offset + field.width) fields (λ k d within. apart 0 (suc k) d (omega arith) (omega arith))
      (λ k d within. each (suc k) d (omega arith)) (λ i j d below within. apart (suc i) (suc j) d (omega arith) (omega arith)),
)

pub tables_stand_apart : TablesStandApart
tables_stand_apart fields = (
  λ table. ((λ k d within. field_at 0 fields k d table within), apart_from 0 fields table),
  λ parts. stand_from_apart 0 fields (λ k d within. omega arith) parts.0 parts.1,
)
