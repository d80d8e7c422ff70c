use Rattle.std.specs.Prelude.{◌+◌, ◌≤◌, List, All, AllPairs, ◌↔◌}
use Rattle.casper_rec.specs.declared.field.Field.{Field}
use Rattle.casper_rec.specs.Table.{IsField, IsTable}

-- a table is a list of fields of which, of any two, the earlier ends at or before the start of the later
abbrev pub TablesStandApart : Type 0
TablesStandApart = (fields : List Field)
    → IsTable fields ↔ (All IsField fields × AllPairs (λ earlier later. earlier.offset + earlier.width ≤ later.offset) fields)
