use Rattle.std.proofs.Common.{◌↔◌, drop}
use Rattle.casper_rec.specs.Table.{IsTable, StandFrom}
use Rattle.casper_rec.proofs.rec.is_table.Given as goal

abbrev pub invariant-loop-field : goal.invariant-loop-field
invariant-loop-field l = IsTable l.fields ↔ StandFrom l.byte (drop l.field-index l.fields)
