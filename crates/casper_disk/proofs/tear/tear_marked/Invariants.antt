use Rattle.std.specs.Prelude.{◌&&◌, nat_lt}
use Rattle.casper_disk.specs.Record.{is_marked}
use Rattle.casper_disk.specs.Touched.{AreTorn}
use Rattle.casper_disk.proofs.tear.tear_marked.Given as goal

abbrev pub invariant-loop-at : goal.invariant-loop-at
invariant-loop-at l =
    AreTorn (λ place. nat_lt place l.at && is_marked l.marks.items place) l.byte l.initial.blocks.items l.blocks.items
