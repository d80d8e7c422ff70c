use Rattle.std.proofs.Common.{length, ◌-◌, ◌≡◌, false}
use Rattle.casper_io.proofs.Reading.{ReadsPart}
use Rattle.casper_io.proofs.lines.next_line.Given as goal

abbrev pub invariant-loop-line : goal.invariant-loop-line
invariant-loop-line g l =
    ReadsPart (g.S.Source.left l.initial.source) (g.S.Source.left l.source) l.line
    (g.S.Source.faults l.initial.source) (g.S.Source.faults l.source)
    × (g.S.Source.is_broken l.source ≡ false)

abbrev pub decreases-loop-line : goal.decreases-loop-line
decreases-loop-line g l = 1024 - length l.line
