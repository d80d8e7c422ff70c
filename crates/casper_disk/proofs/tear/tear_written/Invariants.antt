use Rattle.std.proofs.Common.{take}
use Rattle.casper_disk.specs.Touched.{touched, AreTorn}
use Rattle.casper_disk.proofs.tear.tear_written.Given as goal

abbrev pub invariant-loop-step : goal.invariant-loop-step
invariant-loop-step l = AreTorn (touched (take l.step-index l.steps)) l.byte l.initial.blocks.items l.blocks.items
