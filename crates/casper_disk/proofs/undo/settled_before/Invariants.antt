use Rattle.std.proofs.Common.{◌≡◌, ◌≤◌}
use Rattle.casper_disk.specs.Stopped.{settled_before}
use Rattle.casper_disk.proofs.undo.settled_before.Given as goal

abbrev pub invariant-loop-at : goal.invariant-loop-at
invariant-loop-at l = record { settled : l.settled ≡ settled_before l.steps.items l.at; early : l.settled ≤ l.at }
