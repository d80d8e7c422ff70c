use Rattle.std.proofs.Common.{◌≡◌, length}
use Rattle.casper_assoc.proofs.labels.tests.steps_in_turn.Given as goal

-- there are two pages
abbrev pub invariant-loop-step : goal.invariant-loop-step
invariant-loop-step g l = length l.labels.writers ≡ 2
