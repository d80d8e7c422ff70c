use Rattle.std.proofs.Common.{◌≡◌}
use Rattle.casper_assoc.specs.TrailAssociations.{pages_in}
use Rattle.casper_assoc.proofs.associations.tests.steps_in_turn.Given as goal

-- there are four pages
abbrev pub invariant-loop-step : goal.invariant-loop-step
invariant-loop-step g l = pages_in l.all ≡ 4
