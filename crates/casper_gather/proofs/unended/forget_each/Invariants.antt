use Rattle.std.proofs.Common.{◌≡◌, ◌++◌}
use Rattle.std.specs.Prelude.{take, drop}
use Rattle.casper_gather.specs.Unended.{without_asker_of_each}
use Rattle.casper_gather.proofs.unended.forget_each.Given as goal

-- those so far no longer have the asker
abbrev pub invariant-loop-one : goal.invariant-loop-one
invariant-loop-one l = l.each ≡ without_asker_of_each l.who (take l.one-index l.initial.each) ++ drop l.one-index l.initial.each
