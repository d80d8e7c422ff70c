use Rattle.std.proofs.Common.{◌≡◌, ◌++◌}
use Rattle.std.specs.Prelude.{take, drop}
use Rattle.casper_gather.specs.Unended.{with_changed}
use Rattle.casper_gather.proofs.unended.change_each.Given as goal

-- those so far are as they are to be
abbrev pub invariant-loop-one : goal.invariant-loop-one
invariant-loop-one l = l.each ≡ with_changed l.changed (take l.one-index l.initial.each) ++ drop l.one-index l.initial.each
