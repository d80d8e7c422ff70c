use Rattle.std.proofs.Common.{true}
use Rattle.casper_trail.specs.Association.{alone}
use Rattle.casper_audit.proofs.GroupLemmas.{SetUpTo}
use Rattle.casper_audit.proofs.groups.Groups.new.Given as goal

abbrev pub invariant-loop-below : goal.invariant-loop-below
invariant-loop-below l = SetUpTo (λ who. true) alone l.below l.initial.groups.crews l.groups.crews
