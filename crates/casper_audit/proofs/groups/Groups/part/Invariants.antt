use Rattle.casper_words.specs.Crew.{has_member}
use Rattle.casper_trail.specs.Association.{alone}
use Rattle.casper_audit.proofs.GroupLemmas.{SetUpTo}
use Rattle.casper_audit.proofs.groups.Groups.part.Given as goal

abbrev pub invariant-loop-below : goal.invariant-loop-below
invariant-loop-below l = SetUpTo (λ who. has_member who l.members) alone l.below l.initial.self.crews l.self.crews
