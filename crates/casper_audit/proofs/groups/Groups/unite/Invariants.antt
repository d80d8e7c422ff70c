use Rattle.casper_words.specs.Crew.{has_member}
use Rattle.casper_audit.proofs.GroupLemmas.{SetUpTo}
use Rattle.casper_audit.proofs.groups.Groups.unite.Given as goal

abbrev pub invariant-loop-below : goal.invariant-loop-below
invariant-loop-below l = SetUpTo (λ who. has_member who l.all) (λ who. l.all) l.below l.initial.self.crews l.self.crews
