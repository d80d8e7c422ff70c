use Rattle.casper_audit.proofs.SettleLemmas.{MembersUpTo}
use Rattle.casper_audit.proofs.ledger.Ledger.settle_members.Given as goal

abbrev pub invariant-loop-below : goal.invariant-loop-below
invariant-loop-below l = MembersUpTo l.committed l.members l.below l.initial.self l.self
