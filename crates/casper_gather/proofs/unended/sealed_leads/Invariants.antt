use Rattle.std.specs.Prelude.{drop}
use Rattle.casper_gather.proofs.Sealed.{AreLeadsSoFar}
use Rattle.casper_gather.proofs.unended.sealed_leads.Given as goal

-- the leads so far, and those still to come
abbrev pub invariant-loop-one : goal.invariant-loop-one
invariant-loop-one l = AreLeadsSoFar l.each (drop l.one-index l.each) l.leads
