use Rattle.std.proofs.Common.{◌≡◌, true, false, rules, tests}
use Rattle.casper_gather.specs.Unended.{is_sealed}
use Rattle.casper_gather.proofs.Sealed.{one_lead_more, no_lead_more}
use Rattle.casper_gather.proofs.unended.sealed_leads.Goals as goal
use Rattle.casper_gather.proofs.unended.sealed_leads.Goals.{then-eq, else-eq}

pub loop-one-preserved : goal.loop-one-preserved
loop-one-preserved c = elim c.if-eq.branch [
  | then-eq w ↦
      let sealed : is_sealed c.one-item.result.phase ≡ true = search (rules, tests) in
      rw w.leads-is
      (one_lead_more c.args.each.now c.loop-one.one-index c.one-item.result c.loop-one.leads w.with-leads.result c.loop-one-test.true c.one-item.is sealed
      w.with-leads.ensures.members w.with-leads.ensures.crew c.loop-one.invariant)
  | else-eq w ↦
      let not_sealed : is_sealed c.one-item.result.phase ≡ false = search (rules, tests) in
      rw w.leads-is
      (no_lead_more c.args.each.now c.loop-one.one-index c.one-item.result c.loop-one.leads c.loop-one-test.true c.one-item.is not_sealed c.loop-one.invariant)
]
