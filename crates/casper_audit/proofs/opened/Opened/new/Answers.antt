use Rattle.std.proofs.Common.{◌-◌, map, arith, sym, subst, ap, ◌∙◌}
use Rattle.casper_audit.proofs.OpenedLemmas.{AreEmpty, empty_more, map_more}
use Rattle.casper_audit.proofs.opened.Opened.new.Goals as goal

pub loop-preserved : goal.loop-preserved
loop-preserved c = (
  omega (arith, c.loop.invariant.0, c.in_ok-push.ensures.len),
  subst AreEmpty (sym (ap (map (λ list. list.items)) c.in_ok-push.ensures.items ∙ map_more (λ list. list.items) c.loop.places.items c.new.result))
      (empty_more (map (λ list. list.items) c.loop.places.items) c.new.result.items c.new.ensures.items c.loop.invariant.1),
)

pub returns : goal.returns
returns c = λ client. c.loop.invariant.1 (client - 1)
