use Rattle.std.proofs.Common.{◌≡◌, ◌==◌, ◌∙◌, sym, cond, get_or}
use Rattle.casper_gather.specs.declared.stab.Stab.{Stab}
use Rattle.casper_gather.proofs.Asking.{chosen, not_chosen, one_further}
use Rattle.casper_gather.proofs.unended.change_each.Goals as goal
use Rattle.casper_gather.proofs.unended.change_each.Goals.{then-eq, else-eq}

pub loop-one-preserved : goal.loop-one-preserved
loop-one-preserved c =
    let one = get_or c.loop-one.each c.loop-one.one-index c.one-item.result in
    let is : c.if-eq.one ≡ cond (one.lead == c.args.changed.lead) c.args.changed one = elim c.if-eq.branch [
      | then-eq w ↦ w.one-is ∙ chosen (one.lead == c.args.changed.lead) c.args.changed one (sym c.eq.ensures ∙ w.if-eq.true)
      | else-eq w ↦ w.one-is ∙ not_chosen (one.lead == c.args.changed.lead) c.args.changed one (sym c.eq.ensures ∙ w.if-eq.false)
    ] in
    one_further {X = Stab} (λ one. cond (one.lead == c.args.changed.lead) c.args.changed one) c.args.each.now c.loop-one.each c.loop-one.one-index
    c.one-item.result c.if-eq.one c.loop-one-test.true c.loop-one.invariant c.one-item.is is
