use Rattle.std.proofs.Common.{get_or}
use Rattle.casper_gather.specs.declared.stab.Stab.{Stab}
use Rattle.casper_model.specs.Stabilisation.{without}
use Rattle.casper_gather.proofs.Asking.{forgotten, one_further}
use Rattle.casper_gather.proofs.unended.forget_each.Goals as goal

pub loop-one-preserved : goal.loop-one-preserved
loop-one-preserved c =
    one_further {X = Stab} (λ one. record one { askers = without c.args.who one.askers }) c.args.each.now c.loop-one.each c.loop-one.one-index
    c.one-item.result c.forget.new.self c.loop-one-test.true c.loop-one.invariant c.one-item.is
    (forgotten c.args.who (get_or c.loop-one.each c.loop-one.one-index c.one-item.result) c.forget.new.self c.forget.ensures.gone c.forget.ensures.phase
    c.forget.ensures.label)
