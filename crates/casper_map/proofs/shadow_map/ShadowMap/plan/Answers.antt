use Rattle.std.proofs.Common.{length, arith, ap}
use Rattle.casper_map.specs.Mapped.{page_count}
use Rattle.casper_map.proofs.PlanLemmas.{rising_few}
use Rattle.casper_map.proofs.shadow_map.ShadowMap.plan.Goals as goal

pub prove-unreachable-requires : goal.prove-unreachable-requires
prove-unreachable-requires c =
    omega (arith, rising_few c.args.pages.now (page_count c.args.self.now) c.requires.rising c.requires.within, c.pages-most.ensures.count, c.if-prove.true)

pub overflow_cast-need : goal.overflow_cast-need
overflow_cast-need c =
    omega (arith, c.len.ensures, c.len-2.ensures, c.in_ok-blocks.ensures.few, c.deref.ensures.len, c.in_ok-targets.targets.ok.0, ap length c.in_ok-targets.ensures, c.if-prove.false, c.pages-most.ensures.most)
