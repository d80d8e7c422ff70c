use Rattle.std.proofs.Common.{cond, sym, ap, ◌∙◌}
use Rattle.casper_gather.specs.declared.stab.Phase.TheVariants.{Gathering, Sealed}
use Rattle.casper_gather.proofs.Awaited.{is_not_empty}
use Rattle.casper_gather.proofs.stab.phase_awaiting.Goals as goal

pub returns-else-count-eq0 : goal.returns-else-count-eq0
returns-else-count-eq0 c =
    sym (ap (λ b. cond b Sealed Gathering) (is_not_empty c.args.left (λ none. c.if-count-eq0.false (c.count.ensures.count ∙ none))))
