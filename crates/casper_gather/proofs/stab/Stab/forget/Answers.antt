use Rattle.std.proofs.Common.{ℕ, List, ap, ◌∙◌}
use Rattle.casper_model.specs.Stabilisation.{Stabilisation}
use Rattle.casper_gather.specs.Bookkeeping.{stabilisation_of}
use Rattle.casper_gather.proofs.Awaited.{without_is}
use Rattle.casper_gather.proofs.stab.Stab.forget.Goals as goal

pub returns-clause-gone : goal.returns-clause-gone
returns-clause-gone c =
    let one : Stabilisation = stabilisation_of c.args.self.now in
    ap (λ (askers : List ℕ). record one { askers = askers })
    (c.without-self.ensures.members ∙ without_is c.args.self.now.askers c.args.who c.without-self.ensures.source)
