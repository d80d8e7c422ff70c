use Rattle.std.proofs.Common.{None, Some, refl, sym, ◌∙◌}
use Rattle.casper_gather.specs.UnendedLaws.{stabilisations_of}
use Rattle.casper_hub.specs.HubFields.{hub_of}
use Rattle.casper_hub.proofs.Jobs.{doubtful_seen}
use Rattle.casper_hub.proofs.hub.Hub.doubtful.Goals as goal

pub returns-in_err-one : goal.returns-in_err-one
returns-in_err-one c =
    c.from_residual.ensures
    ∙ doubtful_seen (hub_of c.self.inside.trail.items c.self.inside.limit (stabilisations_of c.self.inside.unended.each) c.self.inside.clients c.self.inside.pages) c.args.self.now
    c.self.inside.unended.each None c.self.view_is refl (sym c.in_err-one.was ∙ c.doubtful.ensures)

pub returns : goal.returns
returns c =
    doubtful_seen (hub_of c.self.inside.trail.items c.self.inside.limit (stabilisations_of c.self.inside.unended.each) c.self.inside.clients c.self.inside.pages) c.args.self.now
    c.self.inside.unended.each (Some c.in_ok-one.one) c.self.view_is refl (sym c.in_ok-one.was ∙ c.doubtful.ensures)
