use Rattle.std.proofs.Common.{refl, ap, ◌∙◌}
use Rattle.std.specs.Prelude.{is_some}
use Rattle.casper_gather.specs.UnendedLaws.{stabilisations_of}
use Rattle.casper_hub.specs.HubFields.{hub_of}
use Rattle.casper_hub.proofs.Jobs.{sealed_seen}
use Rattle.casper_hub.proofs.hub.Hub.is_sealed.Goals as goal

pub returns : goal.returns
returns c =
    c.is_some.ensures ∙ ap is_some c.sealed_by.ensures
    ∙ sealed_seen (hub_of c.self.inside.trail.items c.self.inside.limit (stabilisations_of c.self.inside.unended.each) c.self.inside.clients c.self.inside.pages) c.args.self.now
    c.self.inside.unended.each c.args.lead c.self.view_is refl
