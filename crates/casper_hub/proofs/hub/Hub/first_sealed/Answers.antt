use Rattle.std.proofs.Common.{refl, ◌∙◌}
use Rattle.casper_gather.specs.UnendedLaws.{stabilisations_of}
use Rattle.casper_hub.specs.HubFields.{hub_of}
use Rattle.casper_hub.proofs.Jobs.{first_sealed_seen}
use Rattle.casper_hub.proofs.hub.Hub.first_sealed.Goals as goal

pub returns : goal.returns
returns c =
    c.first_sealed.ensures
    ∙ first_sealed_seen (hub_of c.self.inside.trail.items c.self.inside.limit (stabilisations_of c.self.inside.unended.each) c.self.inside.clients c.self.inside.pages) c.args.self.now
    c.self.inside.unended.each c.self.view_is refl
