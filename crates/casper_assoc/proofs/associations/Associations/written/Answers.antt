use Rattle.std.proofs.Common.{subst}
use Rattle.casper_assoc.specs.TrailAssociations.{AssociationsView, PagesAreWithin}
use Rattle.casper_assoc.proofs.TrailAssociations.{written_within}
use Rattle.casper_assoc.proofs.associations.Associations.written.Goals as goal

pub returns-clause-within : goal.returns-clause-within
returns-clause-within c =
    subst (λ (all : AssociationsView). PagesAreWithin all c.written.result.now) c.self.view_is
    (written_within (record { labelling = c.self.inside.labels; counts = c.self.inside.open_calls }) c.args.who c.written.result.now
    c.written.ensures.pages)
