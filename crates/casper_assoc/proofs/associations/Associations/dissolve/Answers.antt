use Rattle.std.proofs.Common.{subst}
use Rattle.casper_assoc.specs.TrailAssociations.{AssociationsView, DissolvesAssociation}
use Rattle.casper_assoc.proofs.TrailAssociations.{dissolved}
use Rattle.casper_assoc.proofs.associations.Associations.dissolve.Goals as goal

pub returns-clause-trail : goal.returns-clause-trail
returns-clause-trail c =
    let old : AssociationsView = record { labelling = c.self.inside.labels; counts = c.self.inside.open_calls } in
    let new : AssociationsView = record { labelling = c.dissolve.new.self; counts = c.forget_calls.new.open_calls } in
    subst (λ (all : AssociationsView). DissolvesAssociation all new c.args.who) c.self.view_is
    (dissolved old new c.args.who c.label-label.result c.members-members.result c.label-label.ensures.sound c.label-label.ensures.client
    c.label-label.ensures.label c.members-members.ensures.members c.dissolve.ensures.parts c.dissolve.ensures.pages
    c.forget_calls.ensures.counts)
