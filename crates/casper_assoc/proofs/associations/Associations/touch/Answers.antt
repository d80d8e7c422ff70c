use Rattle.std.proofs.Common.{refl, sym, ◌∙◌, subst}
use Rattle.casper_assoc.specs.TrailAssociations.{AssociationsView, TouchesPage}
use Rattle.casper_assoc.proofs.TrailAssociations.{touched_labelled, touched_free}
use Rattle.casper_assoc.proofs.associations.Associations.touch.Goals as goal

pub returns-in-Some-clause-trail : goal.returns-in-Some-clause-trail
returns-in-Some-clause-trail c =
    let old : AssociationsView = record { labelling = c.self.inside.labels; counts = c.self.inside.open_calls } in
    let new : AssociationsView = record { labelling = c.merge.new.self; counts = c.self.inside.open_calls } in
    subst (λ (all : AssociationsView). TouchesPage all new c.args.who c.args.page) c.self.view_is
    (touched_labelled old new c.args.who c.args.page c.label-own.result c.in-Some.label c.label-own.ensures.client c.label-own.ensures.label
    (sym c.page_label.ensures.label ∙ c.in-Some.is) c.merge.ensures.parts c.merge.ensures.pages refl)

pub returns-in_default-clause-trail : goal.returns-in_default-clause-trail
returns-in_default-clause-trail c =
    let all : AssociationsView = record { labelling = c.self.inside.labels; counts = c.self.inside.open_calls } in
    subst (λ (all : AssociationsView). TouchesPage all all c.args.who c.args.page) c.self.view_is
    (touched_free all c.args.who c.args.page c.label-own.ensures.client (sym c.page_label.ensures.label ∙ c.in_default.is))
