use Rattle.std.proofs.Common.{sym, ◌∙◌, subst}
use Rattle.casper_assoc.specs.TrailAssociations.{AssociationsView, AreMembersOfPage}
use Rattle.casper_assoc.proofs.PageMembers.{labelled_are_members, unlabelled_has_none}
use Rattle.casper_assoc.proofs.associations.Associations.page_members.Goals as goal

pub returns-in-Some-clause-members : goal.returns-in-Some-clause-members
returns-in-Some-clause-members c =
    let all : AssociationsView = record { labelling = c.self.inside.labels; counts = c.self.inside.open_calls } in
    subst (λ (all : AssociationsView). AreMembersOfPage all c.args.page c.members.result) c.self.view_is
    (labelled_are_members all c.args.page c.in-Some.label c.members.result (sym c.page_label.ensures.label ∙ c.in-Some.is) c.members.ensures.members)

pub returns-in-None-clause-members : goal.returns-in-None-clause-members
returns-in-None-clause-members c =
    let all : AssociationsView = record { labelling = c.self.inside.labels; counts = c.self.inside.open_calls } in
    subst (λ (all : AssociationsView). AreMembersOfPage all c.args.page c.none.result) c.self.view_is
    (unlabelled_has_none all c.args.page c.none.result (sym c.page_label.ensures.label ∙ c.in-None.is) c.none.ensures.empty)
