use Rattle.std.proofs.Common.{◌≡◌, ℕ, List, Contains, true, rules, tests, sym, ap, ◌∙◌, subst, arith}
use Rattle.std.specs.Prelude.{is_some}
use Rattle.casper_gather.specs.UnendedLaws.{stabilisations_of}
use Rattle.casper_hub.specs.HubFields.{hub_of}
use Rattle.casper_hub.specs.HubView.{HubView}
use Rattle.casper_hub.specs.Jobs.{sealed_in, AreCopiesOf, IsJobOf}
use Rattle.casper_hub.proofs.Jobs.{each_framed, each_within, copies_are_job}
use Rattle.casper_hub.proofs.hub.Hub.job.Goals as goal

pub copy_each-requires-clause-within : goal.copy_each-requires-clause-within
copy_each-requires-clause-within c page inside =
    each_within (hub_of c.self.inside.trail.items c.self.inside.limit (stabilisations_of c.self.inside.unended.each) c.self.inside.clients c.self.inside.pages) c.args.lead
    c.self.inside.associations c.members-members.result c.in_ok-pages.pages.items c.self.invariant.0 (omega arith, omega arith)
    c.self.invariant.1.associations c.self.invariant.1.pages c.members-members.ensures.members c.in_ok-pages.ensures.pages
    c.in_ok-pages.ensures.within page (subst (λ (pages : List ℕ). Contains pages page) c.deref.ensures.value inside)

pub copy_each-requires-clause-framed : goal.copy_each-requires-clause-framed
copy_each-requires-clause-framed c page inside =
    each_framed (hub_of c.self.inside.trail.items c.self.inside.limit (stabilisations_of c.self.inside.unended.each) c.self.inside.clients c.self.inside.pages) c.args.lead
    c.self.inside.associations c.members-members.result c.in_ok-pages.pages.items c.self.invariant.0 (omega arith, omega arith)
    c.self.invariant.1.associations c.self.invariant.1.pages c.members-members.ensures.members c.in_ok-pages.ensures.pages
    page (subst (λ (pages : List ℕ). Contains pages page) c.deref.ensures.value inside)

pub returns-clause-job : goal.returns-clause-job
returns-clause-job c =
    let is : c.is_sealed.result ≡ true = search (rules, tests) in
    subst (λ (hub : HubView). IsJobOf hub c.args.lead c.new.result) c.self.view_is
    (copies_are_job (hub_of c.self.inside.trail.items c.self.inside.limit (stabilisations_of c.self.inside.unended.each) c.self.inside.clients c.self.inside.pages) c.args.lead
    c.self.inside.associations c.members-members.result c.in_ok-pages.pages.items c.self.invariant.0 (omega arith, omega arith)
    c.self.invariant.1.associations c.self.invariant.1.pages c.members-members.ensures.members c.in_ok-pages.ensures.pages
    (ap (λ (hub : HubView). is_some (sealed_in hub c.args.lead)) c.self.view_is ∙ sym c.is_sealed.ensures ∙ is)
    c.in_ok-changes.changes.items c.new.result c.in_ok-pages.ensures.within c.in_ok-pages.ensures.rising
    (subst (λ (pages : List ℕ). AreCopiesOf c.self.inside.pages pages c.in_ok-changes.changes.items) c.deref.ensures.value c.in_ok-changes.ensures.copies)
    c.new.ensures.lead c.new.ensures.changes)
