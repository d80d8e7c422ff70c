use Rattle.std.proofs.Common.{◌<◌, ◌∙◌, ◌==◌, ℕ, List, Contains, length, refl, sym, ap, subst}
use Rattle.casper_words.specs.declared.page.Want.{Want}
use Rattle.casper_model.proofs.MarkHistory.{contains_kept}
use Rattle.casper_gather.specs.UnendedLaws.{stabilisations_of}
use Rattle.casper_frozen.specs.Refused.{refused_at_once}
use Rattle.casper_frozen.proofs.Refusing.{nothing_unended}
use Rattle.casper_gather.specs.declared.stab.Stab.{Stab}
use Rattle.casper_hub.specs.Deciding.{is_missing, missing_in}
use Rattle.casper_hub.specs.HubFields.{hub_of}
use Rattle.casper_hub.specs.HubView.{HubView, page_count}
use Rattle.casper_hub.proofs.Bridged.{keeps_for}
use Rattle.casper_hub.proofs.TurnOpened.{at_once_shown}
use Rattle.casper_hub.proofs.hub.Hub.refusal.Goals as goal

pub missing_of-missing-requires-clause-range : goal.missing_of-missing-requires-clause-range
missing_of-missing-requires-clause-range c want inside = subst (λ (h : HubView). want.page < page_count h) (sym c.self.view_is) (c.requires.range want inside)

pub returns-then-is_empty : goal.returns-then-is_empty
returns-then-is_empty c =
    let kept = (keeps_for c.args.self.now (hub_of c.self.inside.trail.items c.self.inside.limit (stabilisations_of c.self.inside.unended.each) c.self.inside.clients c.self.inside.pages) c.self.inside.unended c.self.inside.associations c.self.view_is c.self.invariant.0 refl c.self.invariant.1.associations) in
    nothing_unended c.self.inside.unended c.self.inside.associations c.args.who (missing_in c.args.self.now.pages c.args.self.now.clients c.args.who c.args.wants.now)
    (ap (λ (each : List Stab). length each == 0) (sym c.each.ensures) ∙ sym c.is_empty.ensures ∙ c.if-is_empty.true) kept.0.shared kept.1
    ∙ at_once_shown kept.0.shared c.args.self.now c.args.who (missing_in c.args.self.now.pages c.args.self.now.clients c.args.who c.args.wants.now) kept.0.shows

pub refusal_of-requires : goal.refusal_of-requires
refusal_of-requires c = record {
  within = λ want inside.
      subst (λ (n : ℕ). want.page < n) (sym (c.self.invariant.1.pages ∙ ap page_count c.self.view_is))
      (c.requires.range want
      (contains_kept (is_missing c.self.inside.pages c.self.inside.clients c.args.who) c.args.wants.now want
      (subst (λ (l : List Want). Contains l want) (c.as_slice.ensures.wants ∙ c.missing_of-missing.ensures) inside)).0);
}

pub returns : goal.returns
returns c =
    let kept = (keeps_for c.args.self.now (hub_of c.self.inside.trail.items c.self.inside.limit (stabilisations_of c.self.inside.unended.each) c.self.inside.clients c.self.inside.pages) c.self.inside.unended c.self.inside.associations c.self.view_is c.self.invariant.0 refl c.self.invariant.1.associations) in
    c.refusal_of.ensures.refused kept.0.shared kept.1
    ∙ ap (refused_at_once kept.0.shared c.args.who) (c.as_slice.ensures.wants ∙ c.missing_of-missing.ensures
    ∙ ap (λ (h : HubView). missing_in h.pages h.clients c.args.who c.args.wants.now) c.self.view_is)
    ∙ at_once_shown kept.0.shared c.args.self.now c.args.who (missing_in c.args.self.now.pages c.args.self.now.clients c.args.who c.args.wants.now) kept.0.shows
