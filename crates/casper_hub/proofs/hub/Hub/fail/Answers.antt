use Rattle.std.proofs.Common.{◌≡◌, ◌==◌, not, filter, length, refl, sym, ap, ◌∙◌, subst, Contains, arith}
use Rattle.casper_gather.specs.declared.stab.Stab.{Stab}
use Rattle.casper_gather.specs.Bookkeeping.{stabilisation_of}
use Rattle.casper_gather.specs.UnendedLaws.{stabilisations_of}
use Rattle.casper_model.specs.declared.outcome.Kept.TheVariants as kept
use Rattle.casper_hub.specs.Committing.{Ends}
use Rattle.casper_hub.specs.HubFields.{hub_of}
use Rattle.casper_hub.specs.HubView.{HubView}
use Rattle.casper_hub.specs.Sound.{IsSound}
use Rattle.casper_hub.proofs.Committed.{failed_sound}
use Rattle.casper_hub.proofs.EndedLead.{asked_so, ended_by_crew, but_led, kept_up, fewer_than}
use Rattle.casper_hub.proofs.hub.Hub.fail.Goals as goal

pub keep_each-requires : goal.keep_each-requires
keep_each-requires c = c.self.invariant.0.formed.places

-- the hub before, and after
abbrev before : goal.After-end → HubView
before c = hub_of c.self.inside.trail.items c.self.inside.limit (stabilisations_of c.self.inside.unended.each) c.self.inside.clients c.self.inside.pages

abbrev after : goal.After-end → HubView
after c = hub_of c.self.inside.trail.items c.self.inside.limit (stabilisations_of c.end.new.self.each) c.keep_each.new.clients c.self.inside.pages

-- the stabilisation has ended
ended : (c : goal.After-end) → c.end.new.self.each ≡ filter (λ (other : Stab). not (other.lead == c.args.one.lead)) c.self.inside.unended.each
ended c = c.end.ensures.each ∙ ended_by_crew c.args.one.lead c.self.inside.unended.each c.with.ensures.client c.none.result c.with.result c.none.ensures.empty c.with.ensures.members

there : (c : goal.After-end) → Contains (before c).stabilisations (stabilisation_of c.args.one)
there c = subst (λ (h : HubView). Contains h.stabilisations (stabilisation_of c.args.one)) (sym c.self.view_is) c.requires.there

ends : (c : goal.After-end) → Ends (stabilisation_of c.args.one) (kept.Failed c.args.outcome) (before c) (after c)
ends c = record {
  trail = refl;
  limit = refl;
  places = c.keep_each.ensures.count;
  clients = λ who. c.keep_each.ensures.askers who ∙ asked_so (before c) c.self.invariant.0 c.args.one.askers (kept.Failed c.args.outcome) who;
  stabilisations = ap stabilisations_of (ended c) ∙ but_led c.args.one.lead c.self.inside.unended.each;
  pages = refl;
}

sound_after : (c : goal.After-end) → IsSound (after c)
sound_after c =
    failed_sound (stabilisation_of c.args.one) c.args.outcome (before c) (after c) (ends c) c.self.invariant.0 (there c) c.requires.held c.requires.fails c.requires.none

pub invariant_of-self : goal.invariant_of-self
invariant_of-self c = (
  sound_after c,
  record {
    limit = c.self.invariant.1.limit;
    associations = c.self.invariant.1.associations;
    pages = c.self.invariant.1.pages;
    room =
        let up = kept_up c.self.inside.clients c.keep_each.new.clients c.args.one.askers (kept.Failed c.args.outcome) c.keep_each.ensures.count c.keep_each.ensures.askers in
        let fewer = fewer_than c.args.one.lead c.self.inside.unended.each in
        let left = ap length (ended c) in
        let room = c.self.invariant.1.room in
        omega (arith, up, fewer, left, room);
  },
)

pub returns-clause-ends : goal.returns-clause-ends
returns-clause-ends c = subst (λ (h : HubView). Ends (stabilisation_of c.args.one) (kept.Failed c.args.outcome) h (after c)) c.self.view_is (ends c)

pub returns-clause-sound : goal.returns-clause-sound
returns-clause-sound c = sound_after c
