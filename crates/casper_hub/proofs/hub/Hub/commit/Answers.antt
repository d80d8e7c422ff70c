use Rattle.std.proofs.Common.{◌≡◌, ◌==◌, ◌++◌, ◌∷◌, ℕ, List, [], not, cond, filter, length, refl, sym, ap, ◌∙◌, subst, Contains, arith}
use Rattle.std.specs.Prelude.{None}
use Rattle.casper_words.specs.Crew.{IsClient, has_member}
use Rattle.casper_trail.specs.declared.item.Item.TheVariants as item
use Rattle.casper_trail.specs.declared.mark.Mark.TheVariants.{Commit}
use Rattle.casper_trail.specs.Association.{association_of}
use Rattle.casper_assoc.specs.TrailAssociations.{AreAssociationsOf}
use Rattle.casper_gather.specs.declared.stab.Stab.{Stab}
use Rattle.casper_gather.specs.Bookkeeping.{stabilisation_of}
use Rattle.casper_gather.specs.UnendedLaws.{stabilisations_of}
use Rattle.casper_model.specs.declared.outcome.Kept.TheVariants as kept
use Rattle.casper_hub.specs.Committing.{Commits}
use Rattle.casper_hub.specs.HubFields.{hub_of}
use Rattle.casper_hub.specs.HubView.{HubView, client_in, frame_in, with_kept}
use Rattle.casper_hub.specs.Sound.{IsSound}
use Rattle.casper_hub.proofs.Committed.{committed_sound}
use Rattle.casper_hub.proofs.EndedLead.{asked_so, ended_by_crew, but_led, kept_up, one_fewer}
use Rattle.casper_hub.proofs.Forgotten.{forgotten_modified}
use Rattle.casper_hub.proofs.KeptUp.{clients_recorded}
use Rattle.casper_hub.proofs.hub.Hub.commit.Goals as goal

pub keep_each-requires : goal.keep_each-requires
keep_each-requires c = c.self.invariant.0.formed.places

pub forget_written-requires : goal.forget_written-requires
forget_written-requires c = c.self.invariant.1.pages

pub mark-requires : goal.mark-requires
mark-requires c =
    let fewer = one_fewer c.args.one c.self.inside.unended.each
    (subst (λ (h : HubView). Contains h.stabilisations (stabilisation_of c.args.one)) (sym c.self.view_is) c.requires.there) in
    let room = c.self.invariant.1.room in
    omega (arith, fewer, room)

-- the hub before, and after
abbrev before : goal.After-mark → HubView
before c = hub_of c.self.inside.trail.items c.self.inside.limit (stabilisations_of c.self.inside.unended.each) c.self.inside.clients c.self.inside.pages

abbrev after : goal.After-mark → HubView
after c = hub_of c.mark.new.self.items c.self.inside.limit (stabilisations_of c.end.new.self.each) c.keep_each.new.clients c.forget_written.new.pages

-- the stabilisation has ended
ended : (c : goal.After-mark) → c.end.new.self.each ≡ filter (λ (other : Stab). not (other.lead == c.args.one.lead)) c.self.inside.unended.each
ended c = c.end.ensures.each ∙ ended_by_crew c.args.one.lead c.self.inside.unended.each c.with.ensures.client c.none.result c.with.result c.none.ensures.empty c.with.ensures.members

there : (c : goal.After-mark) → Contains (before c).stabilisations (stabilisation_of c.args.one)
there c = subst (λ (h : HubView). Contains h.stabilisations (stabilisation_of c.args.one)) (sym c.self.view_is) c.requires.there

lead_client : (c : goal.After-mark) → IsClient c.args.one.lead
lead_client c = (omega arith, omega arith)

members_are : (c : goal.After-mark) → c.members-members.result ≡ association_of c.self.inside.trail.items c.args.one.lead
members_are c = c.members-members.ensures.members c.self.inside.trail.items c.self.invariant.1.associations

commits : (c : goal.After-mark) → Commits (stabilisation_of c.args.one) (before c) (after c)
commits c = record {
  trail = c.mark.ensures.items ∙ ap (λ (all : List ℕ). c.self.inside.trail.items ++ item.Mark (Commit c.args.one.lead all) ∷ []) (members_are c);
  limit = refl;
  places = c.keep_each.ensures.count;
  clients = λ who.
      c.keep_each.ensures.askers who ∙ asked_so (before c) c.self.invariant.0 c.args.one.askers (kept.Committed c.len-place.result) who
      ∙ ap (λ n. cond (has_member who c.args.one.askers) (with_kept (kept.Committed n) (client_in (before c) who)) (client_in (before c) who)) c.len-place.ensures;
  stabilisations = ap stabilisations_of (ended c) ∙ but_led c.args.one.lead c.self.inside.unended.each;
  rights = c.forget_written.ensures.rights;
  frames_count = c.forget_written.ensures.count;
  frames = λ page.
      c.forget_written.ensures.frames page
      ∙ ap (λ b. cond b None (frame_in c.self.inside.pages page))
      (forgotten_modified c.self.inside.associations c.self.inside.trail.items c.args.one.lead page c.members-members.result (clients_recorded (before c) c.self.invariant.0.stands)
      c.self.invariant.1.associations (lead_client c) (members_are c));
}

sound_after : (c : goal.After-mark) → IsSound (after c)
sound_after c = committed_sound (stabilisation_of c.args.one) (before c) (after c) (commits c) c.self.invariant.0 (there c) c.requires.held

pub invariant_of-self : goal.invariant_of-self
invariant_of-self c = (
  sound_after c,
  record {
    limit = c.mark.ensures.limit ∙ c.self.invariant.1.limit;
    associations = subst (AreAssociationsOf c.dissolve.new.self) (sym c.mark.ensures.items)
        (c.dissolve.ensures.trail c.self.inside.trail.items (Commit c.args.one.lead c.members-members.result) (clients_recorded (before c) c.self.invariant.0.stands)
        c.self.invariant.1.associations (members_are c) refl);
    pages = c.dissolve.ensures.pages ∙ c.self.invariant.1.pages ∙ sym (ap length c.forget_written.ensures.rights);
    room =
        let up = kept_up c.self.inside.clients c.keep_each.new.clients c.args.one.askers (kept.Committed c.len-place.result) c.keep_each.ensures.count c.keep_each.ensures.askers in
        let fewer = one_fewer c.args.one c.self.inside.unended.each (there c) in
        let left = ap length (ended c) in
        let room = c.self.invariant.1.room in
        let used = c.mark.ensures.room in
        omega (arith, up, fewer, left, room, used);
  },
)

pub returns-clause-mark : goal.returns-clause-mark
returns-clause-mark c = c.mark.ensures.place ∙ ap (λ (h : HubView). length h.trail) c.self.view_is

pub returns-clause-commits : goal.returns-clause-commits
returns-clause-commits c = subst (λ (h : HubView). Commits (stabilisation_of c.args.one) h (after c)) c.self.view_is (commits c)

pub returns-clause-sound : goal.returns-clause-sound
returns-clause-sound c = sound_after c
