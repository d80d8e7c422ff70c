use Rattle.std.proofs.Common.{length, ◌≡◌, ◌==◌, ◌||◌, ℕ, List, cond, map, sym, ap, ◌∙◌, subst, arith}
use Rattle.std.specs.Prelude.{Option, None}
use Rattle.casper_words.specs.Crew.{IsClient, has_member}
use Rattle.casper_words.specs.declared.page.Right.{Right}
use Rattle.casper_words.proofs.CrewLemmas.{has_member_crew_of}
use Rattle.casper_dir.specs.Rights.{right_at}
use Rattle.casper_gather.specs.Bookkeeping.{without_asker}
use Rattle.casper_gather.specs.UnendedLaws.{stabilisations_of}
use Rattle.casper_gather.proofs.Shown.{forgotten_alike}
use Rattle.casper_model.specs.Stabilisation.{Stabilisation, without}
use Rattle.casper_hub.specs.HubFields.{hub_of}
use Rattle.casper_hub.specs.HubView.{HubView, ClientView, count_up}
use Rattle.casper_hub.specs.Losing.{BecomesAbsent}
use Rattle.casper_hub.specs.Sound.{IsSound}
use Rattle.casper_hub.proofs.Absent.{sound_absent}
use Rattle.casper_hub.proofs.Felling.{fewer_up_without}
use Rattle.casper_hub.proofs.hub.Hub.make_absent.Goals as goal
use Rattle.std.proofs.lemmas.List.{length-map}
use Rattle.casper_gather.specs.declared.stab.Stab.{Stab}

-- the hub before, and after
abbrev before : goal.After-revoke → HubView
before c = hub_of c.self.inside.trail.items c.self.inside.limit (stabilisations_of c.self.inside.unended.each) c.self.inside.clients c.self.inside.pages

abbrev after : goal.After-revoke → HubView
after c = hub_of c.self.inside.trail.items c.self.inside.limit (stabilisations_of c.forget.new.self.each) c.leave.new.self c.revoke.new.self

client : (c : goal.After-revoke) → IsClient c.args.who
client c = (omega arith, omega arith)

list_is : (c : goal.After-revoke) → stabilisations_of c.forget.new.self.each ≡ map (without_asker c.args.who) (stabilisations_of c.self.inside.unended.each)
list_is c = ap stabilisations_of c.forget.ensures.each ∙ forgotten_alike c.args.who c.self.inside.unended.each

gone : (c : goal.After-revoke) → BecomesAbsent c.args.who (before c) (after c)
gone c = record {
  hub_is =
      ap (λ (list : List Stabilisation). hub_of c.self.inside.trail.items c.self.inside.limit list c.leave.new.self c.revoke.new.self) (list_is c)
      ∙ ap (λ (places : List (Option ClientView)). hub_of c.self.inside.trail.items c.self.inside.limit
      (map (without_asker c.args.who) (stabilisations_of c.self.inside.unended.each)) places c.revoke.new.self) c.leave.ensures;
  pages = c.revoke.ensures.count;
  holders = c.revoke.ensures.holders;
  rights = λ other page is.
      c.revoke.ensures.rights other page is
      ∙ ap (λ b. cond {A = Option Right} b None (right_at c.self.inside.pages.rights other page))
      (ap (has_member other) c.with.ensures.members
      ∙ has_member_crew_of (λ (one : ℕ). has_member one c.none.result || one == c.args.who) other is
      ∙ ap (λ (members : List ℕ). has_member other members || other == c.args.who) c.none.ensures.empty);
  frames = c.revoke.ensures.frames;
}

sound_after : (c : goal.After-revoke) → IsSound (after c)
sound_after c = sound_absent c.args.who (before c) (after c) (gone c) (client c) c.self.invariant.0.formed c.self.invariant.0.stands

pub invariant_of-self : goal.invariant_of-self
invariant_of-self c = (
  sound_after c,
  record {
    limit = c.self.invariant.1.limit;
    associations = c.self.invariant.1.associations;
    pages = c.self.invariant.1.pages ∙ sym c.revoke.ensures.count;
    room =
        let fewer = fewer_up_without c.self.inside.clients c.args.who in
        let same = ap count_up c.leave.ensures in
        let many = ap length c.forget.ensures.each ∙ length-map c.self.inside.unended.each (λ (one : Stab). record one { askers = without c.args.who one.askers }) in
        let room = c.self.invariant.1.room in
        omega (arith, fewer, same, many, room);
  },
)

pub returns-clause-absent : goal.returns-clause-absent
returns-clause-absent c = subst (λ (h : HubView). BecomesAbsent c.args.who h (after c)) c.self.view_is (gone c)

pub returns-clause-sound : goal.returns-clause-sound
returns-clause-sound c = sound_after c
