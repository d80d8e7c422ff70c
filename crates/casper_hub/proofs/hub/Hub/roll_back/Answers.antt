use Rattle.std.proofs.Common.{◌≡◌, ◌≤◌, ◌+◌, ◌∷◌, ◌++◌, ℕ, List, [], cond, length, refl, sym, ap, ◌∙◌, subst, arith}
use Rattle.std.specs.Prelude.{None, slice_index_or, not, filter}
use Rattle.casper_trail.specs.Modified.{is_modified_by}
use Rattle.casper_words.specs.Crew.{IsClient, has_member}
use Rattle.casper_trail.specs.declared.item.Item.TheVariants as item
use Rattle.casper_trail.specs.declared.mark.Mark.TheVariants.{Rollback}
use Rattle.casper_trail.specs.Association.{association_of}
use Rattle.casper_trail.proofs.Rounds.{member_is_client}
use Rattle.casper_assoc.specs.TrailAssociations.{AreAssociationsOf, open_calls_of}
use Rattle.casper_dir.specs.declared.holders.Holders.{Holders}
use Rattle.casper_dir.specs.Rights.{right_at, AreAllClients}
use Rattle.casper_hub.specs.Felling.{is_among}
use Rattle.casper_hub.specs.HubFields.{hub_of}
use Rattle.casper_hub.specs.HubView.{HubView, place_in, count_up, frame_in, fallen_in}
use Rattle.casper_hub.specs.RollingBack.{RollsBack}
use Rattle.casper_hub.specs.Sound.{IsSound}
use Rattle.casper_hub.proofs.Felling.{among_members, fell_so}
use Rattle.casper_hub.proofs.Forgotten.{forgotten_modified}
use Rattle.casper_hub.proofs.KeptUp.{clients_recorded}
use Rattle.casper_hub.proofs.DueMarks.{one_mark_fewer}
use Rattle.casper_hub.proofs.RolledSound.{rolled_back_sound}
use Rattle.casper_hub.proofs.hub.Hub.roll_back.Goals as goal
use Rattle.casper_gather.specs.UnendedLaws.{stabilisations_of}
use Rattle.casper_gather.proofs.Shown.{ended_alike}
use Rattle.casper_model.specs.Stabilisation.{Stabilisation}

pub fell_each-requires : goal.fell_each-requires
fell_each-requires c = c.self.invariant.0.formed.places

pub forget_written-requires : goal.forget_written-requires
forget_written-requires c = c.self.invariant.1.pages ∙ sym c.revoke.ensures.count

pub mark-requires : goal.mark-requires
mark-requires c =
    let left = one_mark_fewer (hub_of c.self.inside.trail.items c.self.inside.limit (stabilisations_of c.self.inside.unended.each) c.self.inside.clients c.self.inside.pages)
    c.args.self.now c.args.lost c.members-members.result (λ who. record { mark = c.len-place.result; dropped = open_calls_of c.self.inside.associations who })
    c.fell_each.new.clients c.self.inside.unended.each c.self.view_is refl (omega arith, omega arith) (c.members-members.ensures.members c.self.inside.trail.items c.self.invariant.1.associations)
    c.fell_each.ensures.count c.fell_each.ensures.members c.requires.up c.requires.due in
    let room = c.self.invariant.1.room in
    omega (arith, left, room)

-- the hub before, and after
abbrev before : goal.After-mark → HubView
before c = (hub_of c.self.inside.trail.items c.self.inside.limit (stabilisations_of c.self.inside.unended.each) c.self.inside.clients c.self.inside.pages)

abbrev after : goal.After-mark → HubView
after c = hub_of c.mark.new.self.items c.self.inside.limit (stabilisations_of c.end.new.self.each) c.fell_each.new.clients c.forget_written.new.pages

lost_client : (c : goal.After-mark) → IsClient c.args.lost
lost_client c = (omega arith, omega arith)

members_are : (c : goal.After-mark) → c.members-members.result ≡ association_of c.self.inside.trail.items c.args.lost
members_are c = c.members-members.ensures.members c.self.inside.trail.items c.self.invariant.1.associations

among : (c : goal.After-mark) (who : ℕ) → is_among 33 c.members-members.result who ≡ has_member who (association_of c.self.inside.trail.items c.args.lost)
among c who = among_members c.self.inside.trail.items c.args.lost who c.members-members.result (members_are c)

rolls : (c : goal.After-mark) → RollsBack c.args.lost (before c) (after c)
rolls c = record {
  trail = c.mark.ensures.items ∙ ap (λ (all : List ℕ). c.self.inside.trail.items ++ item.Mark (Rollback c.args.lost all) ∷ []) (members_are c);
  limit = refl;
  places = c.fell_each.ensures.count;
  clients = λ who.
      c.fell_each.ensures.members who
      ∙ fell_so (is_among 33 c.members-members.result who) (has_member who (association_of c.self.inside.trail.items c.args.lost)) (place_in c.self.inside.clients who)
      c.len-place.result (open_calls_of c.self.inside.associations who) c.self.inside.trail.items who (among c who) c.len-place.ensures
      (λ member. c.self.invariant.1.associations.calls who (member_is_client c.self.inside.trail.items c.args.lost who member));
  stabilisations =
      ap stabilisations_of c.end.ensures.each ∙ ended_alike c.members-members.result c.self.inside.unended.each
      ∙ ap (λ (all : List ℕ). filter (λ (one : Stabilisation). not (has_member one.lead all)) (stabilisations_of c.self.inside.unended.each)) (members_are c);
  pages = ap length c.forget_written.ensures.rights ∙ c.revoke.ensures.count;
  holders = subst AreAllClients (sym c.forget_written.ensures.rights) c.revoke.ensures.holders;
  rights = λ who page is.
      ap (λ (rights : List Holders). right_at rights who page) c.forget_written.ensures.rights ∙ c.revoke.ensures.rights who page is
      ∙ ap (λ (all : List ℕ). cond (has_member who all) None (right_at c.self.inside.pages.rights who page)) (members_are c);
  frames_count = c.forget_written.ensures.count ∙ ap length c.revoke.ensures.frames;
  frames = λ page.
      c.forget_written.ensures.frames page
      ∙ ap (λ b. cond b None (frame_in c.revoke.new.self page))
      (forgotten_modified c.self.inside.associations c.self.inside.trail.items c.args.lost page c.members-members.result (clients_recorded (before c) c.self.invariant.0.stands)
      c.self.invariant.1.associations (lost_client c) (members_are c))
      ∙ ap (λ frames. cond (is_modified_by (association_of c.self.inside.trail.items c.args.lost) c.self.inside.trail.items page) None (slice_index_or frames page None)) c.revoke.ensures.frames;
}

sound_after : (c : goal.After-mark) → IsSound (after c)
sound_after c =
    rolled_back_sound c.args.lost (before c) (after c) c.self.invariant.0 (lost_client c)
    (subst (λ (h : HubView). fallen_in h c.args.lost ≡ None) (sym c.self.view_is) c.requires.up) (rolls c)

room_after : (c : goal.After-mark) → count_up c.fell_each.new.clients + length c.end.new.self.each ≤ c.mark.new.self.room
room_after c =
    let left = one_mark_fewer (before c) c.args.self.now c.args.lost c.members-members.result (λ who. record { mark = c.len-place.result; dropped = open_calls_of c.self.inside.associations who })
    c.fell_each.new.clients c.self.inside.unended.each c.self.view_is refl (lost_client c) (members_are c) c.fell_each.ensures.count c.fell_each.ensures.members c.requires.up c.requires.due in
    let room = c.self.invariant.1.room in
    let used = c.mark.ensures.room in
    let ended = ap length c.end.ensures.each in
    omega (arith, left, room, used, ended)

pub invariant_of-self : goal.invariant_of-self
invariant_of-self c = (
  sound_after c,
  record {
    limit = c.mark.ensures.limit ∙ c.self.invariant.1.limit;
    associations = subst (AreAssociationsOf c.dissolve.new.self) (sym c.mark.ensures.items)
        (c.dissolve.ensures.trail c.self.inside.trail.items (Rollback c.args.lost c.members-members.result) (clients_recorded (before c) c.self.invariant.0.stands)
        c.self.invariant.1.associations (members_are c) refl);
    pages = c.dissolve.ensures.pages ∙ c.self.invariant.1.pages ∙ sym (ap length c.forget_written.ensures.rights ∙ c.revoke.ensures.count);
    room = room_after c;
  },
)

pub returns-clause-mark : goal.returns-clause-mark
returns-clause-mark c = c.mark.ensures.place ∙ ap (λ (h : HubView). length h.trail) c.self.view_is

pub returns-clause-rolls : goal.returns-clause-rolls
returns-clause-rolls c = subst (λ (h : HubView). RollsBack c.args.lost h (after c)) c.self.view_is (rolls c)

pub returns-clause-sound : goal.returns-clause-sound
returns-clause-sound c = sound_after c
