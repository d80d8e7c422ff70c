use Rattle.std.proofs.Common.{◌≡◌, ◌≢◌, ◌≤◌, ◌∙◌, List, false, min, sym, ap, subst, arith}
use Rattle.std.specs.Prelude.{Option, Ok, Err, is_some}
use Rattle.casper_words.specs.Crew.{IsClient}
use Rattle.casper_model.specs.Room.{most_cap}
use Rattle.casper_model.specs.declared.reply.JoinRefusal.TheVariants as refusal
use Rattle.casper_trail.specs.declared.item.Item.{Item}
use Rattle.casper_assoc.specs.TrailAssociations.{AreAssociationsOf}
use Rattle.casper_hub.proofs.KeptUp.{room_for_all, ok_holds}
use Rattle.casper_hub.proofs.ForClient.{kept_reserved, nothing_reserved}
use Rattle.casper_hub.specs.HubView.{HubView, ClientView, client_in, cap_in, free_in}
use Rattle.casper_hub.specs.HubFields.{hub_of}
use Rattle.casper_hub.specs.GoesOn.{KeepsClient, CommitsNothing}
use Rattle.casper_hub.specs.Owned.{Owns, new_cache}
use Rattle.casper_hub.specs.Sound.{IsSound}
use Rattle.casper_hub.specs.Turns.{IsJoin}
use Rattle.casper_hub.specs.Words.{FramesAreRight}
use Rattle.casper_hub.proofs.JoinedTurns.{with_client, busy_join, full_join, made_join, joined_sound, joined_others, joined_still, joined_owned}
use Rattle.casper_hub.proofs.Relying.{kept_itself, nothing_itself}
use Rattle.casper_hub.proofs.Whole.{Whole, whole, within_sound}
use Rattle.casper_hub.proofs.hub.Hub.join.Goals as goal
use Rattle.casper_gather.specs.UnendedLaws.{stabilisations_of}

pub free_room-free-requires : goal.free_room-free-requires
free_room-free-requires c = within_sound (hub_of c.self.inside.trail.items c.self.inside.limit (stabilisations_of c.self.inside.unended.each) c.self.inside.clients c.self.inside.pages) c.self.invariant.0

pub returns-then-free-eq0-clause-turn : goal.returns-then-free-eq0-clause-turn
returns-then-free-eq0-clause-turn c =
    subst (λ (h : HubView). IsJoin c.args.who (Err (refusal.TrailFull c.entries.result)) h h) c.self.view_is
    (full_join c.args.who c.entries.result (hub_of c.self.inside.trail.items c.self.inside.limit (stabilisations_of c.self.inside.unended.each) c.self.inside.clients c.self.inside.pages) (whole (hub_of c.self.inside.trail.items c.self.inside.limit (stabilisations_of c.self.inside.unended.each) c.self.inside.clients c.self.inside.pages) c.self.invariant.0)
    (sym c.is_live.ensures ∙ c.if-is_live.false) (sym c.free_room-free.ensures ∙ c.if-free-eq0.true) c.entries.ensures.count)

pub returns-then-free-eq0-clause-others : goal.returns-then-free-eq0-clause-others
returns-then-free-eq0-clause-others c other apart = kept_itself other c.args.self.now

pub returns-then-free-eq0-clause-still : goal.returns-then-free-eq0-clause-still
returns-then-free-eq0-clause-still c = nothing_itself c.args.self.now

pub returns-then-is_live-clause-still : goal.returns-then-is_live-clause-still
returns-then-is_live-clause-still c = nothing_itself c.args.self.now

pub returns-then-is_live-clause-turn : goal.returns-then-is_live-clause-turn
returns-then-is_live-clause-turn c =
    subst (λ (h : HubView). IsJoin c.args.who (Err refusal.Busy) h h) c.self.view_is (busy_join c.args.who (hub_of c.self.inside.trail.items c.self.inside.limit (stabilisations_of c.self.inside.unended.each) c.self.inside.clients c.self.inside.pages) (sym c.is_live.ensures ∙ c.if-is_live.true))

pub returns-then-is_live-clause-others : goal.returns-then-is_live-clause-others
returns-then-is_live-clause-others c other apart = kept_itself other c.args.self.now

-- the hub as the client joins
abbrev before : goal.After-join → HubView
before c = (hub_of c.self.inside.trail.items c.self.inside.limit (stabilisations_of c.self.inside.unended.each) c.self.inside.clients c.self.inside.pages)

whole_before : (c : goal.After-join) → Whole (before c)
whole_before c = whole (before c) c.self.invariant.0

client : (c : goal.After-join) → IsClient c.args.who
client c = (omega (arith, c.number-number.ensures.number, c.number-number.ensures.least), omega (arith, c.number-number.ensures.number, c.number-number.ensures.most))

gone : (c : goal.After-join) → is_some (client_in (before c) c.args.who) ≡ false
gone c = sym c.is_live.ensures ∙ c.if-is_live.false

room : (c : goal.After-join) → free_in (before c) ≢ 0
room c none = c.if-free-eq0.false (c.free_room-free.ensures ∙ none)

capped : (c : goal.After-join) → c.min.result ≡ min most_cap (free_in (before c))
capped c = c.min.ensures ∙ ap (min 4100) c.free_room-free.ensures

pub returns-then-is_err-clause-others : goal.returns-then-is_err-clause-others
returns-then-is_err-clause-others c other apart =
    kept_reserved c.args.self.now c.self.inside.limit (stabilisations_of c.self.inside.unended.each) c.reserve.new.self.items c.self.inside.trail.items c.self.inside.clients c.self.inside.pages c.self.view_is c.reserve.ensures.items other

pub returns-then-is_err-clause-still : goal.returns-then-is_err-clause-still
returns-then-is_err-clause-still c =
    nothing_reserved c.args.self.now c.self.inside.limit (stabilisations_of c.self.inside.unended.each) c.reserve.new.self.items c.self.inside.trail.items c.self.inside.clients c.self.inside.pages c.self.view_is c.reserve.ensures.items

-- there is room for the marks
reserved : (c : goal.After-join) → 66 ≤ c.reserve.new.self.room
reserved c = ok_holds c.reserve.result (66 ≤ c.reserve.new.self.room) (sym c.is_err.ensures.value ∙ c.if-is_err.false) c.reserve.ensures.ok

-- what holds after the join of the client holds after the function
behind : (c : goal.After-join) (P : HubView → HubView → Type 0) → P (before c) (with_client (before c) c.args.who c.min.result)
    → P c.args.self.now (hub_of c.reserve.new.self.items c.self.inside.limit (stabilisations_of c.self.inside.unended.each) c.join.new.self c.self.inside.pages)
behind c P is =
    subst (λ (h : HubView). P h (hub_of c.reserve.new.self.items c.self.inside.limit (stabilisations_of c.self.inside.unended.each) c.join.new.self c.self.inside.pages)) c.self.view_is
    (subst (λ (items : List Item). P (before c) (hub_of items c.self.inside.limit (stabilisations_of c.self.inside.unended.each) c.join.new.self c.self.inside.pages)) (sym c.reserve.ensures.items)
    (subst (λ (places : List (Option ClientView)). P (before c) (hub_of c.self.inside.trail.items c.self.inside.limit (stabilisations_of c.self.inside.unended.each) places c.self.inside.pages)) (sym c.join.ensures) is))

sound_after : (c : goal.After-join) → IsSound (hub_of c.reserve.new.self.items c.self.inside.limit (stabilisations_of c.self.inside.unended.each) c.join.new.self c.self.inside.pages)
sound_after c = behind c (λ h after. IsSound after) (joined_sound (before c) c.args.who c.min.result (whole_before c) (client c) (gone c) (room c) (capped c))

pub invariant_of-self-2 : goal.invariant_of-self-2
invariant_of-self-2 c = (
  sound_after c,
  record {
    limit = c.reserve.ensures.limit ∙ c.self.invariant.1.limit;
    associations = subst (AreAssociationsOf c.self.inside.associations) (sym c.reserve.ensures.items) c.self.invariant.1.associations;
    pages = c.self.invariant.1.pages;
    room = room_for_all c.reserve.new.self.items c.self.inside.limit c.self.inside.unended.each c.join.new.self c.self.inside.pages c.reserve.new.self.room (sound_after c) (reserved c);
  },
)

pub returns-clause-turn : goal.returns-clause-turn
returns-clause-turn c =
    behind c (λ h after. IsJoin c.args.who (Ok tt) h after)
    (made_join c.args.who c.min.result (before c) tt (whole_before c) (client c) (gone c) (room c) (capped c))

pub returns-clause-others : goal.returns-clause-others
returns-clause-others c other apart =
    behind c (λ h after. KeepsClient other h after)
    (joined_others (before c) c.args.who c.min.result (whole_before c) (client c) (gone c) (room c) (capped c) other apart)

pub returns-clause-still : goal.returns-clause-still
returns-clause-still c =
    behind c (λ h after. CommitsNothing h after) (joined_still (before c) c.args.who c.min.result (whole_before c) (client c) (gone c) (room c) (capped c))

pub returns-clause-owned : goal.returns-clause-owned
returns-clause-owned c capacity least most =
    behind c (λ h after. Owns after (new_cache c.args.who capacity (cap_in after c.args.who)))
    (joined_owned (before c) c.args.who c.min.result (whole_before c) (client c) (gone c) (room c) (capped c) capacity least most)

pub returns-clause-frames : goal.returns-clause-frames
returns-clause-frames c base frames = behind c (λ h after. FramesAreRight base h → FramesAreRight base after) (λ right. right) frames

pub returns-clause-sound : goal.returns-clause-sound
returns-clause-sound c = (invariant_of-self-2 c).0
