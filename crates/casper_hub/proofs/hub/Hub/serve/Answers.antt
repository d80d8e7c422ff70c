use Rattle.std.proofs.Common.{◌≡◌, ◌≤◌, ◌∙◌, List, length, sym, ap, subst, arith}
use Rattle.casper_trail.specs.declared.item.Item.{Item}
use Rattle.casper_model.specs.declared.reply.Served.TheVariants as served
use Rattle.casper_model.specs.Leave.{serve}
use Rattle.casper_model.specs.Shared.{Shared}
use Rattle.casper_turns.specs.Good.{IsGoodShared}
use Rattle.casper_turns.specs.Kept.{KeptByTurn}
use Rattle.casper_turns.specs.TurnLaws.{IsTurn as MachineTurn}
use Rattle.casper_gather.specs.UnendedLaws.{stabilisations_of}
use Rattle.casper_hub.specs.HubView.{HubView}
use Rattle.casper_hub.specs.HubFields.{hub_of}
use Rattle.casper_hub.specs.Owned.{own_of, Owns}
use Rattle.casper_hub.specs.Shows.{Shows}
use Rattle.casper_hub.specs.Sound.{IsSound}
use Rattle.casper_hub.specs.Stages.{OpensTurn}
use Rattle.casper_hub.specs.Turns.{IsTurn}
use Rattle.casper_hub.proofs.KeptUp.{room_for_all, up_inside, up_seen}
use Rattle.casper_hub.proofs.ForClient.{kept_reserved, nothing_reserved}
use Rattle.casper_hub.proofs.Transport.{kept_by, keeps_others, keeps_still}
use Rattle.casper_hub.proofs.TurnOpened.{serve_turn, opening_client, opening_whole, opening_owned, opening_frames, opening_words}
use Rattle.casper_hub.proofs.Whole.{Whole, Owning, whole_at, owning}
use Rattle.casper_hub.proofs.hub.Hub.serve.Goals as goal

pub returns-in_err-reserve-clause-others : goal.returns-in_err-reserve-clause-others
returns-in_err-reserve-clause-others c other differ =
    kept_reserved c.args.self.now c.self.inside.limit (stabilisations_of c.self.inside.unended.each) c.reserve.new.self.items c.self.inside.trail.items c.self.inside.clients c.self.inside.pages c.self.view_is c.reserve.ensures.items other

pub returns-in_err-reserve-clause-still : goal.returns-in_err-reserve-clause-still
returns-in_err-reserve-clause-still c =
    nothing_reserved c.args.self.now c.self.inside.limit (stabilisations_of c.self.inside.unended.each) c.reserve.new.self.items c.self.inside.trail.items c.self.inside.clients c.self.inside.pages c.self.view_is c.reserve.ensures.items

-- room taken in the trail changes nothing
pub open_turn-requires-clause-sound : goal.open_turn-requires-clause-sound
open_turn-requires-clause-sound c =
    subst (λ (items : List Item). IsSound (hub_of items c.self.inside.limit (stabilisations_of c.self.inside.unended.each) c.self.inside.clients c.self.inside.pages)) (sym c.reserve.ensures.items) c.self.invariant.0

pub open_turn-requires-clause-owns : goal.open_turn-requires-clause-owns
open_turn-requires-clause-owns c =
    subst (λ (items : List Item). Owns (hub_of items c.self.inside.limit (stabilisations_of c.self.inside.unended.each) c.self.inside.clients c.self.inside.pages) c.args.cache.now) (sym c.reserve.ensures.items)
    (subst (λ (h : HubView). Owns h c.args.cache.now) (sym c.self.view_is) c.requires.owns)

pub open_turn-requires-clause-up : goal.open_turn-requires-clause-up
open_turn-requires-clause-up c = up_inside c.self.inside.clients c.args.who c.fall.result c.fall.ensures c.in_default.not-Some

-- the hub as it was
whole_before : (c : goal.After-open_turn) → Whole c.args.self.now
whole_before c = whole_at (hub_of c.self.inside.trail.items c.self.inside.limit (stabilisations_of c.self.inside.unended.each) c.self.inside.clients c.self.inside.pages) c.args.self.now c.self.view_is c.self.invariant.0

owning_before : (c : goal.After-open_turn) → Owning c.args.self.now c.args.cache.now
owning_before c =
    owning c.args.self.now c.args.cache.now (whole_before c).sound c.requires.owns
    (up_seen c.args.who c.args.cache.now.client c.self.inside.limit (stabilisations_of c.self.inside.unended.each) c.self.inside.trail.items c.self.inside.clients c.self.inside.pages c.args.self.now c.fall.result c.self.view_is c.requires.client c.fall.ensures c.in_default.not-Some)

-- the hub after the turn, which has opened
abbrev after : goal.After-open_turn → HubView
after c = hub_of c.open_turn.new.trail.items c.self.inside.limit (stabilisations_of c.open_turn.new.unended.each) c.open_turn.new.clients c.open_turn.new.pages

opens : (c : goal.After-open_turn) → OpensTurn c.args.cache.now.client c.args.self.now c.args.cache.now (after c) c.open_turn.new.cache
opens c =
    subst (λ (h : HubView). OpensTurn c.args.cache.now.client h c.args.cache.now (after c) c.open_turn.new.cache)
    (ap (λ (items : List Item). hub_of items c.self.inside.limit (stabilisations_of c.self.inside.unended.each) c.self.inside.clients c.self.inside.pages) c.reserve.ensures.items ∙ c.self.view_is)
    c.open_turn.ensures.opens

whole_after : (c : goal.After-open_turn) → Whole (after c)
whole_after c = opening_whole c.args.self.now c.args.cache.now (after c) c.open_turn.new.cache (whole_before c) (owning_before c) (opens c)

turn : (c : goal.After-open_turn) → IsTurn serve served.Ok c.args.self.now c.args.cache.now (after c) c.open_turn.new.cache
turn c = serve_turn c.args.self.now c.args.cache.now (after c) c.open_turn.new.cache (whole_before c) (owning_before c) (opens c)

keeps : (c : goal.After-open_turn) (shared : Shared) → Shows shared c.args.self.now → IsGoodShared shared
    → KeptByTurn shared (own_of c.args.cache.now) (serve shared (own_of c.args.cache.now)).shared (serve shared (own_of c.args.cache.now)).own
keeps c = kept_by serve c.args.self.now c.args.cache.now c.requires.owns (λ shared one live. MachineTurn.serving live)

room_left : (c : goal.After-open_turn) → 66 ≤ c.open_turn.new.trail.room
room_left c =
    let reserved = c.in_ok-reserve.ensures.ok in
    let room = c.open_turn.ensures.room in
    let pending : length c.as_slice.result.now ≡ length c.args.cache.now.pending = ap length (c.as_slice.ensures ∙ c.pending.ensures) in
    omega (arith, reserved, room, pending)

pub invariant_of-self-2 : goal.invariant_of-self-2
invariant_of-self-2 c = (
  (whole_after c).sound,
  record {
    limit = c.open_turn.ensures.limit ∙ c.reserve.ensures.limit ∙ c.self.invariant.1.limit;
    associations = c.open_turn.ensures.associations;
    pages = c.open_turn.ensures.pages_stay ∙ c.self.invariant.1.pages ∙ sym c.open_turn.ensures.count;
    room = room_for_all c.open_turn.new.trail.items c.self.inside.limit c.open_turn.new.unended.each c.open_turn.new.clients c.open_turn.new.pages c.open_turn.new.trail.room (whole_after c).sound (room_left c);
  },
)

pub returns-clause-turn : goal.returns-clause-turn
returns-clause-turn c = turn c

pub returns-clause-owned : goal.returns-clause-owned
returns-clause-owned c = opening_owned c.args.self.now c.args.cache.now (after c) c.open_turn.new.cache (whole_before c) (owning_before c) (opens c)

pub returns-clause-frames : goal.returns-clause-frames
returns-clause-frames c base frames words =
    opening_frames c.args.self.now c.args.cache.now (after c) c.open_turn.new.cache (whole_before c) (owning_before c) (opens c) base frames words

pub returns-clause-words : goal.returns-clause-words
returns-clause-words c base frames words =
    opening_words c.args.self.now c.args.cache.now (after c) c.open_turn.new.cache (whole_before c) (owning_before c) (opens c) base words

pub returns-clause-others : goal.returns-clause-others
returns-clause-others c other differ =
    keeps_others serve c.args.self.now c.args.cache.now (after c) (turn c).shows (keeps c) other (λ same. differ (same ∙ c.requires.client))

pub returns-clause-still : goal.returns-clause-still
returns-clause-still c = keeps_still serve c.args.self.now c.args.cache.now (after c) (turn c).shows (keeps c)

pub returns-clause-client_after : goal.returns-clause-client_after
returns-clause-client_after c =
    opening_client c.args.self.now c.args.cache.now (after c) c.open_turn.new.cache (whole_before c) (owning_before c) (opens c) ∙ c.requires.client

pub returns-clause-sound : goal.returns-clause-sound
returns-clause-sound c = (whole_after c).sound
