use Rattle.std.proofs.Common.{◌≡◌, ◌≤◌, ◌+◌, ◌∙◌, ℕ, List, true, length, refl, sym, ap, subst, arith}
use Rattle.casper_trail.specs.declared.item.Item.{Item}
use Rattle.casper_model.specs.declared.reply.Served.TheVariants as served
use Rattle.casper_model.specs.Leave.{depart}
use Rattle.casper_model.specs.Shared.{Shared}
use Rattle.casper_turns.specs.Good.{IsGoodShared}
use Rattle.casper_turns.specs.Kept.{KeptByTurn}
use Rattle.casper_turns.specs.TurnLaws.{IsTurn as MachineTurn}
use Rattle.casper_hub.specs.HubView.{HubView, fallen_in, is_live}
use Rattle.casper_hub.specs.Places.{shown_fall}
use Rattle.casper_hub.specs.HubFields.{hub_of}
use Rattle.casper_hub.specs.Owned.{own_of, Owns}
use Rattle.casper_hub.specs.Shows.{Shows}
use Rattle.casper_hub.specs.Sound.{IsSound}
use Rattle.casper_hub.specs.Stages.{Leaves, OpensTurn}
use Rattle.casper_hub.specs.Turns.{IsTurn}
use Rattle.casper_hub.proofs.KeptUp.{room_after, up_inside, up_seen, fell_seen}
use Rattle.casper_hub.proofs.Told.{told_depart}
use Rattle.casper_hub.proofs.ForClient.{leaves_for, kept_reserved, nothing_reserved}
use Rattle.casper_hub.proofs.Leaving.{opened_before_leaving, left_formed, left_frames}
use Rattle.casper_hub.proofs.DepartedTurns.{depart_turn}
use Rattle.casper_hub.proofs.Transport.{kept_by, stands_behind, keeps_others, keeps_still}
use Rattle.casper_hub.proofs.Whole.{Whole, Owning, whole_at, owning}
use Rattle.casper_hub.proofs.hub.Hub.depart.Goals as goal
use Rattle.casper_gather.specs.UnendedLaws.{stabilisations_of}
use Rattle.casper_hub.specs.Given.{Covers}
use Rattle.casper_cache.specs.Holding.{right_of}
use Rattle.casper_hub.proofs.TurnOpened.{rights_turn_for}
use Rattle.casper_dir.specs.Rights.{right_at}
use Rattle.casper_gather.proofs.Shown.{forgotten_alike}

pub returns-in_err-reserve-clause-others : goal.returns-in_err-reserve-clause-others
returns-in_err-reserve-clause-others c other differ =
    kept_reserved c.args.self.now c.self.inside.limit (stabilisations_of c.self.inside.unended.each) c.reserve.new.self.items c.self.inside.trail.items c.self.inside.clients c.self.inside.pages c.self.view_is c.reserve.ensures.items other

pub returns-in_err-reserve-clause-still : goal.returns-in_err-reserve-clause-still
returns-in_err-reserve-clause-still c =
    nothing_reserved c.args.self.now c.self.inside.limit (stabilisations_of c.self.inside.unended.each) c.reserve.new.self.items c.self.inside.trail.items c.self.inside.clients c.self.inside.pages c.self.view_is c.reserve.ensures.items

-- room taken in the trail changes nothing
pub open_turn-requires-clause-sound : goal.open_turn-requires-clause-sound
open_turn-requires-clause-sound c =
    subst (λ (items : List Item). IsSound (hub_of items c.self.inside.limit (stabilisations_of c.self.inside.unended.each) c.self.inside.clients c.self.inside.pages)) (sym c.reserve.ensures.items) c.self.invariant.0

pub open_turn-requires-clause-owns : goal.open_turn-requires-clause-owns
open_turn-requires-clause-owns c =
    subst (λ (items : List Item). Owns (hub_of items c.self.inside.limit (stabilisations_of c.self.inside.unended.each) c.self.inside.clients c.self.inside.pages) c.args.cache.now) (sym c.reserve.ensures.items)
    (subst (λ (h : HubView). Owns h c.args.cache.now) (sym c.self.view_is) c.requires.owns)

pub open_turn-requires-clause-up : goal.open_turn-requires-clause-up
open_turn-requires-clause-up c = up_inside c.self.inside.clients c.args.who c.fall.result c.fall.ensures c.in_default.not-Some

-- the hub as it was
whole_before : (c : goal.After-allow) → Whole c.args.self.now
whole_before c = whole_at (hub_of c.self.inside.trail.items c.self.inside.limit (stabilisations_of c.self.inside.unended.each) c.self.inside.clients c.self.inside.pages) c.args.self.now c.self.view_is c.self.invariant.0

owning_before : (c : goal.After-allow) → Owning c.args.self.now c.args.cache.now
owning_before c =
    owning c.args.self.now c.args.cache.now (whole_before c).sound c.requires.owns
    (up_seen c.args.who c.args.cache.now.client c.self.inside.limit (stabilisations_of c.self.inside.unended.each) c.self.inside.trail.items c.self.inside.clients c.self.inside.pages c.args.self.now c.fall.result c.self.view_is c.requires.client c.fall.ensures c.in_default.not-Some)

-- the hub once its turn has opened
abbrev opened : goal.After-allow → HubView
opened c = hub_of c.open_turn.new.trail.items c.self.inside.limit (stabilisations_of c.open_turn.new.unended.each) c.open_turn.new.clients c.open_turn.new.pages

opens : (c : goal.After-allow) → OpensTurn c.args.cache.now.client c.args.self.now c.args.cache.now (opened c) c.open_turn.new.cache
opens c =
    subst (λ (h : HubView). OpensTurn c.args.cache.now.client h c.args.cache.now (opened c) c.open_turn.new.cache)
    (ap (λ (items : List Item). hub_of items c.self.inside.limit (stabilisations_of c.self.inside.unended.each) c.self.inside.clients c.self.inside.pages) c.reserve.ensures.items ∙ c.self.view_is)
    c.open_turn.ensures.opens

-- the cache covers what its client then has
rights_then : (c : goal.After-give_up_all-arg-2-1) → Covers c.args.who c.open_turn.new.pages c.open_turn.new.cache.held × ((page : ℕ) → right_at c.open_turn.new.pages.rights c.args.who page ≡ right_of page c.open_turn.new.cache.held)
rights_then c =
    rights_turn_for c.args.who c.args.self.now c.args.cache.now
    (hub_of c.open_turn.new.trail.items c.self.inside.limit (stabilisations_of c.open_turn.new.unended.each) c.open_turn.new.clients c.open_turn.new.pages) c.open_turn.new.cache
    c.requires.client
    (whole_at (hub_of c.self.inside.trail.items c.self.inside.limit (stabilisations_of c.self.inside.unended.each) c.self.inside.clients c.self.inside.pages) c.args.self.now c.self.view_is c.self.invariant.0)
    c.requires.owns
    (up_seen c.args.who c.args.cache.now.client c.self.inside.limit (stabilisations_of c.self.inside.unended.each) c.self.inside.trail.items c.self.inside.clients c.self.inside.pages c.args.self.now c.fall.result c.self.view_is c.requires.client c.fall.ensures c.in_default.not-Some)
    (subst (λ (h : HubView). OpensTurn c.args.cache.now.client h c.args.cache.now
    (hub_of c.open_turn.new.trail.items c.self.inside.limit (stabilisations_of c.open_turn.new.unended.each) c.open_turn.new.clients c.open_turn.new.pages) c.open_turn.new.cache)
    (ap (λ (items : List Item). hub_of items c.self.inside.limit (stabilisations_of c.self.inside.unended.each) c.self.inside.clients c.self.inside.pages) c.reserve.ensures.items ∙ c.self.view_is)
    c.open_turn.ensures.opens)

pub give_up_all-requires-clause-covers : goal.give_up_all-requires-clause-covers
give_up_all-requires-clause-covers c = (rights_then c).0

pub give_up_all-requires-clause-all : goal.give_up_all-requires-clause-all
give_up_all-requires-clause-all c = (rights_then c).1

-- the hub after the turn
abbrev after : goal.After-allow → HubView
after c = hub_of c.open_turn.new.trail.items c.self.inside.limit (stabilisations_of c.forget.new.self.each) c.leave.new.self c.give_up_all.new.pages

-- the client has left
leaves : (c : goal.After-allow) → Leaves c.args.cache.now.client c.args.self.now c.args.cache.now (after c) c.allow.new.self
leaves c =
    leaves_for c.args.who c.args.self.now c.args.cache.now c.open_turn.new.trail.items c.self.inside.limit (stabilisations_of c.open_turn.new.unended.each) (stabilisations_of c.forget.new.self.each)
    c.open_turn.new.clients c.leave.new.self c.open_turn.new.pages c.give_up_all.new.pages
    c.open_turn.new.cache c.give_up_all.new.cache c.allow.new.self c.requires.client (opens c) c.give_up_all.ensures.gives c.give_up_all.ensures.all c.give_up_all.ensures.cache
    c.leave.ensures (ap stabilisations_of c.forget.ensures.each ∙ forgotten_alike c.args.who c.open_turn.new.unended.each) c.allow.ensures.allowed

turn : (c : goal.After-allow) → IsTurn depart served.Ok c.args.self.now c.args.cache.now (after c) c.allow.new.self
turn c =
    depart_turn c.args.self.now c.args.cache.now (after c) c.allow.new.self (whole_before c) (owning_before c) (leaves c)
    (opened_before_leaving c.args.self.now c.args.cache.now (after c) c.allow.new.self (whole_before c) (owning_before c) (leaves c))

keeps : (c : goal.After-allow) (shared : Shared) → Shows shared c.args.self.now → IsGoodShared shared
    → KeptByTurn shared (own_of c.args.cache.now) (depart shared (own_of c.args.cache.now)).shared (depart shared (own_of c.args.cache.now)).own
keeps c = kept_by depart c.args.self.now c.args.cache.now c.requires.owns (λ shared one live. MachineTurn.departing live)

sound_after : (c : goal.After-allow) → IsSound (after c)
sound_after c = record {
  formed = left_formed c.args.self.now c.args.cache.now (after c) c.allow.new.self (whole_before c) (owning_before c) (leaves c);
  stands = stands_behind depart c.args.self.now c.args.cache.now (after c) (turn c).shows (keeps c) (whole_before c).sound.stands;
}

reserved_for : (c : goal.After-allow) → length c.as_slice.result.now + 0 + 66 ≤ c.reserve.new.self.room
reserved_for c = let reserved = c.in_ok-reserve.ensures.ok in omega (arith, reserved)

pub invariant_of-self-2 : goal.invariant_of-self-2
invariant_of-self-2 c = (
  sound_after c,
  record {
    limit = c.open_turn.ensures.limit ∙ c.reserve.ensures.limit ∙ c.self.invariant.1.limit;
    associations = c.open_turn.ensures.associations;
    pages = c.open_turn.ensures.pages_stay ∙ c.self.invariant.1.pages ∙ sym (c.give_up_all.ensures.gives.rights_count ∙ c.open_turn.ensures.count);
    room = room_after c.open_turn.new.trail.items c.self.inside.limit c.forget.new.self.each c.leave.new.self c.give_up_all.new.pages
        c.reserve.new.self.room c.open_turn.new.trail.room (length c.args.cache.now.pending) 0 (length c.as_slice.result.now)
        (sound_after c) (reserved_for c) c.open_turn.ensures.room (ap length (c.as_slice.ensures ∙ c.pending.ensures)) c.open_turn.new.trail.room (omega arith);
  },
)

pub returns-clause-turn : goal.returns-clause-turn
returns-clause-turn c = turn c

pub returns-clause-frames : goal.returns-clause-frames
returns-clause-frames c base frames words =
    left_frames base c.args.self.now c.args.cache.now (after c) c.allow.new.self (whole_before c) (owning_before c) (leaves c) frames words

pub returns-clause-others : goal.returns-clause-others
returns-clause-others c other differ =
    keeps_others depart c.args.self.now c.args.cache.now (after c) (turn c).shows (keeps c) other (λ same. differ (same ∙ c.requires.client))

pub returns-clause-still : goal.returns-clause-still
returns-clause-still c = keeps_still depart c.args.self.now c.args.cache.now (after c) (turn c).shows (keeps c)

pub returns-clause-sound : goal.returns-clause-sound
returns-clause-sound c = sound_after c

pub tell-requires-clause-fallen : goal.tell-requires-clause-fallen
tell-requires-clause-fallen c =
    fell_seen c.args.who c.self.inside.limit (stabilisations_of c.self.inside.unended.each) c.self.inside.trail.items c.self.inside.clients c.self.inside.pages c.args.self.now c.fall.result c.in-Some.fall c.self.view_is c.fall.ensures c.in-Some.is

pub returns-in-Some-clause-turn : goal.returns-in-Some-clause-turn
returns-in-Some-clause-turn c =
    told_depart c.args.self.now c.args.cache.now (shown_fall c.in-Some.fall)
    (ap (fallen_in c.args.self.now) c.requires.client
    ∙ fell_seen c.args.who c.self.inside.limit (stabilisations_of c.self.inside.unended.each) c.self.inside.trail.items c.self.inside.clients c.self.inside.pages c.args.self.now c.fall.result c.in-Some.fall c.self.view_is c.fall.ensures c.in-Some.is)
    c.tell.new.self c.tell.new.cache (served.RolledBack c.in-Some.fall.mark c.in-Some.fall.dropped c.in_ok-unrecorded.unrecorded) c.in_ok-unrecorded.ensures.turn

pub returns-in-Some-clause-stays : goal.returns-in-Some-clause-stays
returns-in-Some-clause-stays c = λ told.
    subst (λ (n : ℕ). is_live c.tell.new.self n ≡ true) c.in_ok-unrecorded.ensures.client_after c.in_ok-unrecorded.ensures.owned.live

pub returns-clause-stays : goal.returns-clause-stays
returns-clause-stays c = λ told. absurd (told refl)
