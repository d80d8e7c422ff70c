use Rattle.std.proofs.Common.{◌≡◌, ◌≤◌, ◌<◌, ◌∙◌, ℕ, List, length, sym, ap, ap₂, subst, refl, arith}
use Rattle.std.specs.Prelude.{None}
use Rattle.casper_trail.specs.declared.item.Item.{Item}
use Rattle.casper_model.specs.Stabilisation.{Stabilisation}
use Rattle.casper_gather.specs.UnendedLaws.{stabilisations_of}
use Rattle.casper_hub.specs.HubView.{HubView, client_in, fallen_in}
use Rattle.casper_hub.specs.HubFields.{hub_of}
use Rattle.casper_hub.specs.GoesOn.{KeepsClient, CommitsNothing}
use Rattle.casper_hub.specs.Stabilising.{Stabilises, kept_of}
use Rattle.casper_hub.specs.Stages.{OpensTurn}
use Rattle.casper_hub.proofs.Bridged.{keeps_of}
use Rattle.casper_hub.proofs.Relying.{kept_itself, nothing_itself}
use Rattle.casper_hub.proofs.KeptUp.{room_for_all, up_seen}
use Rattle.casper_hub.proofs.Stabilised.{stabilise_turn, stabilised_whole, stabilised_owned, stabilised_others, stabilised_still, stabilised_client, stabilised_frames, stabilised_words}
use Rattle.casper_hub.proofs.StandsFor.{stands_for}
use Rattle.casper_hub.proofs.TurnOpened.{rights_turn_for, opening_whole, opening_client}
use Rattle.casper_hub.proofs.Whole.{Whole, Owning, whole_at, owning}
use Rattle.casper_hub.proofs.hub.Hub.stabilise.Goals as goal

-- room that is taken changes nothing
same_first : (c : goal.After-from_residual-in_err-reserve) → hub_of c.self.inside.trail.items c.self.inside.limit (stabilisations_of c.reserve.new.self.each) c.self.inside.clients c.self.inside.pages ≡ c.args.self.now
same_first c =
    ap (λ (list : List Stabilisation). hub_of c.self.inside.trail.items c.self.inside.limit list c.self.inside.clients c.self.inside.pages) (ap stabilisations_of c.reserve.ensures.each)
    ∙ c.self.view_is

same_second : (c : goal.After-from_residual-in_err-reserve-2) → hub_of c.reserve-2.new.self.items c.self.inside.limit (stabilisations_of c.reserve.new.self.each) c.self.inside.clients c.self.inside.pages ≡ c.args.self.now
same_second c =
    ap₂ (λ (items : List Item) (list : List Stabilisation). hub_of items c.self.inside.limit list c.self.inside.clients c.self.inside.pages) c.reserve-2.ensures.items (ap stabilisations_of c.reserve.ensures.each)
    ∙ c.self.view_is

pub returns-in_err-reserve-clause-others : goal.returns-in_err-reserve-clause-others
returns-in_err-reserve-clause-others c other differ = subst (λ (h : HubView). KeepsClient other c.args.self.now h) (sym (same_first c)) (kept_itself other c.args.self.now)

pub returns-in_err-reserve-clause-still : goal.returns-in_err-reserve-clause-still
returns-in_err-reserve-clause-still c = subst (λ (h : HubView). CommitsNothing c.args.self.now h) (sym (same_first c)) (nothing_itself c.args.self.now)

pub returns-in_err-reserve-2-clause-others : goal.returns-in_err-reserve-2-clause-others
returns-in_err-reserve-2-clause-others c other differ = subst (λ (h : HubView). KeepsClient other c.args.self.now h) (sym (same_second c)) (kept_itself other c.args.self.now)

pub returns-in_err-reserve-2-clause-still : goal.returns-in_err-reserve-2-clause-still
returns-in_err-reserve-2-clause-still c = subst (λ (h : HubView). CommitsNothing c.args.self.now h) (sym (same_second c)) (nothing_itself c.args.self.now)

-- the hub as it was
whole_before_first : (c : goal.After-stabilise_opened-arg-2-1) → Whole c.args.self.now
whole_before_first c = whole_at (hub_of c.self.inside.trail.items c.self.inside.limit (stabilisations_of c.self.inside.unended.each) c.self.inside.clients c.self.inside.pages) c.args.self.now c.self.view_is c.self.invariant.0

up_before_first : (c : goal.After-stabilise_opened-arg-2-1) → fallen_in c.args.self.now c.args.cache.now.client ≡ None
up_before_first c =
    up_seen c.args.who c.args.cache.now.client c.self.inside.limit (stabilisations_of c.self.inside.unended.each) c.self.inside.trail.items c.self.inside.clients c.self.inside.pages c.args.self.now c.fall.result c.self.view_is c.requires.client c.fall.ensures c.in_default.not-Some

-- the hub once the turn has opened
abbrev begun_first : goal.After-stabilise_opened-arg-2-1 → HubView
begun_first c = hub_of c.open_turn.new.trail.items c.self.inside.limit (stabilisations_of c.open_turn.new.unended.each) c.open_turn.new.clients c.open_turn.new.pages

opens_first : (c : goal.After-stabilise_opened-arg-2-1) → OpensTurn c.args.cache.now.client c.args.self.now c.args.cache.now (begun_first c) c.open_turn.new.cache
opens_first c =
    subst (λ (h : HubView). OpensTurn c.args.cache.now.client h c.args.cache.now (begun_first c) c.open_turn.new.cache)
    (ap₂ (λ (items : List Item) (list : List Stabilisation). hub_of items c.self.inside.limit list c.self.inside.clients c.self.inside.pages) c.reserve-2.ensures.items (ap stabilisations_of c.reserve.ensures.each) ∙ c.self.view_is)
    c.open_turn.ensures.opens

pub stabilise_opened-reply-requires-clause-covers : goal.stabilise_opened-reply-requires-clause-covers
stabilise_opened-reply-requires-clause-covers c =
    (rights_turn_for c.args.who c.args.self.now c.args.cache.now (begun_first c) c.open_turn.new.cache c.requires.client (whole_before_first c) c.requires.owns (up_before_first c) (opens_first c)).0

pub stabilise_opened-reply-requires-clause-all : goal.stabilise_opened-reply-requires-clause-all
stabilise_opened-reply-requires-clause-all c =
    (rights_turn_for c.args.who c.args.self.now c.args.cache.now (begun_first c) c.open_turn.new.cache c.requires.client (whole_before_first c) c.requires.owns (up_before_first c) (opens_first c)).1

pub stabilise_opened-reply-requires-clause-room : goal.stabilise_opened-reply-requires-clause-room
stabilise_opened-reply-requires-clause-room c = subst (λ (n : ℕ). 0 < n) (sym c.open_turn.ensures.may_begin) c.in_ok-reserve.ensures.room

-- the hub as it was
whole_before : (c : goal.After-stabilise_opened-reply) → Whole c.args.self.now
whole_before c = whole_at (hub_of c.self.inside.trail.items c.self.inside.limit (stabilisations_of c.self.inside.unended.each) c.self.inside.clients c.self.inside.pages) c.args.self.now c.self.view_is c.self.invariant.0

up_before : (c : goal.After-stabilise_opened-reply) → fallen_in c.args.self.now c.args.cache.now.client ≡ None
up_before c =
    up_seen c.args.who c.args.cache.now.client c.self.inside.limit (stabilisations_of c.self.inside.unended.each) c.self.inside.trail.items c.self.inside.clients c.self.inside.pages c.args.self.now c.fall.result c.self.view_is c.requires.client c.fall.ensures c.in_default.not-Some

-- the hub once the turn has opened
abbrev begun : goal.After-stabilise_opened-reply → HubView
begun c = hub_of c.open_turn.new.trail.items c.self.inside.limit (stabilisations_of c.open_turn.new.unended.each) c.open_turn.new.clients c.open_turn.new.pages

opens : (c : goal.After-stabilise_opened-reply) → OpensTurn c.args.cache.now.client c.args.self.now c.args.cache.now (begun c) c.open_turn.new.cache
opens c =
    subst (λ (h : HubView). OpensTurn c.args.cache.now.client h c.args.cache.now (begun c) c.open_turn.new.cache)
    (ap₂ (λ (items : List Item) (list : List Stabilisation). hub_of items c.self.inside.limit list c.self.inside.clients c.self.inside.pages) c.reserve-2.ensures.items (ap stabilisations_of c.reserve.ensures.each) ∙ c.self.view_is)
    c.open_turn.ensures.opens

owning_before : (c : goal.After-stabilise_opened-reply) → Owning c.args.self.now c.args.cache.now
owning_before c = owning c.args.self.now c.args.cache.now (whole_before c).sound c.requires.owns (up_before c)

-- the hub after the turn
abbrev after : goal.After-stabilise_opened-reply → HubView
after c = hub_of c.open_turn.new.trail.items c.self.inside.limit (stabilisations_of c.stabilise_opened-reply.new.unended.each) c.open_turn.new.clients c.stabilise_opened-reply.new.pages

kept_is : (c : goal.After-stabilise_opened-reply) → c.kept-kept.result ≡ kept_of (client_in c.args.self.now c.args.cache.now.client)
kept_is c =
    c.kept-kept.ensures ∙ ap (λ (h : HubView). kept_of (client_in h c.args.who)) c.self.view_is
    ∙ ap (λ (who : ℕ). kept_of (client_in c.args.self.now who)) (sym c.requires.client)

does : (c : goal.After-stabilise_opened-reply) → Stabilises c.open_turn.new.cache.client c.kept-kept.result c.stabilise_opened-reply.result (begun c) c.open_turn.new.cache (after c) c.stabilise_opened-reply.new.cache
does c =
    let whole = opening_whole c.args.self.now c.args.cache.now (begun c) c.open_turn.new.cache (whole_before c) (owning_before c) (opens c) in
    let stands = stands_for (begun c) whole.sound.stands in
    let keeps = keeps_of stands.shared (begun c) c.open_turn.new.unended c.open_turn.new.associations stands.shows whole.sound.stands refl c.open_turn.ensures.associations in
    let client : c.open_turn.new.cache.client ≡ c.args.who =
    opening_client c.args.self.now c.args.cache.now (begun c) c.open_turn.new.cache (whole_before c) (owning_before c) (opens c) ∙ c.requires.client in
    subst (λ (who : ℕ). Stabilises who c.kept-kept.result c.stabilise_opened-reply.result (begun c) c.open_turn.new.cache (after c) c.stabilise_opened-reply.new.cache) (sym client)
    (subst (λ (items : List Item). Stabilises c.args.who c.kept-kept.result c.stabilise_opened-reply.result
    (hub_of items c.self.inside.limit (stabilisations_of c.open_turn.new.unended.each) c.open_turn.new.clients c.open_turn.new.pages) c.open_turn.new.cache
    (hub_of items c.self.inside.limit (stabilisations_of c.stabilise_opened-reply.new.unended.each) c.open_turn.new.clients c.stabilise_opened-reply.new.pages) c.stabilise_opened-reply.new.cache)
    stands.shows.trail
    (c.stabilise_opened-reply.ensures.stabilises stands.shared keeps stands.good c.self.inside.limit c.open_turn.new.clients))

whole_after : (c : goal.After-stabilise_opened-reply) → Whole (after c)
whole_after c = stabilised_whole c.args.self.now c.args.cache.now (begun c) c.open_turn.new.cache c.kept-kept.result c.stabilise_opened-reply.result (after c) c.stabilise_opened-reply.new.cache (whole_before c) (owning_before c) (opens c) (kept_is c) (does c)

room_left : (c : goal.After-stabilise_opened-reply) → 66 ≤ c.open_turn.new.trail.room
room_left c =
    let reserved = c.in_ok-reserve-2.ensures.ok in
    let room = c.open_turn.ensures.room in
    let pending : length c.as_slice.result.now ≡ length c.args.cache.now.pending = ap length (c.as_slice.ensures ∙ c.pending.ensures) in
    omega (arith, reserved, room, pending)

pub invariant_of-self-2 : goal.invariant_of-self-2
invariant_of-self-2 c = (
  (whole_after c).sound,
  record {
    limit = c.open_turn.ensures.limit ∙ c.reserve-2.ensures.limit ∙ c.self.invariant.1.limit;
    associations = c.open_turn.ensures.associations;
    pages = c.open_turn.ensures.pages_stay ∙ c.self.invariant.1.pages ∙ sym c.open_turn.ensures.count ∙ sym c.stabilise_opened-reply.ensures.pages;
    room = room_for_all c.open_turn.new.trail.items c.self.inside.limit c.stabilise_opened-reply.new.unended.each c.open_turn.new.clients c.stabilise_opened-reply.new.pages c.open_turn.new.trail.room (whole_after c).sound (room_left c);
  },
)

pub returns-clause-turn : goal.returns-clause-turn
returns-clause-turn c = stabilise_turn c.args.self.now c.args.cache.now (begun c) c.open_turn.new.cache c.kept-kept.result c.stabilise_opened-reply.result (after c) c.stabilise_opened-reply.new.cache (whole_before c) (owning_before c) (opens c) (kept_is c) (does c)

pub returns-clause-owned : goal.returns-clause-owned
returns-clause-owned c = stabilised_owned c.args.self.now c.args.cache.now (begun c) c.open_turn.new.cache c.kept-kept.result c.stabilise_opened-reply.result (after c) c.stabilise_opened-reply.new.cache (whole_before c) (owning_before c) (opens c) (kept_is c) (does c)

pub returns-clause-frames : goal.returns-clause-frames
returns-clause-frames c base frames words = stabilised_frames c.args.self.now c.args.cache.now (begun c) c.open_turn.new.cache c.kept-kept.result c.stabilise_opened-reply.result (after c) c.stabilise_opened-reply.new.cache (whole_before c) (owning_before c) (opens c) (kept_is c) (does c) base frames words

pub returns-clause-words : goal.returns-clause-words
returns-clause-words c base frames words = stabilised_words c.args.self.now c.args.cache.now (begun c) c.open_turn.new.cache c.kept-kept.result c.stabilise_opened-reply.result (after c) c.stabilise_opened-reply.new.cache (whole_before c) (owning_before c) (opens c) (kept_is c) (does c) base words

pub returns-clause-others : goal.returns-clause-others
returns-clause-others c other differ = stabilised_others c.args.self.now c.args.cache.now (begun c) c.open_turn.new.cache c.kept-kept.result c.stabilise_opened-reply.result (after c) c.stabilise_opened-reply.new.cache (whole_before c) (owning_before c) (opens c) (kept_is c) (does c) other (λ same. differ (same ∙ c.requires.client))

pub returns-clause-still : goal.returns-clause-still
returns-clause-still c = stabilised_still c.args.self.now c.args.cache.now (begun c) c.open_turn.new.cache c.kept-kept.result c.stabilise_opened-reply.result (after c) c.stabilise_opened-reply.new.cache (whole_before c) (owning_before c) (opens c) (kept_is c) (does c)

pub returns-clause-client_after : goal.returns-clause-client_after
returns-clause-client_after c = stabilised_client c.args.self.now c.args.cache.now (begun c) c.open_turn.new.cache c.kept-kept.result c.stabilise_opened-reply.result (after c) c.stabilise_opened-reply.new.cache (whole_before c) (owning_before c) (opens c) (kept_is c) (does c) ∙ c.requires.client

pub returns-clause-sound : goal.returns-clause-sound
returns-clause-sound c = (whole_after c).sound
