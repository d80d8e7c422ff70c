use Rattle.std.proofs.Common.{◌≡◌, ◌<◌, ◌≤◌, ℕ, ◌+◌, ◌-◌, List, [], ◌∷◌, true, false, length, min, Contains, refl, sym, ap, ap₂, ◌∙◌, subst, arith, ◌++◌}
use Rattle.std.specs.Prelude.{Option, None, Some, nat_lt, option_map}
use Rattle.std.proofs.Common.{ltb-false}
use Rattle.std.proofs.lemmas.Bool.{le-ltb}
use Rattle.casper_words.specs.declared.page.Want.{Want}
use Rattle.casper_trail.specs.declared.item.Item.{Item}
use Rattle.casper_trail.specs.TrailView.{entry_count, commit_count}
use Rattle.casper_cache.specs.Own as cache
use Rattle.casper_model.specs.Stabilisation.{is_empty}
use Rattle.casper_model.proofs.MarkHistory.{contains_kept}
use Rattle.std.specs.List.{list_any}
use Rattle.casper_words.specs.Crew.{clients}
use Rattle.casper_words.specs.declared.call.Call.{Call}
use Rattle.casper_model.specs.Stabilisation.{Stabilisation}
use Rattle.casper_hub.specs.declared.decide.Decision.{Decision}
use Rattle.casper_hub.specs.declared.decide.Decision.TheVariants as decision
use Rattle.casper_hub.specs.HubView.{HubView, PagesView, ClientView, place_in, cap_of, caps_of, free_in, page_count, fallen_in}
use Rattle.casper_hub.specs.HubFields.{hub_of}
use Rattle.casper_hub.specs.Given.{topped}
use Rattle.casper_hub.specs.Deciding.{is_missing, stands_in_the_way, missing_in, blockers_in, blocked_in, unframed_in, decision_for}
use Rattle.casper_hub.specs.Stages.{CanGrant, gathering_in, part_of}
use Rattle.casper_hub.proofs.Whole.{Whole, Owning, whole_at, owning, fallen_shown}
use Rattle.casper_hub.proofs.AcquiredTurns.{decided_pending_is, decided_grant_is, refused_at_once_by, pending_refused, full_refused, load_turn}
use Rattle.casper_model.specs.declared.reply.Reply.{Reply}
use Rattle.casper_model.specs.declared.reply.Reply.TheVariants.{Pending, TrailFull}
use Rattle.casper_trail.specs.Parts.{as_items}
use Rattle.casper_trail.specs.Calls.{entries_by}
use Rattle.casper_model.specs.Acquire.{acquire, is_pending}
use Rattle.casper_model.specs.Opening.{opened}
use Rattle.casper_frozen.specs.declared.refusal.Refusal.{Refusal}
use Rattle.casper_frozen.specs.declared.refusal.Refusal.TheVariants as cause
use Rattle.casper_frozen.specs.Refused.{reply_of, refused_at_once}
use Rattle.casper_hub.specs.Owned.{Owns, own_of}
use Rattle.casper_hub.specs.Sound.{IsSound}
use Rattle.casper_hub.specs.Turns.{IsTurn, IsRefused, IsLoad, Acquires}
use Rattle.casper_hub.proofs.TurnOpened.{at_once_opened}
use Rattle.casper_hub.proofs.Blocking.{missing_same}
use Rattle.casper_hub.proofs.ShownPlaces.{none_at}

-- What the parts of a hub decide, in terms of the hub.

-- the cap that a cache will have, as the parts of its hub give it
pub cap_here : (hub : HubView) (own : cache.Own) (who limit : ℕ) (stabilisations : List Stabilisation) (cap before free : ℕ) (trail : List Item) (places : List (Option ClientView)) (pages : PagesView) (seen items : List Call)
    → hub_of trail limit stabilisations places pages ≡ hub → own.client ≡ who → Owning hub own → cap ≡ min 4100 (before - length seen + free) → before ≡ cap_of (place_in places who)
    → seen ≡ items → items ≡ own.pending → free ≡ limit - entry_count trail - caps_of places → cap ≡ topped own (free_in hub)
cap_here hub own who limit stabilisations cap before free trail places pages seen items view client owns cap_is before_is seen_is items_is free_is =
    cap_is ∙ ap₂ (λ a b. min 4100 (a + b))
    (ap₂ (λ a b. a - b) (before_is ∙ ap₂ (λ (h : HubView) n. cap_of (place_in h.clients n)) view (sym client) ∙ owns.cap) (ap length (seen_is ∙ items_is)))
    (free_is ∙ ap free_in view)

-- a decision made by the parts of a hub
pub decided_here : (hub : HubView) (own : cache.Own) (who limit : ℕ) (stabilisations : List Stabilisation) (cap calls : ℕ) (trail : List Item) (places : List (Option ClientView)) (pages : PagesView) (wants : List Want) (made : Decision)
    → hub_of trail limit stabilisations places pages ≡ hub → own.client ≡ who → cap ≡ topped own (free_in hub) → made ≡ decision_for pages places who wants calls cap
    → made ≡ decision_for hub.pages hub.clients own.client wants calls (topped own (free_in hub))
decided_here hub own who limit stabilisations cap calls trail places pages wants made view client cap_is made_is =
    made_is
    ∙ ap₂ (λ (h : HubView) n. decision_for h.pages h.clients n wants calls cap) view (sym client)
    ∙ ap (decision_for hub.pages hub.clients own.client wants calls) cap_is

-- a page that is asked for is one of the store's
pub blocked_in_range : (hub : HubView) (own : cache.Own) (calls cap : ℕ) (wants blocked : List Want) (blockers : List ℕ)
    → decision.Pending blockers blocked ≡ decision_for hub.pages hub.clients own.client wants calls cap → ((want : Want) → Contains wants want → want.page < page_count hub)
    → (ask : Want) → Contains blocked ask → ask.page < page_count hub
blocked_in_range hub own calls cap wants blocked blockers made range ask among =
    let missing : List Want = missing_in hub.pages hub.clients own.client wants in
    let told = decided_pending_is (is_empty (blockers_in hub.pages hub.clients own.client missing)) (nat_lt cap (length missing + calls)) missing
    (blocked_in hub.pages hub.clients own.client missing) blocked (blockers_in hub.pages hub.clients own.client missing) blockers (unframed_in hub.pages missing) made in
    range ask
    (contains_kept (is_missing hub.pages hub.clients own.client) wants ask
    (contains_kept (λ want. list_any (stands_in_the_way hub.pages hub.clients own.client want) clients) missing ask (subst (λ list. Contains list ask) told.2 among)).0).0

-- an empty list
empty_is_nil : (members : List ℕ) → is_empty members ≡ true → members ≡ []
empty_is_nil [] is = refl
empty_is_nil (one ∷ members) is = cc

-- what was decided to be granted can be, and nobody stands in the way and there is room
pub can_grant : (hub : HubView) (own : cache.Own) (calls : ℕ) (wants missing : List Want)
    → decision.Grant missing ≡ decision_for hub.pages hub.clients own.client wants calls (topped own (free_in hub))
    → CanGrant own.client hub own wants missing × (length missing + calls ≤ topped own (free_in hub))
can_grant hub own calls wants missing made = (
  record {
    missing_is = told.2;
    unblocked = ap (blockers_in hub.pages hub.clients own.client) told.2 ∙ empty_is_nil (blockers_in hub.pages hub.clients own.client those) told.0;
    room =
        let enough : length those + calls ≤ topped own (free_in hub) = ltb-false (topped own (free_in hub)) (length those + calls) told.1 in
        omega (arith, ap length told.2, enough);
    framed = ap (unframed_in hub.pages) told.2 ∙ told.3;
  },
  (let enough : length those + calls ≤ topped own (free_in hub) = ltb-false (topped own (free_in hub)) (length those + calls) told.1 in
      omega (arith, ap length told.2, enough)),
)
  where
    those : List Want
    those = missing_in hub.pages hub.clients own.client wants

    told : (is_empty (blockers_in hub.pages hub.clients own.client those) ≡ true) × (nat_lt (topped own (free_in hub)) (length those + calls) ≡ false) × (missing ≡ those)
        × (unframed_in hub.pages those ≡ None)
    told =
        decided_grant_is (is_empty (blockers_in hub.pages hub.clients own.client those)) (nat_lt (topped own (free_in hub)) (length those + calls)) those
        (blocked_in hub.pages hub.clients own.client those) missing (blockers_in hub.pages hub.clients own.client those) (unframed_in hub.pages those) made

-- so nobody stands in the way of an acquire that can be granted
pub nobody_blocks : (hub : HubView) (own : cache.Own) (wants missing : List Want) → CanGrant own.client hub own wants missing
    → is_empty (blockers_in hub.pages hub.clients own.client (missing_in hub.pages hub.clients own.client wants)) ≡ true
nobody_blocks hub own wants missing can =
    ap is_empty (ap (blockers_in hub.pages hub.clients own.client) (sym can.missing_is) ∙ can.unblocked)

-- and there is room for it with this many calls, where there is
pub room_for : (hub : HubView) (own : cache.Own) (wants missing : List Want) (calls : ℕ) → CanGrant own.client hub own wants missing
    → length missing + calls ≤ topped own (free_in hub) → nat_lt (topped own (free_in hub)) (length (missing_in hub.pages hub.clients own.client wants) + calls) ≡ false
room_for hub own wants missing calls can room =
    ap (λ (l : List Want). nat_lt (topped own (free_in hub)) (length l + calls)) (sym can.missing_is) ∙ le-ltb (topped own (free_in hub)) (length missing + calls) room

-- what an acquire finds that is decided by who stands in the way and by room: its client's association is not gathering, and nothing is refused
-- at once
pub record MayDecide (hub : HubView) (own : cache.Own) (wants : List Want) : Type 0 where
  pub sound : Whole hub
  pub owns : Owning hub own
  pub apart : gathering_in hub own.client ≡ None
  pub free : refused_at_once (part_of hub) own.client (missing_in hub.pages hub.clients own.client wants) ≡ None

pub may_decide : (hub view : HubView) (who : ℕ) (own : cache.Own) (refused : Option Refusal) (wants : List Want) → view ≡ hub → IsSound view → Owns hub own → own.client ≡ who
    → fallen_in hub who ≡ None → gathering_in hub who ≡ None
    → option_map reply_of refused ≡ refused_at_once (part_of hub) who (missing_in hub.pages hub.clients who wants) → ((refusal : Refusal) → refused ≡ Some refusal → ⊥) → MayDecide hub own wants
may_decide hub view who own refused wants view_is sound owns client up apart refuses never = record {
  sound = whole_at view hub view_is sound;
  owns = owning hub own (subst IsSound view_is sound) owns (ap (fallen_in hub) client ∙ up);
  apart = ap (gathering_in hub) client ∙ apart;
  free = ap (λ (w : ℕ). refused_at_once (part_of hub) w (missing_in hub.pages hub.clients w wants)) client ∙ sym refuses ∙ ap (option_map reply_of) (none_at refused never);
}

-- a refusal at once leaves no asks
pub asks_nothing : (refusal : Refusal) → is_pending (reply_of refusal) ≡ false
asks_nothing cause.InDoubt = refl
asks_nothing (cause.Frozen lead) = refl

pub at_once_refused : (hub : HubView) (own : cache.Own) (wants : List Want) (calls : ℕ) (refusal : Refusal) → Whole hub → Owning hub own → gathering_in hub own.client ≡ None
    → refused_at_once (part_of hub) own.client (missing_in hub.pages hub.clients own.client wants) ≡ Some (reply_of refusal) → IsRefused hub own wants calls (reply_of refusal) []
at_once_refused hub own wants calls refusal sound owns apart refused shared shows =
    refused_at_once_by shared (own_of own) wants calls (reply_of refusal) (fallen_shown shared hub own shows owns)
    (ap (refused_at_once (opened shared (own_of own)).shared own.client) (missing_same shared hub own wants shows sound owns apart)
    ∙ at_once_opened shared hub own (missing_in hub.pages hub.clients own.client wants) shows sound owns apart ∙ refused)
    (asks_nothing refusal)

-- such a turn is what the acquire answers
pub acquires_refused : (hub : HubView) (own : cache.Own) (wants : List Want) (calls : ℕ) (refusal : Refusal) (reply : Reply) (after : HubView) (own_after : cache.Own) → reply ≡ reply_of refusal
    → IsTurn (λ shared own. acquire shared own wants calls) (reply_of refusal) hub own after own_after → Acquires hub own wants calls reply after own_after
acquires_refused hub own wants calls refusal reply after own_after is turn =
    subst (λ (r : Reply). Acquires hub own wants calls r after own_after) (sym is) (by refusal turn)
  where
    by : (refusal : Refusal) → IsTurn (λ shared own. acquire shared own wants calls) (reply_of refusal) hub own after own_after → Acquires hub own wants calls (reply_of refusal) after own_after
    by cause.InDoubt turn = turn
    by (cause.Frozen lead) turn = turn

-- what such an acquire comes to
module _ (hub : HubView) (own : cache.Own) (wants : List Want) (may : MayDecide hub own wants) where
  pub pending_so : (blocked : List Want) (blockers : List ℕ) (calls : ℕ) → decision.Pending blockers blocked ≡ decision_for hub.pages hub.clients own.client wants calls (topped own (free_in hub))
      → IsRefused hub own wants calls (Pending blockers) blocked
  pending_so blocked blockers calls made = pending_refused hub own wants blocked blockers calls may.sound may.owns may.apart may.free made

  pub full_so : (calls : ℕ) → decision.Full ≡ decision_for hub.pages hub.clients own.client wants calls (topped own (free_in hub))
      → IsRefused hub own wants calls (TrailFull (entry_count (hub.trail ++ as_items (entries_by own.client own.pending)))) []
  full_so calls made = full_refused hub own wants calls may.sound may.owns may.apart may.free made

  pub load_so : (calls page marks : ℕ) → decision.Load page ≡ decision_for hub.pages hub.clients own.client wants calls (topped own (free_in hub)) → marks ≡ commit_count hub.trail
      → IsLoad hub own wants calls page marks hub own
  load_so calls page marks made counted = load_turn hub own wants calls page marks may.sound may.owns may.apart may.free made counted
