use Rattle.std.proofs.Common.{◌≡◌, ◌≤◌, ◌+◌, ◌∙◌, ◌++◌, ℕ, List, length, sym, ap, subst, arith}
use Rattle.std.specs.Prelude.{None}
use Rattle.casper_words.specs.declared.page.Want.{Want}
use Rattle.casper_trail.specs.declared.item.Item.{Item}
use Rattle.casper_trail.specs.Parts.{as_items}
use Rattle.casper_trail.specs.Calls.{entries_by}
use Rattle.casper_model.specs.declared.reply.Reply.{Reply}
use Rattle.casper_model.specs.Acquire.{acquire}
use Rattle.casper_model.specs.Both.{Turned}
use Rattle.casper_model.specs.Own as machine
use Rattle.casper_model.specs.Shared.{Shared}
use Rattle.casper_turns.specs.Good.{IsGoodShared}
use Rattle.casper_turns.specs.Kept.{KeptByTurn}
use Rattle.casper_turns.specs.TurnLaws.{IsTurn as MachineTurn}
use Rattle.casper_hub.specs.HubView.{HubView, fallen_in}
use Rattle.casper_hub.specs.HubFields.{hub_of}
use Rattle.casper_hub.specs.Owned.{own_of, Owns}
use Rattle.casper_hub.specs.Shows.{Shows}
use Rattle.casper_hub.specs.Sound.{IsSound}
use Rattle.casper_hub.specs.Stages.{Refuses, OpensTurn}
use Rattle.casper_hub.specs.Turns.{IsTurn, IsRefused}
use Rattle.casper_hub.specs.Words.{FramesAreRight}
use Rattle.casper_hub.proofs.AcquiredTurns.{refused_turn}
use Rattle.casper_hub.proofs.KeptUp.{room_after}
use Rattle.casper_hub.proofs.ForClient.{refuses_for, kept_reserved, nothing_reserved}
use Rattle.casper_hub.proofs.Refused.{refused_opened, refused_formed, refused_up, refused_live, refused_frames, refused_words}
use Rattle.casper_hub.proofs.Transport.{kept_by, stands_behind, keeps_others, keeps_still, owns_behind}
use Rattle.casper_hub.proofs.Whole.{Whole, Owning, whole_at, owning}
use Rattle.casper_hub.proofs.hub.Hub.refuse.Goals as goal
use Rattle.casper_gather.specs.UnendedLaws.{stabilisations_of}
use Rattle.casper_hub.proofs.TurnOpened.{opening_client, opening_count, opening_trail, opening_cache, opening_few}

pub returns-in_err-reserve-clause-others : goal.returns-in_err-reserve-clause-others
returns-in_err-reserve-clause-others c other differ =
    kept_reserved c.args.self.now c.self.inside.limit (stabilisations_of c.self.inside.unended.each) c.reserve.new.self.items c.self.inside.trail.items c.self.inside.clients c.self.inside.pages c.self.view_is c.reserve.ensures.items other

pub returns-in_err-reserve-clause-still : goal.returns-in_err-reserve-clause-still
returns-in_err-reserve-clause-still c =
    nothing_reserved c.args.self.now c.self.inside.limit (stabilisations_of c.self.inside.unended.each) c.reserve.new.self.items c.self.inside.trail.items c.self.inside.clients c.self.inside.pages c.self.view_is c.reserve.ensures.items

pub returns-in_err-reserve-clause-frames : goal.returns-in_err-reserve-clause-frames
returns-in_err-reserve-clause-frames c base frames words =
    subst (λ (l : List Item). FramesAreRight base (hub_of l c.self.inside.limit (stabilisations_of c.self.inside.unended.each) c.self.inside.clients c.self.inside.pages)) (sym c.reserve.ensures.items)
    (subst (FramesAreRight base) (sym c.self.view_is) frames)

-- room taken in the trail changes nothing
pub open_turn-requires-clause-sound : goal.open_turn-requires-clause-sound
open_turn-requires-clause-sound c =
    subst (λ (items : List Item). IsSound (hub_of items c.self.inside.limit (stabilisations_of c.self.inside.unended.each) c.self.inside.clients c.self.inside.pages)) (sym c.reserve.ensures.items) c.self.invariant.0

pub open_turn-requires-clause-owns : goal.open_turn-requires-clause-owns
open_turn-requires-clause-owns c =
    subst (λ (items : List Item). Owns (hub_of items c.self.inside.limit (stabilisations_of c.self.inside.unended.each) c.self.inside.clients c.self.inside.pages) c.args.cache.now) (sym c.reserve.ensures.items)
    (subst (λ (h : HubView). Owns h c.args.cache.now) (sym c.self.view_is) c.requires.owns)

pub open_turn-requires-clause-up : goal.open_turn-requires-clause-up
open_turn-requires-clause-up c = subst (λ (h : HubView). fallen_in h c.args.who ≡ None) (sym c.self.view_is) c.requires.up

-- the hub as it was
whole_before : (c : goal.After-set_asks) → Whole c.args.self.now
whole_before c = whole_at (hub_of c.self.inside.trail.items c.self.inside.limit (stabilisations_of c.self.inside.unended.each) c.self.inside.clients c.self.inside.pages) c.args.self.now c.self.view_is c.self.invariant.0

owning_before : (c : goal.After-set_asks) → Owning c.args.self.now c.args.cache.now
owning_before c = owning c.args.self.now c.args.cache.now (whole_before c).sound c.requires.owns (ap (fallen_in c.args.self.now) c.requires.client ∙ c.requires.up)

-- the hub after the turn
abbrev after : goal.After-set_asks → HubView
after c = hub_of c.open_turn.new.trail.items c.self.inside.limit (stabilisations_of c.open_turn.new.unended.each) c.set_asks.new.self c.open_turn.new.pages

-- the hub once its turn has opened
abbrev opened : goal.After-set_asks → HubView
opened c = hub_of c.open_turn.new.trail.items c.self.inside.limit (stabilisations_of c.open_turn.new.unended.each) c.open_turn.new.clients c.open_turn.new.pages

opens : (c : goal.After-set_asks) → OpensTurn c.args.cache.now.client c.args.self.now c.args.cache.now (opened c) c.open_turn.new.cache
opens c =
    subst (λ (h : HubView). OpensTurn c.args.cache.now.client h c.args.cache.now (opened c) c.open_turn.new.cache)
    (ap (λ (items : List Item). hub_of items c.self.inside.limit (stabilisations_of c.self.inside.unended.each) c.self.inside.clients c.self.inside.pages) c.reserve.ensures.items ∙ c.self.view_is)
    c.open_turn.ensures.opens

refuses : (c : goal.After-set_asks) → Refuses c.args.cache.now.client c.args.asks c.args.self.now c.args.cache.now (after c) c.open_turn.new.cache
refuses c =
    refuses_for c.args.who c.args.asks c.args.self.now c.args.cache.now c.open_turn.new.trail.items c.self.inside.limit (stabilisations_of c.open_turn.new.unended.each) c.open_turn.new.clients
    c.set_asks.new.self c.open_turn.new.pages c.open_turn.new.cache c.requires.client (opens c) c.set_asks.ensures

turn : (c : goal.After-set_asks) (wants : List Want) (calls : ℕ) (reply : Reply) → IsRefused c.args.self.now c.args.cache.now wants calls reply c.args.asks
    → IsTurn (λ shared own. acquire shared own wants calls) reply c.args.self.now c.args.cache.now (after c) c.open_turn.new.cache
turn c wants calls reply refused =
    refused_turn c.args.self.now c.args.cache.now wants calls reply c.args.asks (after c) c.open_turn.new.cache (whole_before c) (owning_before c) (refuses c)
    (refused_opened c.args.asks c.args.self.now c.args.cache.now (after c) c.open_turn.new.cache (whole_before c) (owning_before c) (refuses c)) refused

-- the acquire that is refused
abbrev acquiring : goal.After-set_asks → Shared → machine.Own → Turned Reply
acquiring c shared own = acquire shared own c.requires.refused.0 c.requires.refused.1

this : (c : goal.After-set_asks) → IsTurn (acquiring c) c.requires.refused.2 c.args.self.now c.args.cache.now (after c) c.open_turn.new.cache
this c = turn c c.requires.refused.0 c.requires.refused.1 c.requires.refused.2 c.requires.refused.3

keeps : (c : goal.After-set_asks) (shared : Shared) → Shows shared c.args.self.now → IsGoodShared shared
    → KeptByTurn shared (own_of c.args.cache.now) (acquiring c shared (own_of c.args.cache.now)).shared (acquiring c shared (own_of c.args.cache.now)).own
keeps c =
    kept_by (acquiring c) c.args.self.now c.args.cache.now c.requires.owns
    (λ shared one live. MachineTurn.acquiring c.requires.refused.0 c.requires.refused.1 live)

sound_after : (c : goal.After-set_asks) → IsSound (after c)
sound_after c = record {
  formed =
      refused_formed c.args.asks c.args.self.now c.args.cache.now (after c) c.open_turn.new.cache (whole_before c) (owning_before c) (refuses c) c.requires.range;
  stands = stands_behind (acquiring c) c.args.self.now c.args.cache.now (after c) (this c).shows (keeps c) (whole_before c).sound.stands;
}

reserved_for : (c : goal.After-set_asks) → length c.as_slice.result.now + 0 + 66 ≤ c.reserve.new.self.room
reserved_for c = let reserved = c.in_ok-reserve.ensures.ok in omega (arith, reserved)

pub invariant_of-self-2 : goal.invariant_of-self-2
invariant_of-self-2 c = (
  sound_after c,
  record {
    limit = c.open_turn.ensures.limit ∙ c.reserve.ensures.limit ∙ c.self.invariant.1.limit;
    associations = c.open_turn.ensures.associations;
    pages = c.open_turn.ensures.pages_stay ∙ c.self.invariant.1.pages ∙ sym c.open_turn.ensures.count;
    room = room_after c.open_turn.new.trail.items c.self.inside.limit c.open_turn.new.unended.each c.set_asks.new.self c.open_turn.new.pages
        c.reserve.new.self.room c.open_turn.new.trail.room (length c.args.cache.now.pending) 0 (length c.as_slice.result.now)
        (sound_after c) (reserved_for c) c.open_turn.ensures.room (ap length (c.as_slice.ensures ∙ c.pending.ensures)) c.open_turn.new.trail.room (omega arith);
  },
)

pub returns-clause-turn : goal.returns-clause-turn
returns-clause-turn c wants calls reply refused = turn c wants calls reply refused

pub returns-clause-trail : goal.returns-clause-trail
returns-clause-trail c =
    opening_trail c.args.self.now c.args.cache.now (opened c) c.open_turn.new.cache (whole_before c) (owning_before c) (opens c)
    ∙ ap (λ (who : ℕ). c.args.self.now.trail ++ as_items (entries_by who c.args.cache.now.pending)) c.requires.client

pub returns-clause-owned : goal.returns-clause-owned
returns-clause-owned c =
    owns_behind (acquiring c) c.args.self.now c.args.cache.now (after c) (this c).shows (keeps c) (whole_before c).sound.stands c.open_turn.new.cache (this c).owns
    (opening_cache c.args.self.now c.args.cache.now (opened c) c.open_turn.new.cache (whole_before c) (owning_before c) (opens c))
    (opening_few c.args.self.now c.args.cache.now (opened c) c.open_turn.new.cache (whole_before c) (owning_before c) (opens c))
    (refused_live c.args.asks c.args.self.now c.args.cache.now (after c) c.open_turn.new.cache (whole_before c) (owning_before c) (refuses c))

pub returns-clause-frames : goal.returns-clause-frames
returns-clause-frames c base frames words =
    refused_frames base c.args.asks c.args.self.now c.args.cache.now (after c) c.open_turn.new.cache (whole_before c) (owning_before c) (refuses c) frames words

pub returns-clause-words : goal.returns-clause-words
returns-clause-words c base frames words =
    refused_words base c.args.asks c.args.self.now c.args.cache.now (after c) c.open_turn.new.cache (whole_before c) (owning_before c) (refuses c) words

pub returns-clause-others : goal.returns-clause-others
returns-clause-others c other differ =
    keeps_others (acquiring c) c.args.self.now c.args.cache.now (after c) (this c).shows (keeps c) other (λ same. differ (same ∙ c.requires.client))

pub returns-clause-still : goal.returns-clause-still
returns-clause-still c = keeps_still (acquiring c) c.args.self.now c.args.cache.now (after c) (this c).shows (keeps c)

pub returns-clause-sound : goal.returns-clause-sound
returns-clause-sound c = sound_after c

pub returns-clause-client_after : goal.returns-clause-client_after
returns-clause-client_after c =
    opening_client c.args.self.now c.args.cache.now (opened c) c.open_turn.new.cache (whole_before c) (owning_before c) (opens c) ∙ c.requires.client

pub returns-clause-stays_up : goal.returns-clause-stays_up
returns-clause-stays_up c =
    ap (fallen_in (after c)) (sym (opening_client c.args.self.now c.args.cache.now (opened c) c.open_turn.new.cache (whole_before c) (owning_before c) (opens c) ∙ c.requires.client))
    ∙ refused_up c.args.asks c.args.self.now c.args.cache.now (after c) c.open_turn.new.cache (whole_before c) (owning_before c) (refuses c)

pub returns-clause-count : goal.returns-clause-count
returns-clause-count c = opening_count c.args.self.now c.args.cache.now (opened c) c.open_turn.new.cache (whole_before c) (owning_before c) (opens c)
