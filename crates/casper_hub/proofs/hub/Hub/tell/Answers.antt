use Rattle.std.proofs.Common.{◌∙◌, ℕ, List, length, sym, ap, subst}
use Rattle.std.specs.Prelude.{Option}
use Rattle.casper_trail.specs.declared.item.Item.{Item}
use Rattle.casper_assoc.specs.TrailAssociations.{AreAssociationsOf}
use Rattle.casper_model.specs.declared.reply.Served.TheVariants as served
use Rattle.casper_model.specs.Leave.{serve}
use Rattle.casper_model.specs.Shared.{Shared}
use Rattle.casper_turns.specs.Good.{IsGoodShared}
use Rattle.casper_turns.specs.Kept.{KeptByTurn}
use Rattle.casper_turns.specs.TurnLaws.{IsTurn as MachineTurn}
use Rattle.casper_hub.specs.HubView.{HubView, ClientView, fallen_in}
use Rattle.casper_hub.specs.HubFields.{hub_of}
use Rattle.casper_hub.specs.Owned.{own_of}
use Rattle.casper_hub.specs.Places.{shown_fall}
use Rattle.casper_hub.specs.Shows.{Shows}
use Rattle.casper_hub.specs.Sound.{IsSound}
use Rattle.casper_hub.specs.Turns.{IsTurn}
use Rattle.casper_hub.specs.Words.{FramesAreRight}
use Rattle.casper_hub.proofs.ForClient.{kept_reserved, nothing_reserved}
use Rattle.casper_hub.proofs.KeptUp.{room_for_all}
use Rattle.casper_hub.proofs.Told.{told, Tells, told_serve, told_formed, told_live, told_cache, told_few}
use Rattle.casper_hub.proofs.Transport.{kept_by, stands_behind, keeps_others, keeps_still, owns_behind}
use Rattle.casper_hub.proofs.Whole.{Whole, whole_at, client_owned}
use Rattle.casper_hub.proofs.hub.Hub.tell.Goals as goal
use Rattle.casper_gather.specs.UnendedLaws.{stabilisations_of}

pub returns-in_err-reserve-clause-others : goal.returns-in_err-reserve-clause-others
returns-in_err-reserve-clause-others c other differ =
    kept_reserved c.args.self.now c.self.inside.limit (stabilisations_of c.self.inside.unended.each) c.reserve.new.self.items c.self.inside.trail.items c.self.inside.clients c.self.inside.pages c.self.view_is c.reserve.ensures.items other

pub returns-in_err-reserve-clause-still : goal.returns-in_err-reserve-clause-still
returns-in_err-reserve-clause-still c =
    nothing_reserved c.args.self.now c.self.inside.limit (stabilisations_of c.self.inside.unended.each) c.reserve.new.self.items c.self.inside.trail.items c.self.inside.clients c.self.inside.pages c.self.view_is c.reserve.ensures.items

-- the hub once the client was told
abbrev after : goal.After-rise → HubView
after c = hub_of c.reserve.new.self.items c.self.inside.limit (stabilisations_of c.self.inside.unended.each) c.rise.new.self c.self.inside.pages

whole_before : (c : goal.After-rise) → Whole c.args.self.now
whole_before c = whole_at (hub_of c.self.inside.trail.items c.self.inside.limit (stabilisations_of c.self.inside.unended.each) c.self.inside.clients c.self.inside.pages) c.args.self.now c.self.view_is c.self.invariant.0

tells : (c : goal.After-rise) → Tells c.args.self.now c.args.cache.now (after c) c.clear.new.self
tells c = record {
  sound = whole_before c;
  client = client_owned c.args.self.now c.args.cache.now (whole_before c).sound c.requires.owns;
  hub_is =
      ap (λ (items : List Item). hub_of items c.self.inside.limit (stabilisations_of c.self.inside.unended.each) c.rise.new.self c.self.inside.pages) c.reserve.ensures.items
      ∙ ap (λ (places : List (Option ClientView)). hub_of c.self.inside.trail.items c.self.inside.limit (stabilisations_of c.self.inside.unended.each) places c.self.inside.pages) c.rise.ensures
      ∙ ap (λ (h : HubView). told h c.args.who) c.self.view_is ∙ ap (told c.args.self.now) (sym c.requires.client);
  own_is = c.clear.ensures.cleared;
}

turn : (c : goal.After-rise)
    → IsTurn serve (served.RolledBack c.args.fall.mark c.args.fall.dropped (length c.args.cache.now.pending)) c.args.self.now c.args.cache.now (after c) c.clear.new.self
turn c =
    told_serve c.args.self.now c.args.cache.now (after c) c.clear.new.self (tells c) (shown_fall c.args.fall)
    (ap (fallen_in c.args.self.now) c.requires.client ∙ c.requires.fallen)

keeps : (c : goal.After-rise) (shared : Shared) → Shows shared c.args.self.now → IsGoodShared shared
    → KeptByTurn shared (own_of c.args.cache.now) (serve shared (own_of c.args.cache.now)).shared (serve shared (own_of c.args.cache.now)).own
keeps c = kept_by serve c.args.self.now c.args.cache.now c.requires.owns (λ shared one live. MachineTurn.serving live)

sound_after : (c : goal.After-rise) → IsSound (after c)
sound_after c = record {
  formed = told_formed c.args.self.now c.args.cache.now (after c) c.clear.new.self (tells c);
  stands = stands_behind serve c.args.self.now c.args.cache.now (after c) (turn c).shows (keeps c) (whole_before c).sound.stands;
}

pub invariant_of-self-2 : goal.invariant_of-self-2
invariant_of-self-2 c = (
  sound_after c,
  record {
    limit = c.reserve.ensures.limit ∙ c.self.invariant.1.limit;
    associations = subst (AreAssociationsOf c.self.inside.associations) (sym c.reserve.ensures.items) c.self.invariant.1.associations;
    pages = c.self.invariant.1.pages;
    room = room_for_all c.reserve.new.self.items c.self.inside.limit c.self.inside.unended.each c.rise.new.self c.self.inside.pages c.reserve.new.self.room (sound_after c) c.in_ok-reserve.ensures.ok;
  },
)

pub returns-clause-turn : goal.returns-clause-turn
returns-clause-turn c =
    subst (λ (n : ℕ). IsTurn serve (served.RolledBack c.args.fall.mark c.args.fall.dropped n) c.args.self.now c.args.cache.now (after c) c.clear.new.self)
    (ap length (sym (c.as_slice.ensures ∙ c.pending.ensures))) (turn c)

pub returns-clause-owned : goal.returns-clause-owned
returns-clause-owned c =
    owns_behind serve c.args.self.now c.args.cache.now (after c) (turn c).shows (keeps c) (whole_before c).sound.stands c.clear.new.self (turn c).owns
    (told_cache c.args.self.now c.args.cache.now (after c) c.clear.new.self (tells c) c.requires.owns.sound)
    (told_few c.args.self.now c.args.cache.now (after c) c.clear.new.self (tells c))
    (told_live c.args.self.now c.args.cache.now (after c) c.clear.new.self (tells c) c.requires.owns.live)

pub returns-clause-frames : goal.returns-clause-frames
returns-clause-frames c base frames = subst (λ (h : HubView). FramesAreRight base h) (sym (tells c).hub_is) frames

pub returns-clause-others : goal.returns-clause-others
returns-clause-others c other differ =
    keeps_others serve c.args.self.now c.args.cache.now (after c) (turn c).shows (keeps c) other (λ same. differ (same ∙ c.requires.client))

pub returns-clause-still : goal.returns-clause-still
returns-clause-still c = keeps_still serve c.args.self.now c.args.cache.now (after c) (turn c).shows (keeps c)

pub returns-clause-sound : goal.returns-clause-sound
returns-clause-sound c = sound_after c
