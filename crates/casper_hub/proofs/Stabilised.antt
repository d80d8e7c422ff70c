use Rattle.std.proofs.Common.{◌≡◌, ◌≢◌, ◌≤◌, ℕ, List, [], ◌∷◌, ◌++◌, length, refl, sym, ap, ap₂, ◌∙◌, subst, arith}
use Rattle.std.specs.Prelude.{Option, None, Some, is_some, find}
use Rattle.casper_words.specs.Crew.{has_member}
use Rattle.casper_trail.specs.declared.item.Item.{Item}
use Rattle.casper_trail.specs.Association.{association_of}
use Rattle.casper_cache.specs.Own as cache
use Rattle.casper_model.specs.declared.outcome.Kept.{Kept}
use Rattle.casper_model.specs.declared.reply.StabReply.{StabReply}
use Rattle.casper_model.specs.Both.{Turned}
use Rattle.casper_model.specs.Client.{Client}
use Rattle.casper_model.specs.Frozen.{stabilisation_of}
use Rattle.casper_model.specs.Opening.{handed_in, opened}
use Rattle.casper_model.specs.Own.{Own}
use Rattle.casper_model.specs.Shared.{Shared, client_at, of_client}
use Rattle.casper_model.specs.Stabilisation.{Stabilisation}
use Rattle.casper_model.specs.Stabilise.{frozen_by, reply_awaiting, stabilise, stabilised, stabilised_by, stabilised_in, writers_among}
use Rattle.casper_gather.specs.Bookkeeping.{begun_by}
use Rattle.casper_turns.specs.Good.{IsGoodShared}
use Rattle.casper_turns.specs.Kept.{KeptByTurn}
use Rattle.casper_turns.specs.StageLaws.{both_of}
use Rattle.casper_turns.specs.TurnLaws.{IsTurn as MachineTurn}
use Rattle.casper_hub.specs.HubView.{HubView, ClientView, client_in, page_count, is_live as live_in}
use Rattle.casper_hub.specs.GoesOn.{KeepsClient, CommitsNothing}
use Rattle.casper_hub.specs.Owned.{Owns, own_of}
use Rattle.casper_hub.specs.Shows.{Shows, ShowsClient}
use Rattle.casper_hub.specs.Sound.{IsWellFormed}
use Rattle.casper_hub.specs.Stages.{HandsInWith, OpensTurn}
use Rattle.casper_hub.specs.Stabilising.{Asks, AsksOrFreezes, Freezes, Stabilises, awaited_in, kept_of, modified_in, stabilisation_in, with_asked}
use Rattle.casper_hub.specs.Turns.{IsTurn}
use Rattle.casper_hub.specs.Words.{FramesAreRight, CacheIsRight}
use Rattle.casper_hub.proofs.Awaited.{writers_shown}
use Rattle.casper_hub.proofs.Changing.{formed_beside}
use Rattle.casper_hub.proofs.Handing.{shows_handed, own_handed, formed_handed, few_handed, cache_handed, frames_handed, words_handed}
use Rattle.casper_hub.proofs.LostTurns.{with_stabilisations, shows_with}
use Rattle.casper_hub.proofs.Transport.{kept_by, keeps_others, keeps_still, stands_behind, owns_behind}
use Rattle.casper_hub.proofs.TurnOpened.{opening_turn, opening_whole, opening_owning, opening_pending, opening_frames, opening_words, opening_client}
use Rattle.casper_hub.proofs.Whole.{Whole, Owning, whole, fallen_shown}

-- A stabilising turn once it has opened, and the whole turn.

-- what stays of a hub and a cache whatever the turn then does
record Stays (hub : HubView) (own : cache.Own) (after : HubView) (own_after : cache.Own) : Type 0 where
  formed : IsWellFormed after
  cache : cache.IsSound own_after
  few : length own_after.held ≤ length own.held
  client : own_after.client ≡ own.client
  capacity : own_after.capacity ≡ own.capacity
  places : after.clients ≡ hub.clients
  trail : after.trail ≡ hub.trail
  count : page_count after ≡ page_count hub
  frames : (base : List (List ℕ)) → own.pending ≡ [] → FramesAreRight base hub → CacheIsRight base hub own → FramesAreRight base after
  words : (base : List (List ℕ)) → CacheIsRight base hub own → CacheIsRight base after own_after

-- the stabilisations alone change
stays_listed : (hub : HubView) (own : cache.Own) (list : List Stabilisation) (after : HubView) (own_after : cache.Own) → Whole hub → Owning hub own
    → after ≡ with_stabilisations list hub → own_after ≡ own → Stays hub own after own_after
stays_listed hub own list after own_after sound owns hub_is own_is =
    rw (hub_is, own_is) (record {
      formed = formed_beside hub list sound.sound.formed;
      cache = owns.sound;
      few = omega arith;
      client = refl;
      capacity = refl;
      places = refl;
      trail = refl;
      count = refl;
      frames = λ base none frames words. frames;
      words = λ base words. words;
    })

-- pages are handed in
stays_handed : (hub : HubView) (own : cache.Own) (list : List Stabilisation) (after : HubView) (own_after : cache.Own) → Whole hub → Owning hub own
    → HandsInWith own.client list hub own after own_after → Stays hub own after own_after
stays_handed hub own list after own_after sound owns hands = record {
  formed = formed_handed hub own list after own_after sound owns hands;
  cache = cache_handed hub own list after own_after sound owns hands;
  few = few_handed hub own list after own_after sound owns hands;
  client = ap (λ (o : cache.Own). o.client) hands.own_is;
  capacity = ap (λ (o : cache.Own). o.capacity) hands.own_is;
  places = ap (λ (h : HubView). h.clients) hands.hub_is;
  trail = ap (λ (h : HubView). h.trail) hands.hub_is;
  count = hands.gives.rights_count;
  frames = frames_handed hub own list after own_after sound owns hands;
  words = words_handed hub own list after own_after sound owns hands;
}

-- the reply, the hub and the cache are those that a turn of the machine gives
abbrev Gives : Turned StabReply → StabReply → HubView → cache.Own → Type 0
Gives turned reply after own_after = (reply ≡ turned.reply) × Shows turned.shared after × (own_of own_after ≡ turned.own)

module _ (hub : HubView) (own : cache.Own) (reply : StabReply) (after : HubView) (own_after : cache.Own) (sound : Whole hub) (owns : Owning hub own) where
  gives_asked : (one : Stabilisation) → Asks own.client one reply hub own after own_after → (shared : Shared) → Shows shared hub
      → Gives (stabilised_in (both_of shared (own_of own)) (Some one)) reply after own_after
  gives_asked one asks shared shows = (
    asks.replies,
    subst (Shows (record shared { stabilisations = with_asked own.client one shared.stabilisations })) (sym asks.hub_is)
        (subst (λ list. Shows (record shared { stabilisations = with_asked own.client one shared.stabilisations }) (with_stabilisations (with_asked own.client one list) hub))
        shows.stabilisations (shows_with shared hub (with_asked own.client one shared.stabilisations) shows)),
    ap own_of asks.own_is,
  )

  gives_frozen : Freezes own.client reply hub own after own_after → (shared : Shared) → Shows shared hub
      → Gives (frozen_by (both_of shared (own_of own))) reply after own_after
  gives_frozen freezes shared shows = (
    freezes.replies ∙ sym (ap₂ reply_awaiting awaited_is (ap (λ (items : List Item). modified_in items own.client) shows.trail)),
    shows_handed hub own list after own_after sound owns freezes.hands shared (shared.stabilisations ++ begun_by own.client awaited ∷ []) shows
        (ap₂ (λ (all : List Stabilisation) (members : List ℕ). all ++ begun_by own.client members ∷ []) shows.stabilisations awaited_is),
    own_handed hub own list after own_after sound owns freezes.hands,
  )
    where
      list : List Stabilisation
      list = hub.stabilisations ++ begun_by own.client (awaited_in hub.trail after.pages own.client) ∷ []

      handed : Shared
      handed = record ((handed_in (both_of shared (own_of own))).shared) { stabilisations = list }

      handed_shows : Shows handed after
      handed_shows = shows_handed hub own list after own_after sound owns freezes.hands shared list shows refl

      awaited : List ℕ
      awaited = writers_among handed (association_of shared.trail own.client)

      awaited_is : awaited ≡ awaited_in hub.trail after.pages own.client
      awaited_is =
          writers_shown handed after (association_of shared.trail own.client) handed_shows
          ∙ ap (λ (items : List Item). awaited_in items after.pages own.client) shows.trail

  gives_either : (one : Option Stabilisation) → AsksOrFreezes own.client one reply hub own after own_after → (shared : Shared) → Shows shared hub
      → Gives (stabilised_in (both_of shared (own_of own)) one) reply after own_after
  gives_either None freezes shared shows = gives_frozen freezes shared shows
  gives_either (Some one) asks shared shows = gives_asked one asks shared shows

  -- the stabilisation that the machine finds is the one that its hub shows
  found_shown : (shared : Shared) → Shows shared hub → stabilisation_of shared own.client ≡ stabilisation_in hub own.client
  found_shown shared shows =
      ap₂ (λ (trail : List Item) (all : List Stabilisation). find (λ (one : Stabilisation). has_member own.client (association_of trail one.lead)) all) shows.trail shows.stabilisations

  gives : (kept : Option Kept) → Stabilises own.client kept reply hub own after own_after → (shared : Shared) → Shows shared hub
      → Gives (stabilised (both_of shared (own_of own)) kept) reply after own_after
  gives None does shared shows =
      gives_either (stabilisation_of shared own.client)
      (subst (λ one. AsksOrFreezes own.client one reply hub own after own_after) (sym (found_shown shared shows)) does) shared shows
  gives (Some outcome) does shared shows = (does.0, subst (Shows shared) (sym does.1) shows, ap own_of does.2)

  stays_either : (one : Option Stabilisation) → AsksOrFreezes own.client one reply hub own after own_after → Stays hub own after own_after
  stays_either None freezes =
      stays_handed hub own (hub.stabilisations ++ begun_by own.client (awaited_in hub.trail after.pages own.client) ∷ []) after own_after sound owns freezes.hands
  stays_either (Some one) asks = stays_listed hub own (with_asked own.client one hub.stabilisations) after own_after sound owns asks.hub_is asks.own_is

  stays : (kept : Option Kept) → Stabilises own.client kept reply hub own after own_after → Stays hub own after own_after
  stays None does = stays_either (stabilisation_in hub own.client) does
  stays (Some outcome) does = stays_listed hub own hub.stabilisations after own_after sound owns does.1 does.2

-- the outcome that the machine keeps for a client is the one that its hub shows
kept_alike : (trail : List Item) (place : Option Client) (shown : Option ClientView) → ShowsClient trail place shown → of_client None (λ client. client.kept) place ≡ kept_of shown
kept_alike trail None None shows = refl
kept_alike trail None (Some shown) shows = absurd shows
kept_alike trail (Some client) None shows = absurd shows
kept_alike trail (Some client) (Some shown) shows = shows.kept

-- the whole turn of a client that had not fallen
module _ (hub : HubView) (own : cache.Own) (begun : HubView) (begun_own : cache.Own) (kept : Option Kept) (reply : StabReply) (after : HubView) (own_after : cache.Own)
    (sound : Whole hub) (owns : Owning hub own) (opens : OpensTurn own.client hub own begun begun_own) (kept_is : kept ≡ kept_of (client_in hub own.client))
    (does : Stabilises begun_own.client kept reply begun begun_own after own_after) where
  sound_begun : Whole begun
  sound_begun = opening_whole hub own begun begun_own sound owns opens

  owns_begun : Owning begun begun_own
  owns_begun = opening_owning hub own begun begun_own sound owns opens

  remains : Stays begun begun_own after own_after
  remains = stays begun begun_own reply after own_after sound_begun owns_begun kept does

  given : (shared : Shared) → Shows shared hub → Gives (stabilise shared (own_of own)) reply after own_after
  given shared shows =
      let opening = opening_turn hub own begun begun_own sound owns opens in
      subst (λ fallen. Gives (stabilised_by shared (own_of own) fallen) reply after own_after) (sym (fallen_shown shared hub own shows owns))
      (subst (λ outcome. Gives (stabilised (opened shared (own_of own)) outcome) reply after own_after)
      (kept_is ∙ sym (kept_alike hub.trail (client_at shared own.client) (client_in hub own.client) (shows.clients own.client)))
      (subst (λ (one : Own). Gives (stabilised (both_of (opened shared (own_of own)).shared one) kept) reply after own_after) (opening.owns shared shows)
      (gives begun begun_own reply after own_after sound_begun owns_begun kept does (opened shared (own_of own)).shared (opening.shows shared shows))))

  pub stabilise_turn : IsTurn stabilise reply hub own after own_after
  stabilise_turn = record {
    replies = λ shared shows. (given shared shows).0;
    shows = λ shared shows. (given shared shows).1;
    owns = λ shared shows. (given shared shows).2;
  }

  keeps : (shared : Shared) → Shows shared hub → IsGoodShared shared → KeptByTurn shared (own_of own) (stabilise shared (own_of own)).shared (stabilise shared (own_of own)).own
  keeps = kept_by stabilise hub own owns.owned (λ shared one live. MachineTurn.stabilising live)

  pub stabilised_whole : Whole after
  stabilised_whole = whole after (record { formed = remains.formed; stands = stands_behind stabilise hub own after stabilise_turn.shows keeps sound.sound.stands })

  pub stabilised_owned : Owns after own_after
  stabilised_owned =
      owns_behind stabilise hub own after stabilise_turn.shows keeps sound.sound.stands own_after stabilise_turn.owns remains.cache
      (let less = remains.few in let few = owns_begun.few in let same = remains.capacity in omega (arith, less, few, same))
      (ap (live_in after) remains.client ∙ ap (λ places. is_some (client_in (record after { clients = places }) begun_own.client)) remains.places ∙ owns_begun.live)

  pub stabilised_others : (other : ℕ) → other ≢ own.client → KeepsClient other hub after
  stabilised_others = keeps_others stabilise hub own after stabilise_turn.shows keeps

  pub stabilised_still : CommitsNothing hub after
  stabilised_still = keeps_still stabilise hub own after stabilise_turn.shows keeps

  pub stabilised_client : own_after.client ≡ own.client
  stabilised_client = remains.client ∙ opening_client hub own begun begun_own sound owns opens

  -- the frames of the server and of the cache stay right
  pub stabilised_frames : (base : List (List ℕ)) → FramesAreRight base hub → CacheIsRight base hub own → FramesAreRight base after
  stabilised_frames base frames words =
      remains.frames base (opening_pending hub own begun begun_own sound owns opens) (opening_frames hub own begun begun_own sound owns opens base frames words)
      (opening_words hub own begun begun_own sound owns opens base words)

  pub stabilised_words : (base : List (List ℕ)) → CacheIsRight base hub own → CacheIsRight base after own_after
  stabilised_words base words = remains.words base (opening_words hub own begun begun_own sound owns opens base words)
