use Rattle.std.proofs.Common.{◌≡◌, ◌≤◌, ℕ, List, [], ◌++◌, true, length, length-set, refl, sym, ap, ap₂, ◌∙◌, subst, arith}
use Rattle.std.specs.Prelude.{Option, None, Some, is_some, find, cond, ◌&&◌}
use Rattle.std.specs.Option.{option_or}
use Rattle.casper_words.specs.Crew.{has_member}
use Rattle.casper_words.specs.declared.page.Want.{Want}
use Rattle.casper_trail.specs.Association.{association_of}
use Rattle.casper_trail.specs.Calls.{entries_by}
use Rattle.casper_trail.specs.Parts.{as_items}
use Rattle.casper_trail.specs.declared.item.Item.{Item}
use Rattle.casper_cache.specs.Holding.{right_of}
use Rattle.casper_cache.specs.Own as cache
use Rattle.casper_dir.specs.Rights.{right_at}
use Rattle.casper_hub.specs.Given.{Covers, topped}
use Rattle.casper_model.specs.declared.reply.Served.{Served}
use Rattle.casper_model.specs.declared.reply.Served.TheVariants as served
use Rattle.casper_model.specs.Acquire.{none_missing}
use Rattle.casper_model.specs.declared.reply.Reply.{Reply}
use Rattle.casper_model.specs.Client.{Client}
use Rattle.casper_cache.specs.declared.held.Held.{Held}
use Rattle.casper_frozen.specs.Refused.{refused_at_once}
use Rattle.casper_model.specs.Both.{Both, Turned, turned}
use Rattle.casper_model.specs.Leave.{serve, served_by}
use Rattle.casper_model.specs.Opening.{begun, given_up, gathering_of, opened}
use Rattle.casper_model.specs.Own.{Own}
use Rattle.casper_model.specs.Shared.{Shared, client_at, is_live, fallen_at}
use Rattle.casper_model.specs.Stabilisation.{Stabilisation, is_gathering}
use Rattle.casper_turns.specs.Good.{IsGoodShared, IsGoodWith}
use Rattle.casper_turns.specs.Kept.{KeptByTurn}
use Rattle.casper_turns.specs.TurnLaws.{IsTurn as MachineTurn}
use Rattle.casper_hub.specs.HubView.{HubView, client_in, fallen_in, free_in, page_count, is_live as live_in}
use Rattle.casper_hub.specs.Owned.{Owns, own_of, wants_of}
use Rattle.casper_hub.specs.Shows.{Shows}
use Rattle.casper_hub.specs.Sound.{StandsFor}
use Rattle.casper_hub.specs.Stages.{Opens, OpensTurn, HandsIn, gathering_in, part_of}
use Rattle.casper_hub.specs.Turns.{IsTurn}
use Rattle.casper_hub.specs.Words.{FramesAreRight, CacheIsRight}
use Rattle.casper_hub.proofs.FrozenOpened.{gathering_begun, in_doubt_opened, frozen_opened}
use Rattle.casper_hub.proofs.Handing.{handing, gathering_shown, hand_turn, handed_formed, handed_cache, handed_few, handed_frames, handed_words, handed_client, handed_capacity, handed_pending, handed_places, handed_trail, handed_count}
use Rattle.casper_hub.proofs.Opened.{Begins, begins_owned, covers_owned, opened_sound, opened_live_own, opened_cache, opened_few, opened_frames, opened_words, opened_up}
use Rattle.casper_hub.proofs.ServedTurns.{meeting, met_turn, met_shows, kept_meeting}
use Rattle.casper_hub.proofs.OpenedTurns.{kept_held, own_met, client_met}
use Rattle.casper_hub.proofs.Showing.{liveness_shown}
use Rattle.casper_hub.proofs.Standing.{opened_apart}
use Rattle.casper_hub.proofs.StandsFor.{stands_for, good_with}
use Rattle.casper_hub.proofs.Transport.{kept_by, stands_behind, owns_behind}
use Rattle.casper_hub.proofs.Whole.{Whole, Owning, whole, owning, fallen_shown}

-- What holds where a turn has opened, of a client that had not fallen.

-- the machine's opening, as a turn
abbrev pub opening : Shared → Own → Turned Served
opening shared own = turned served.Ok (opened shared own)

-- it keeps what a turn keeps
pub kept_opening : (hub : HubView) (own : cache.Own) → Owning hub own → (shared : Shared) → Shows shared hub → IsGoodShared shared
    → KeptByTurn shared (own_of own) (opening shared (own_of own)).shared (opening shared (own_of own)).own
kept_opening hub own owns shared shows good =
    subst (λ fallen. KeptByTurn shared (own_of own) (served_by shared (own_of own) fallen).shared (served_by shared (own_of own) fallen).own)
    (fallen_shown shared hub own shows owns) (kept_by serve hub own owns.owned (λ one mine live. MachineTurn.serving live) shared shows good)

module _ (hub : HubView) (own : cache.Own) (after : HubView) (own_after : cache.Own) (sound : Whole hub) (owns : Owning hub own)
    (opens : OpensTurn own.client hub own after own_after) where
  begins : Begins own.client hub own
  begins = begins_owned hub own sound owns

  met : IsTurn meeting served.Ok hub own opens.met opens.met_own
  met = met_turn hub own opens.met opens.met_own sound owns opens.opens

  -- between the two stages
  met_sound : Whole opens.met
  met_sound = opened_sound hub own own.held opens.met opens.met_own begins owns opens.opens

  met_owned : Owns opens.met opens.met_own
  met_owned =
      owns_behind meeting hub own opens.met met.shows (kept_meeting hub own owns) sound.sound.stands opens.met_own met.owns
      (opened_cache hub own opens.met opens.met_own owns opens.opens) (opened_few hub own opens.met opens.met_own owns opens.opens)
      (opened_live_own hub own opens.met opens.met_own begins opens.opens)

  met_owning : Owning opens.met opens.met_own
  met_owning = owning opens.met opens.met_own met_sound.sound met_owned (opened_up own.client hub own opens.met opens.met_own begins opens.opens)

  met_client : opens.met_own.client ≡ own.client
  met_client = ap (λ (o : cache.Own). o.client) opens.opens.own_is

  none_pending : opens.met_own.pending ≡ []
  none_pending = ap (λ (o : cache.Own). o.pending) opens.opens.own_is

  abbrev found : Option Stabilisation
  found = gathering_in opens.met opens.met_own.client

  hands : HandsIn opens.met_own.client (gathering_in opens.met opens.met_own.client) opens.met opens.met_own after own_after
  hands = subst (λ (who : ℕ). HandsIn who (gathering_in opens.met who) opens.met opens.met_own after own_after) (sym met_client) opens.hands

  handed : IsTurn handing served.Ok opens.met opens.met_own after own_after
  handed = hand_turn opens.met opens.met_own after own_after met_sound met_owning hands

  -- the hub after it stands for the machine's opening, and so does the cache
  pub opening_turn : IsTurn opening served.Ok hub own after own_after
  opening_turn = record {
    replies = λ shared shows. refl;
    shows = λ shared shows.
        subst (λ (one : Own). Shows (handing (meeting shared (own_of own)).shared one).shared after) (met.owns shared shows)
        (handed.shows (meeting shared (own_of own)).shared (met.shows shared shows));
    owns = λ shared shows.
        handed.owns (meeting shared (own_of own)).shared (met.shows shared shows)
        ∙ ap (λ (one : Own). (handing (meeting shared (own_of own)).shared one).own) (met.owns shared shows);
  }

  pub opening_whole : Whole after
  opening_whole =
      whole after
      (record {
        formed = handed_formed opens.met opens.met_own after own_after met_sound met_owning found hands;
        stands = stands_behind opening hub own after opening_turn.shows (kept_opening hub own owns) sound.sound.stands;
      })

  -- what stays of the cache and of the places
  pub opening_client : own_after.client ≡ own.client
  opening_client = handed_client opens.met opens.met_own after own_after met_sound met_owning found hands ∙ met_client

  pub opening_pending : own_after.pending ≡ []
  opening_pending = handed_pending opens.met opens.met_own after own_after met_sound met_owning found hands ∙ none_pending

  places_same : after.clients ≡ opens.met.clients
  places_same = handed_places opens.met opens.met_own after own_after met_sound met_owning found hands

  pub opening_places : length after.clients ≡ length hub.clients
  opening_places = ap length places_same ∙ ap (λ (h : HubView). length h.clients) opens.opens.hub_is ∙ length-set hub.clients own.client _

  pub opening_trail : after.trail ≡ hub.trail ++ as_items (entries_by own.client own.pending)
  opening_trail =
      handed_trail opens.met opens.met_own after own_after met_sound met_owning found hands ∙ ap (λ (h : HubView). h.trail) opens.opens.hub_is

  pub opening_count : page_count after ≡ page_count hub
  opening_count = handed_count opens.met opens.met_own after own_after met_sound met_owning found hands ∙ opens.opens.gives.rights_count

  pub opening_live : live_in after own_after.client ≡ true
  opening_live =
      ap (live_in after) (handed_client opens.met opens.met_own after own_after met_sound met_owning found hands)
      ∙ ap (λ places. is_some (client_in (record after { clients = places }) opens.met_own.client)) places_same ∙ met_owning.live

  pub opening_up : fallen_in after own_after.client ≡ None
  opening_up =
      ap (fallen_in after) (handed_client opens.met opens.met_own after own_after met_sound met_owning found hands)
      ∙ ap (λ places. fallen_in (record after { clients = places }) opens.met_own.client) places_same ∙ met_owning.up

  pub opening_cache : cache.IsSound own_after
  opening_cache = handed_cache opens.met opens.met_own after own_after met_sound met_owning found hands

  pub opening_few : length own_after.held ≤ own_after.capacity
  opening_few =
      let less = handed_few opens.met opens.met_own after own_after met_sound met_owning found hands in
      let few = met_owning.few in
      let same = handed_capacity opens.met opens.met_own after own_after met_sound met_owning found hands in
      omega (arith, less, few, same)

  pub opening_owned : Owns after own_after
  opening_owned =
      owns_behind opening hub own after opening_turn.shows (kept_opening hub own owns) sound.sound.stands own_after opening_turn.owns
      opening_cache opening_few opening_live

  pub opening_owning : Owning after own_after
  opening_owning = owning after own_after opening_whole.sound opening_owned opening_up

  -- the frames of the server and of the cache stay right
  pub opening_frames : (base : List (List ℕ)) → FramesAreRight base hub → CacheIsRight base hub own → FramesAreRight base after
  opening_frames base frames words =
      handed_frames opens.met opens.met_own after own_after met_sound met_owning found hands base none_pending
      (opened_frames base own.client hub own opens.met opens.met_own begins opens.opens frames words)
      (opened_words base own.client hub own opens.met opens.met_own begins opens.opens words)

  pub opening_words : (base : List (List ℕ)) → CacheIsRight base hub own → CacheIsRight base after own_after
  opening_words base words =
      handed_words opens.met opens.met_own after own_after met_sound met_owning found hands base
      (opened_words base own.client hub own opens.met opens.met_own begins opens.opens words)

-- the cache then covers what its client has
pub rights_turn_for : (who : ℕ) (hub : HubView) (own : cache.Own) (after : HubView) (own_after : cache.Own) → own.client ≡ who → Whole hub → Owns hub own → fallen_in hub own.client ≡ None
    → OpensTurn own.client hub own after own_after → Covers who after.pages own_after.held × ((page : ℕ) → right_at after.pages.rights who page ≡ right_of page own_after.held)
rights_turn_for who hub own after own_after is sound owned up opens = (
  subst (λ (w : ℕ). Covers w after.pages own_after.held) same
      (covers_owned after own_after (opening_whole hub own after own_after sound owns opens) (opening_owning hub own after own_after sound owns opens)),
  λ page. ap (λ (w : ℕ). right_at after.pages.rights w page) (sym same) ∙ (opening_owning hub own after own_after sound owns opens).rights page,
)
  where
    owns : Owning hub own
    owns = owning hub own sound.sound owned up

    same : own_after.client ≡ who
    same = opening_client hub own after own_after sound owns opens ∙ is

-- a turn that does no more is the machine's
pub serve_turn : (hub : HubView) (own : cache.Own) (after : HubView) (own_after : cache.Own) → Whole hub → Owning hub own → OpensTurn own.client hub own after own_after
    → IsTurn serve served.Ok hub own after own_after
serve_turn hub own after own_after sound owns opens = record {
  replies = λ shared shows. sym (ap (λ fallen. (served_by shared (own_of own) fallen).reply) (fallen_shown shared hub own shows owns));
  shows = λ shared shows.
      subst (λ fallen. Shows (served_by shared (own_of own) fallen).shared after) (sym (fallen_shown shared hub own shows owns))
      ((opening_turn hub own after own_after sound owns opens).shows shared shows);
  owns = λ shared shows.
      (opening_turn hub own after own_after sound owns opens).owns shared shows
      ∙ sym (ap (λ fallen. (served_by shared (own_of own) fallen).own) (fallen_shown shared hub own shows owns));
}

-- Where the client's association is not gathering.

-- the stabilisation that is found once the calls are recorded is the one that was found before
pub gathering_met : (hub : HubView) (own : cache.Own) → Whole hub → Owning hub own
    → gathering_of (part_of (record hub { trail = hub.trail ++ as_items (entries_by own.client own.pending) })) own.client ≡ gathering_in hub own.client
gathering_met hub own sound owns =
    ap₂ (λ trail stabilisations. among (trail ++ as_items (entries_by own.client own.pending)) stabilisations) (sym shows.trail) (sym shows.stabilisations)
    ∙ gathering_begun shared (own_of own) good.good mine (liveness_shown shared hub shows own.client ∙ owns.live) (fallen_shown shared hub own shows owns)
    ∙ gathering_shown shared hub own.client shows
  where
    among : List Item → List Stabilisation → Option Stabilisation
    among trail stabilisations = find (λ (one : Stabilisation). is_gathering one.phase && has_member own.client (association_of trail one.lead)) stabilisations

    good : StandsFor hub
    good = stands_for hub sound.sound.stands

    shared : Shared
    shared = good.shared

    shows : Shows shared hub
    shows = good.shows

    mine : IsGoodWith shared (own_of own)
    mine = good_with hub (own_of own) owns.owned.good shared shows good.good

-- so an opening ends as the asks are met
pub opens_apart : (hub : HubView) (own one : cache.Own) (after : HubView) (own_after : cache.Own) → Whole hub → Owning hub own → one.pending ≡ own.pending
    → gathering_in hub own.client ≡ None → OpensTurn own.client hub one after own_after → Opens own.client hub one after own_after
opens_apart hub own one after own_after sound owns same apart opens =
    by (gathering_in opens.met own.client) none opens.hands
  where
    none : gathering_in opens.met own.client ≡ None
    none =
        ap (λ (h : HubView). gathering_in h own.client) opens.opens.hub_is
        ∙ ap (λ calls. gathering_of (part_of (record hub { trail = hub.trail ++ as_items (entries_by own.client calls) })) own.client) same
        ∙ gathering_met hub own sound owns ∙ apart

    by : (gathering : Option Stabilisation) → gathering ≡ None → HandsIn own.client gathering opens.met opens.met_own after own_after → Opens own.client hub one after own_after
    by (Some gathering) none hands = cc
    by None none hands =
        subst (λ (h : HubView). Opens own.client hub one h own_after) (sym hands.0)
        (subst (λ (o : cache.Own). Opens own.client hub one opens.met o) (sym hands.1) opens.opens)

-- and so does the machine's
pub opened_met : (shared : Shared) (hub : HubView) (own : cache.Own) → Shows shared hub → Whole hub → Owning hub own → gathering_in hub own.client ≡ None
    → opened shared (own_of own) ≡ given_up (begun shared (own_of own))
opened_met shared hub own shows sound owns apart =
    opened_apart shared (own_of own)
    (ap₂ (λ trail stabilisations. among (trail ++ as_items (entries_by own.client own.pending)) stabilisations) shows.trail shows.stabilisations
    ∙ gathering_met hub own sound owns ∙ apart)
  where
    among : List Item → List Stabilisation → Option Stabilisation
    among trail stabilisations = find (λ (one : Stabilisation). is_gathering one.phase && has_member own.client (association_of trail one.lead)) stabilisations

-- so what holds as the asks are met holds of the machine's opening
module _ (shared : Shared) (hub : HubView) (own : cache.Own) (shows : Shows shared hub) (sound : Whole hub) (owns : Owning hub own) (apart : gathering_in hub own.client ≡ None) where
  pub own_opened : (opened shared (own_of own)).own ≡ record (own_of own) { cap = topped own (free_in hub); held = wants_of (kept_held hub own); pending = [] }
  own_opened = ap (λ (both : Both). both.own) (opened_met shared hub own shows sound owns apart) ∙ own_met shared hub own shows sound owns

  pub client_opened : (client : Client) → client_at shared own.client ≡ Some client
      → client_at (opened shared (own_of own)).shared own.client
      ≡ Some (record client { cap = (opened shared (own_of own)).own.cap; rights = (opened shared (own_of own)).own.held; kept = None })
  client_opened client live =
      subst (λ (both : Both). client_at both.shared own.client ≡ Some (record client { cap = both.own.cap; rights = both.own.held; kept = None }))
      (sym (opened_met shared hub own shows sound owns apart)) (client_met shared (own_of own) client live)

  pub opened_shows : (held : List Held) (after : HubView) (own_after : cache.Own) → Opens own.client hub (record own { held = held }) after own_after
      → Shows (opened shared (own_of own)).shared after
  opened_shows held after own_after opens =
      subst (λ (both : Both). Shows both.shared after) (sym (opened_met shared hub own shows sound owns apart))
      (met_shows shared hub own held after own_after shows sound owns opens)

-- what the machine refuses at once is what its hub shows
pub at_once_shown : (shared : Shared) (hub : HubView) (who : ℕ) (missing : List Want) → Shows shared hub → refused_at_once shared who missing ≡ refused_at_once (part_of hub) who missing
at_once_shown shared hub who missing shows =
    ap₂ (λ (trail : List Item) (stabilisations : List Stabilisation). refused_at_once (record (part_of hub) { trail = trail; stabilisations = stabilisations }) who missing)
    shows.trail shows.stabilisations

-- what is refused at once after an opening is what was before it
pub at_once_opened : (shared : Shared) (hub : HubView) (own : cache.Own) (missing : List Want) → Shows shared hub → Whole hub → Owning hub own → gathering_in hub own.client ≡ None
    → refused_at_once (opened shared (own_of own)).shared own.client missing ≡ refused_at_once (part_of hub) own.client missing
at_once_opened shared hub own missing shows sound owns apart =
    ap (λ (both : Both). refused_at_once both.shared own.client missing) (opened_met shared hub own shows sound owns apart)
    ∙ ap₂ refused (ap longer (shows.trail ∙ sym good.shows.trail)) (shows.stabilisations ∙ sym good.shows.stabilisations)
    ∙ sym (ap (λ (both : Both). refused_at_once both.shared own.client missing) (opened_met good.shared hub own good.shows sound owns apart))
    ∙ ap₂ (λ a b. cond (none_missing missing) None (option_or a b))
    (in_doubt_opened good.shared (own_of own) good.good mine live up missing) (frozen_opened good.shared (own_of own) good.good mine live up missing)
    ∙ ap₂ refused good.shows.trail good.shows.stabilisations
  where
    longer : List Item → List Item
    longer trail = trail ++ as_items (entries_by own.client own.pending)

    refused : List Item → List Stabilisation → Option Reply
    refused trail stabilisations = refused_at_once (record (part_of hub) { trail = trail; stabilisations = stabilisations }) own.client missing

    good : StandsFor hub
    good = stands_for hub sound.sound.stands

    mine : IsGoodWith good.shared (own_of own)
    mine = good_with hub (own_of own) owns.owned.good good.shared good.shows good.good

    live : is_live good.shared own.client ≡ true
    live = liveness_shown good.shared hub good.shows own.client ∙ owns.live

    up : fallen_at good.shared own.client ≡ None
    up = fallen_shown good.shared hub own good.shows owns
