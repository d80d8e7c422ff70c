use Rattle.std.proofs.Common.{◌≡◌, ◌≤◌, ◌<◌, ◌^◌, ℕ, List, [], map, true, ◌&&◌, length, append-nil, refl, sym, ap, ap₂, ◌∙◌, subst, ⊎_elim, arith}
use Rattle.std.specs.Prelude.{Option, None, Some, is_some, option_map, find, Contains, ◌+◌}
use Rattle.std.proofs.lemmas.Bool.{cases_eq}
use Rattle.casper_words.specs.Crew.{has_member}
use Rattle.casper_words.specs.declared.page.Right.{Right}
use Rattle.casper_words.specs.declared.page.Right.TheVariants as may
use Rattle.casper_trail.specs.Association.{association_of}
use Rattle.casper_trail.specs.Modified.{is_modified}
use Rattle.casper_dir.specs.Rights.{right_at}
use Rattle.casper_cache.specs.declared.held.Held.{Held}
use Rattle.casper_cache.specs.Holding.{right_of, ArePagesDistinct}
use Rattle.casper_cache.specs.Own as cache
use Rattle.casper_model.specs.declared.reply.Served.{Served}
use Rattle.casper_model.specs.declared.reply.Served.TheVariants as served
use Rattle.casper_model.specs.Both.{Turned, turned}
use Rattle.casper_model.specs.Client.{Client}
use Rattle.casper_model.specs.Held.{allows, lowered}
use Rattle.casper_model.specs.Opening.{gathering_of, handed_in, handed_in_to}
use Rattle.casper_model.specs.Own.{Own}
use Rattle.casper_model.specs.Shared.{Shared, client_at, rights_at, of_client}
use Rattle.casper_model.specs.Stabilisation.{Stabilisation, is_gathering}
use Rattle.casper_model.proofs.OpeningRights.{others_agreed, places_agreed}
use Rattle.casper_model.proofs.Places.{client_changed}
use Rattle.casper_turns.specs.StageLaws.{both_of}
use Rattle.casper_gather.specs.declared.stab.Stab.{Stab}
use Rattle.casper_gather.specs.Bookkeeping.{stabilisation_of}
use Rattle.casper_hub.specs.HubView.{HubView, client_in, cap_of, asks_in, page_count}
use Rattle.casper_hub.specs.Shows.{permits, fallen_of, Shows, ShowsClient}
use Rattle.casper_hub.specs.Owned.{wants_of, own_of}
use Rattle.casper_hub.specs.Given.{lowered_right, kept_as}
use Rattle.casper_hub.specs.Stages.{HandsIn, HandsInWith, gathering_in, with_handed_in}
use Rattle.casper_hub.specs.Sound.{IsWellFormed}
use Rattle.casper_hub.specs.Turns.{IsTurn}
use Rattle.casper_hub.specs.Words.{live_value, stored_value, seen_value, HeldIsRight, FramesAreRight, CacheIsRight}
use Rattle.casper_hub.proofs.Changing.{same_rights}
use Rattle.casper_hub.proofs.FrozenOpened.{reads_alone}
use Rattle.casper_hub.proofs.Giving.{held_right_kept}
use Rattle.casper_hub.proofs.HandedIn.{wants_lowered}
use Rattle.casper_hub.proofs.Left.{distinct-kept}
use Rattle.casper_hub.proofs.Opened.{rights_left, length_kept, seen_without_calls}
use Rattle.casper_hub.proofs.Relying.{same_held}
use Rattle.casper_hub.proofs.ShownAfter.{shows_after}
use Rattle.casper_hub.proofs.Showing.{allows_right}
use Rattle.casper_hub.proofs.Standing.{Live, live_shown}
use Rattle.casper_hub.proofs.Whole.{Whole, Owning}

-- The last part of an opening: where the association of the client is gathering, it hands in.

abbrev pub handing : Shared → Own → Turned Served
handing shared own = turned served.Ok (handed_in_to (both_of shared own) (gathering_of shared own.who))

-- the stabilisation that the machine finds is the one that its hub shows
pub gathering_shown : (shared : Shared) (hub : HubView) (who : ℕ) → Shows shared hub → gathering_of shared who ≡ gathering_in hub who
gathering_shown shared hub who shows =
    ap₂ (λ trail stabilisations. find (λ (one : Stabilisation). is_gathering one.phase && has_member who (association_of trail one.lead)) stabilisations)
    shows.trail shows.stabilisations

-- what is found here is found where the machine's stabilisations are
pub some_shown : (found : Option Stab) (one : Option Stabilisation) → option_map stabilisation_of found ≡ one → is_some found ≡ is_some one
some_shown None one is = ap is_some is
some_shown (Some stab) one is = ap is_some is

-- a right that was lowered is not to write
not_to_write : (right : Option Right) → lowered_right right ≡ Some may.Write → ⊥
not_to_write None e = cc
not_to_write (Some right) e = cc

-- what holds where pages were handed in, whatever the stabilisations are then
module _ (hub : HubView) (own : cache.Own) (list : List Stabilisation) (after : HubView) (own_after : cache.Own)
    (sound : Whole hub) (owns : Owning hub own) (hands : HandsInWith own.client list hub own after own_after) where
  pub distinct_handed : ArePagesDistinct own_after.held
  distinct_handed =
      subst (λ (held : List Held). ArePagesDistinct held) (sym hands.gives.held_is)
      (distinct-kept (right_at hub.pages.rights own.client) (right_at after.pages.rights own.client) own.held owns.sound.distinct)

  pub rights_handed : (page : ℕ) → right_at after.pages.rights own.client page ≡ right_of page own_after.held
  rights_handed page =
      rights_left (right_at hub.pages.rights own.client) (right_at after.pages.rights own.client) own.held owns.rights hands.gives.falls page
      ∙ sym (ap (right_of page) hands.gives.held_is)

  held_handed : wants_of own_after.held ≡ map lowered (wants_of own.held)
  held_handed = ap (λ (o : cache.Own). wants_of o.held) hands.own_is ∙ wants_lowered own.held

  -- the hub stands for a shared part where the client handed in, with these stabilisations
  pub shows_handed : (shared : Shared) (now : List Stabilisation) → Shows shared hub → now ≡ list
      → Shows (record ((handed_in (both_of shared (own_of own))).shared) { stabilisations = now }) after
  shows_handed shared now shows same =
      shows_after own.client shared next hub after shows sound
      (record {
        trail = shows.trail ∙ sym (ap (λ (h : HubView). h.trail) hands.hub_is);
        more = [];
        grows = ap (λ (h : HubView). h.trail) hands.hub_is ∙ sym (append-nil hub.trail);
        limit = refl;
        limit_too = ap (λ (h : HubView). h.limit) hands.hub_is;
        pages = refl;
        pages_too = hands.gives.rights_count;
        stabilisations = same ∙ sym (ap (λ (h : HubView). h.stabilisations) hands.hub_is);
        places = places_agreed shared reading;
        clients = λ other apart. others_agreed shared reading other apart;
        clients_too = λ other apart. ap (λ (h : HubView). client_in h other) hands.hub_is;
        holders = hands.gives.holders;
        rights = λ other page is apart. hands.gives.others other page is apart;
      })
      acting acting_rights
    where
      reading : Own
      reading = (handed_in (both_of shared (own_of own))).own

      next : Shared
      next = record ((handed_in (both_of shared (own_of own))).shared) { stabilisations = now }

      live : Live shared hub own.client
      live = live_shown shared hub own.client shows sound owns.live owns.up

      there : client_at next own.client ≡ Some (reads_alone (own_of own) live.client)
      there = client_changed own.client (reads_alone (own_of own)) shared ∙ ap (option_map (reads_alone (own_of own))) live.at

      here : client_in after own.client ≡ Some live.shown
      here = ap (λ (h : HubView). client_in h own.client) hands.hub_is ∙ live.is

      acting : ShowsClient after.trail (client_at next own.client) (client_in after own.client)
      acting =
          subst (λ place. ShowsClient after.trail place (client_in after own.client)) (sym there)
          (subst (λ shown. ShowsClient after.trail (Some (reads_alone (own_of own) live.client)) shown) (sym here)
          (record {
            cap = sym (sym (ap cap_of live.is) ∙ owns.cap);
            asks = live.shows.asks;
            kept = live.shows.kept;
            fallen = live.shows.fallen ∙ ap (option_map (fallen_of hub.trail)) live.up ∙ sym (ap (option_map (fallen_of after.trail)) live.up);
          }))

      acting_rights : (page : ℕ) (right : Right) → allows (rights_at next own.client) page right ≡ permits (right_at after.pages.rights own.client page) right
      acting_rights page right =
          ap (λ place. allows (of_client [] (λ (client : Client). client.rights) place) page right) there
          ∙ ap (λ held. allows held page right) (sym held_handed)
          ∙ allows_right own_after.held distinct_handed page right
          ∙ ap (λ one. permits one right) (sym (rights_handed page))

  pub own_handed : own_of own_after ≡ record (own_of own) { held = map lowered (wants_of own.held) }
  own_handed = ap own_of hands.own_is ∙ ap (λ held. record (own_of own) { held = held }) (wants_lowered own.held)

  pub formed_handed : IsWellFormed after
  formed_handed = record {
    places = ap (λ (h : HubView). length h.clients) hands.hub_is ∙ sound.places;
    holders = hands.gives.holders;
    frames = hands.gives.frames_count ∙ sound.frames ∙ sym hands.gives.rights_count;
    short = subst (λ n. n < 2 ^ 32) (sym hands.gives.rights_count) sound.sound.formed.short;
    fits = subst (λ (h : HubView). h.limit < 2 ^ 32) (sym hands.hub_is) sound.sound.formed.fits;
    framed = λ other page is. ⊎_elim
        (λ same. absurd (not_to_write (right_at hub.pages.rights own.client page)
        (sym (hands.rights page) ∙ ap (λ who. right_at after.pages.rights who page) (sym same) ∙ is)))
        (λ differ. hands.gives.framed page (sound.framed other page
        (sym (same_rights hub.pages.rights after.pages.rights page other sound.holders hands.gives.holders (λ client. hands.gives.others other page client differ)) ∙ is)))
        (cases_eq other own.client);
    modified = λ page is.
        hands.gives.framed page (sound.sound.formed.modified page (subst (λ (h : HubView). is_modified h.trail page ≡ true) hands.hub_is is));
    asked = λ who ask inside.
        subst (λ n. ask.page < n) (sym hands.gives.rights_count) (sound.asked who ask (subst (λ (h : HubView). Contains (asks_in h who) ask) hands.hub_is inside));
  }

  pub few_handed : length own_after.held ≤ length own.held
  few_handed =
      subst (λ (held : List Held). length held ≤ length own.held) (sym hands.gives.held_is)
      (length_kept (kept_as (right_at hub.pages.rights own.client) (right_at after.pages.rights own.client)) own.held)

  pub cache_handed : cache.IsSound own_after
  cache_handed = subst (λ (o : cache.Own). cache.IsSound o) (sym hands.own_is) (record {
    distinct = subst (λ (o : cache.Own). ArePagesDistinct o.held) hands.own_is distinct_handed;
    few = subst (λ (o : cache.Own). length o.held ≤ own.capacity + 4) hands.own_is (let few = owns.sound.few in let less = few_handed in omega (arith, few, less));
    pending = owns.sound.pending;
    least = owns.sound.least;
    most = owns.sound.most;
  })

  -- the frames of the server get the words of what is handed in, and those of the cache stay
  pub frames_handed : (base : List (List ℕ)) → own.pending ≡ [] → FramesAreRight base hub → CacheIsRight base hub own → FramesAreRight base after
  frames_handed base none frames words =
      subst (λ (h : HubView). FramesAreRight base (record h { pages = after.pages })) (sym hands.hub_is)
      (hands.gives.words (is_modified hub.trail) (live_value base hub) (stored_value base hub) frames
      (same_held (seen_value base hub own) (live_value base hub) own.held (λ page word held. seen_without_calls base hub own owns.up none page word) words))

  pub words_handed : (base : List (List ℕ)) → CacheIsRight base hub own → CacheIsRight base after own_after
  words_handed base words =
      subst (λ (held : List Held). HeldIsRight (seen_value base after own_after) held) (sym hands.gives.held_is)
      (held_right_kept (seen_value base after own_after) (right_at hub.pages.rights own.client) (right_at after.pages.rights own.client) own.held
      (same_held (seen_value base hub own) (seen_value base after own_after) own.held
      (λ page word held.
      sym (ap (λ (h : HubView). seen_value base h own_after page word) hands.hub_is ∙ ap (λ (o : cache.Own). seen_value base hub o page word) hands.own_is))
      words))

-- and what holds where they were, if the client's association is gathering
module _ (hub : HubView) (own : cache.Own) (after : HubView) (own_after : cache.Own) (sound : Whole hub) (owns : Owning hub own) where
  handed_by : (shared : Shared) → Shows shared hub → (gathering : Option Stabilisation) → HandsIn own.client gathering hub own after own_after
      → Shows (handed_in_to (both_of shared (own_of own)) gathering).shared after × (own_of own_after ≡ (handed_in_to (both_of shared (own_of own)) gathering).own)
  handed_by shared shows None hands = (subst (Shows shared) (sym hands.0) shows, ap own_of hands.1)
  handed_by shared shows (Some gathering) hands = (
    shows_handed hub own (with_handed_in own.client gathering hub.stabilisations) after own_after sound owns hands shared (with_handed_in own.client gathering shared.stabilisations) shows
        (ap (with_handed_in own.client gathering) shows.stabilisations),
    own_handed hub own (with_handed_in own.client gathering hub.stabilisations) after own_after sound owns hands,
  )

  pub hand_turn : HandsIn own.client (gathering_in hub own.client) hub own after own_after → IsTurn handing served.Ok hub own after own_after
  hand_turn hands = record {
    replies = λ shared shows. refl;
    shows = λ shared shows. (by shared shows).0;
    owns = λ shared shows. (by shared shows).1;
  }
    where
      by : (shared : Shared) → Shows shared hub → Shows (handing shared (own_of own)).shared after × (own_of own_after ≡ (handing shared (own_of own)).own)
      by shared shows =
          handed_by shared shows (gathering_of shared own.client)
          (subst (λ gathering. HandsIn own.client gathering hub own after own_after) (sym (gathering_shown shared hub own.client shows)) hands)

  pub handed_formed : (gathering : Option Stabilisation) → HandsIn own.client gathering hub own after own_after → IsWellFormed after
  handed_formed None hands = subst IsWellFormed (sym hands.0) sound.sound.formed
  handed_formed (Some gathering) hands = formed_handed hub own (with_handed_in own.client gathering hub.stabilisations) after own_after sound owns hands

  pub handed_cache : (gathering : Option Stabilisation) → HandsIn own.client gathering hub own after own_after → cache.IsSound own_after
  handed_cache None hands = subst (λ (o : cache.Own). cache.IsSound o) (sym hands.1) owns.sound
  handed_cache (Some gathering) hands = cache_handed hub own (with_handed_in own.client gathering hub.stabilisations) after own_after sound owns hands

  pub handed_few : (gathering : Option Stabilisation) → HandsIn own.client gathering hub own after own_after → length own_after.held ≤ length own.held
  handed_few None hands = omega (arith, ap (λ (o : cache.Own). length o.held) hands.1)
  handed_few (Some gathering) hands = few_handed hub own (with_handed_in own.client gathering hub.stabilisations) after own_after sound owns hands

  pub handed_frames : (gathering : Option Stabilisation) → HandsIn own.client gathering hub own after own_after → (base : List (List ℕ)) → own.pending ≡ []
      → FramesAreRight base hub → CacheIsRight base hub own → FramesAreRight base after
  handed_frames None hands base none frames words = subst (FramesAreRight base) (sym hands.0) frames
  handed_frames (Some gathering) hands base none frames words = frames_handed hub own (with_handed_in own.client gathering hub.stabilisations) after own_after sound owns hands base none frames words

  pub handed_words : (gathering : Option Stabilisation) → HandsIn own.client gathering hub own after own_after → (base : List (List ℕ))
      → CacheIsRight base hub own → CacheIsRight base after own_after
  handed_words None hands base words = subst (λ (o : cache.Own). CacheIsRight base after o) (sym hands.1) (subst (λ (h : HubView). CacheIsRight base h own) (sym hands.0) words)
  handed_words (Some gathering) hands base words = words_handed hub own (with_handed_in own.client gathering hub.stabilisations) after own_after sound owns hands base words

  -- what stays
  pub handed_client : (gathering : Option Stabilisation) → HandsIn own.client gathering hub own after own_after → own_after.client ≡ own.client
  handed_client None hands = ap (λ (o : cache.Own). o.client) hands.1
  handed_client (Some gathering) hands = ap (λ (o : cache.Own). o.client) hands.own_is

  pub handed_capacity : (gathering : Option Stabilisation) → HandsIn own.client gathering hub own after own_after → own_after.capacity ≡ own.capacity
  handed_capacity None hands = ap (λ (o : cache.Own). o.capacity) hands.1
  handed_capacity (Some gathering) hands = ap (λ (o : cache.Own). o.capacity) hands.own_is

  pub handed_pending : (gathering : Option Stabilisation) → HandsIn own.client gathering hub own after own_after → own_after.pending ≡ own.pending
  handed_pending None hands = ap (λ (o : cache.Own). o.pending) hands.1
  handed_pending (Some gathering) hands = ap (λ (o : cache.Own). o.pending) hands.own_is

  pub handed_places : (gathering : Option Stabilisation) → HandsIn own.client gathering hub own after own_after → after.clients ≡ hub.clients
  handed_places None hands = ap (λ (h : HubView). h.clients) hands.0
  handed_places (Some gathering) hands = ap (λ (h : HubView). h.clients) hands.hub_is

  pub handed_trail : (gathering : Option Stabilisation) → HandsIn own.client gathering hub own after own_after → after.trail ≡ hub.trail
  handed_trail None hands = ap (λ (h : HubView). h.trail) hands.0
  handed_trail (Some gathering) hands = ap (λ (h : HubView). h.trail) hands.hub_is

  pub handed_count : (gathering : Option Stabilisation) → HandsIn own.client gathering hub own after own_after → page_count after ≡ page_count hub
  handed_count None hands = ap page_count hands.0
  handed_count (Some gathering) hands = hands.gives.rights_count
