use Rattle.std.proofs.Common.{◌≡◌, ◌<◌, ℕ, ◌∙◌, List, [], true, refl, sym, ap, subst, Contains, arith}
use Rattle.std.specs.Prelude.{Option, None, Some, is_some, option_and_then}
use Rattle.casper_words.specs.declared.page.Want.{Want}
use Rattle.casper_cache.specs.Own as cache
use Rattle.casper_hub.specs.HubView.{HubView, ClientView, client_in, cap_of, asks_of, fallen_in, with_asks, page_count, is_live}
use Rattle.casper_hub.specs.Words.{live_value, seen_value, FramesAreRight, CacheIsRight}
use Rattle.casper_hub.specs.Stages.{Refuses}
use Rattle.casper_hub.specs.Sound.{IsWellFormed}
use Rattle.casper_hub.proofs.Whole.{Whole, Owning}
use Rattle.casper_hub.proofs.Relying.{same_held}
use Rattle.casper_hub.proofs.Changing.{changed, changed_here, formed_changed}
use Rattle.casper_hub.proofs.Opened.{seen_without_calls}
use Rattle.casper_hub.proofs.TurnOpened.{opening_whole, opening_count, opening_client, opening_pending, opening_live, opening_up, opening_frames, opening_words}

-- a client with other asks
pub live_with_asks : (asks : List Want) (place : Option ClientView) → is_some (with_asks asks place) ≡ is_some place
live_with_asks asks None = refl
live_with_asks asks (Some client) = refl

pub cap_with_asks : (asks : List Want) (place : Option ClientView) → cap_of (with_asks asks place) ≡ cap_of place
cap_with_asks asks None = refl
cap_with_asks asks (Some client) = refl

pub fallen_with_asks : (asks : List Want) (place : Option ClientView)
    → option_and_then (λ (client : ClientView). client.fallen) (with_asks asks place) ≡ option_and_then (λ (client : ClientView). client.fallen) place
fallen_with_asks asks None = refl
fallen_with_asks asks (Some client) = refl

pub asks_in_range : (asks : List Want) (place : Option ClientView) (count : ℕ) → ((ask : Want) → Contains asks ask → ask.page < count)
    → (ask : Want) → Contains (asks_of (with_asks asks place)) ask → ask.page < count
asks_in_range asks None count range ask inside = absurd (omega (arith, inside.1))
asks_in_range asks (Some client) count range ask inside = range ask inside

-- what follows where a turn of a client that owns its cache opened and its asks were replaced by some that name pages of the store

module _ (asks : List Want) (hub : HubView) (own : cache.Own) (after : HubView) (own_after : cache.Own) (sound : Whole hub) (owns : Owning hub own)
    (refuses : Refuses own.client asks hub own after own_after) where
  abbrev asking_place : Option ClientView
  asking_place = with_asks asks (client_in refuses.opened own.client)

  -- the hub was sound before
  pub refused_opened : Whole refuses.opened
  refused_opened = opening_whole hub own refuses.opened own_after sound owns refuses.opens

  -- its parts fit together
  pub refused_formed : ((ask : Want) → Contains asks ask → ask.page < page_count hub) → IsWellFormed after
  refused_formed range =
      subst IsWellFormed (sym refuses.hub_is)
      (formed_changed refuses.opened refuses.opened.trail own.client asking_place refuses.opened.pages refused_opened.sound.formed owns.client
      (asks_in_range asks (client_in refuses.opened own.client) (page_count refuses.opened)
      (λ ask inside. subst (λ n. ask.page < n) (sym (opening_count hub own refuses.opened own_after sound owns refuses.opens)) (range ask inside)))
      refl refl refused_opened.holders (λ client page is differ. refl) (refused_opened.framed own.client) (λ page is. is) refused_opened.sound.formed.modified)

  -- its client has not fallen
  pub refused_up : fallen_in after own_after.client ≡ None
  refused_up =
      ap (λ (h : HubView). fallen_in h own_after.client) refuses.hub_is
      ∙ ap (λ (w : ℕ). fallen_in (changed refuses.opened refuses.opened.trail own.client asking_place refuses.opened.pages) w) same_client
      ∙ ap (option_and_then (λ (client : ClientView). client.fallen))
      (changed_here refuses.opened refuses.opened.trail own.client asking_place refuses.opened.pages refused_opened.places owns.client)
      ∙ fallen_with_asks asks (client_in refuses.opened own.client)
      ∙ ap (fallen_in refuses.opened) (sym same_client) ∙ opening_up hub own refuses.opened own_after sound owns refuses.opens
    where
      same_client : own_after.client ≡ own.client
      same_client = opening_client hub own refuses.opened own_after sound owns refuses.opens

  -- and it stays live
  pub refused_live : is_live after own_after.client ≡ true
  refused_live =
      ap (is_live after) (opening_client hub own refuses.opened own_after sound owns refuses.opens)
      ∙ ap (λ (h : HubView). is_live h own.client) refuses.hub_is
      ∙ ap is_some (changed_here refuses.opened refuses.opened.trail own.client asking_place refuses.opened.pages refused_opened.places owns.client)
      ∙ live_with_asks asks (client_in refuses.opened own.client)
      ∙ ap (is_live refuses.opened) (sym (opening_client hub own refuses.opened own_after sound owns refuses.opens)) ∙ opening_live hub own refuses.opened own_after sound owns refuses.opens

-- the frames of the server stay right
pub refused_frames : (base : List (List ℕ)) (asks : List Want) (hub : HubView) (own : cache.Own) (after : HubView) (own_after : cache.Own) → Whole hub → Owning hub own
    → Refuses own.client asks hub own after own_after → FramesAreRight base hub → CacheIsRight base hub own → FramesAreRight base after
refused_frames base asks hub own after own_after sound owns refuses frames words =
    subst (λ (h : HubView). FramesAreRight base h) (sym refuses.hub_is)
    (opening_frames hub own refuses.opened own_after sound owns refuses.opens base frames words)

-- and so do those of the cache
pub refused_words : (base : List (List ℕ)) (asks : List Want) (hub : HubView) (own : cache.Own) (after : HubView) (own_after : cache.Own) → Whole hub → Owning hub own
    → Refuses own.client asks hub own after own_after → CacheIsRight base hub own → CacheIsRight base after own_after
refused_words base asks hub own after own_after sound owns refuses words =
    same_held (seen_value base refuses.opened own_after) (seen_value base after own_after) own_after.held
    (λ page word held.
    seen_without_calls base refuses.opened own_after (opening_up hub own refuses.opened own_after sound owns refuses.opens) none page word
    ∙ sym (seen_without_calls base after own_after (refused_up asks hub own after own_after sound owns refuses) none page word
    ∙ ap (λ (h : HubView). live_value base h page word) refuses.hub_is))
    (opening_words hub own refuses.opened own_after sound owns refuses.opens base words)
  where
    none : own_after.pending ≡ []
    none = opening_pending hub own refuses.opened own_after sound owns refuses.opens
