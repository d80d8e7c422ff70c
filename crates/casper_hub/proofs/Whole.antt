use Rattle.std.proofs.Common.{◌≡◌, ◌<◌, ◌≤◌, ◌^◌, ◌-◌, min, ℕ, ◌+◌, List, [], true, false, length, refl, sym, ap, ◌∙◌, subst, ⊎_elim, true≢false, Contains, arith}
use Rattle.std.specs.Prelude.{Option, None, Some, IsSome, is_some, option_map, option_and_then, slice_get, slice_set}
use Rattle.std.proofs.lemmas.Bool.{cases_lt}
use Rattle.std.proofs.Math.Nat.{min-le_right}
use Rattle.std.proofs.lemmas.List.Sums.{sum_by-set}
use Rattle.std.proofs.lemmas.Option.{slice_get_past}
use Rattle.casper_words.specs.Crew.{IsClient}
use Rattle.casper_words.specs.declared.call.Call.{Call}
use Rattle.casper_words.specs.declared.page.Right.{Right}
use Rattle.casper_words.specs.declared.page.Right.TheVariants as may
use Rattle.casper_words.specs.declared.page.Want.{Want}
use Rattle.casper_trail.specs.declared.item.Item.{Item}
use Rattle.casper_trail.specs.TrailView.{entry_count}
use Rattle.casper_dir.specs.Rights.{AreAllClients}
use Rattle.casper_cache.specs.Holding.{right_of}
use Rattle.casper_cache.specs.Own as cache
use Rattle.casper_model.specs.Client.{Client, Fallen}
use Rattle.casper_model.specs.Held.{allows}
use Rattle.casper_model.specs.LegalHistory.{CallIsHeld}
use Rattle.casper_model.specs.Own as machine
use Rattle.casper_model.specs.Rights.{Agrees, AgreesUnlessFallen, AllowTheSame}
use Rattle.casper_model.specs.Room.{all_caps}
use Rattle.casper_model.specs.Shared.{Shared, client_at, fallen_at, of_client}
use Rattle.casper_turns.specs.Good.{IsGoodWith}
use Rattle.casper_hub.specs.HubView.{HubView, ClientView, FallenView, client_in, caps_of, cap_of, cap_in, free_in, right_in, frame_in, page_count, asks_in, fallen_in, is_live}
use Rattle.casper_hub.specs.Owned.{wants_of, own_of, Owns}
use Rattle.casper_hub.specs.Shows.{permits, fallen_of, Shows, ShowsClient}
use Rattle.casper_hub.specs.Sound.{IsSound}
use Rattle.casper_hub.proofs.StandsFor.{stands_for, good_with}
use Rattle.casper_hub.proofs.Showing.{allows_right, caps_shown, liveness_shown, up_shown}

-- What a turn finds, all told: of its hub, and of the cache of its client.

-- rights that permit the same are the same
pub permits_same : (one other : Option Right) → ((right : Right) → permits one right ≡ permits other right) → one ≡ other
permits_same None None same = refl
permits_same None (Some may.Read) same = absurd (true≢false (sym (same may.Read)))
permits_same None (Some may.Write) same = absurd (true≢false (sym (same may.Write)))
permits_same (Some may.Read) None same = absurd (true≢false (same may.Read))
permits_same (Some may.Read) (Some may.Read) same = refl
permits_same (Some may.Read) (Some may.Write) same = absurd (true≢false (sym (same may.Write)))
permits_same (Some may.Write) None same = absurd (true≢false (same may.Write))
permits_same (Some may.Write) (Some may.Read) same = absurd (true≢false (same may.Write))
permits_same (Some may.Write) (Some may.Write) same = refl

-- a place where nobody is
pub nobody_there : {X : Type 0} (place : Option X) → is_some place ≡ false → place ≡ None
nobody_there None gone = refl
nobody_there (Some client) gone = absurd (true≢false gone)

-- what is found in a list stands within it
found_within : {X : Type 0} (xs : List X) (at : ℕ) (x : X) → slice_get xs at ≡ Some x → at < length xs
found_within xs at x found =
    ⊎_elim (λ below. below) (λ past. absurd (true≢false (ap is_some (sym found ∙ slice_get_past xs at past)))) (cases_lt at (length xs))

module _ (shared : Shared) (hub : HubView) (shows : Shows shared hub) where
  pub absent_shown : (who : ℕ) → client_in hub who ≡ None → client_at shared who ≡ None
  absent_shown who gone = nobody_there (client_at shared who) (liveness_shown shared hub shows who ∙ ap is_some gone)

  pub absent_in : (who : ℕ) → client_at shared who ≡ None → client_in hub who ≡ None
  absent_in who gone = nobody_there (client_in hub who) (sym (liveness_shown shared hub shows who) ∙ ap is_some gone)

  pub rights_of_absent : (who page : ℕ) → client_in hub who ≡ None → right_in hub who page ≡ None
  rights_of_absent who page gone =
      permits_same (right_in hub who page) None
      (λ right. sym (shows.rights who page right) ∙ ap (λ place. allows (of_client [] (λ client. client.rights) place) page right) (absent_shown who gone))

-- the client of a hub that is fallen, as the machine has it
fallen_client : (shared : Shared) (hub : HubView) (who : ℕ) (fallen : FallenView) (place : Option Client) (shown : Option ClientView) → ShowsClient hub.trail place shown
    → client_at shared who ≡ place → option_and_then (λ (one : ClientView). one.fallen) shown ≡ Some fallen
    → (client : Client) × (client_at shared who ≡ Some client) × (client.fallen ≡ Some (fallen_of hub.trail fallen))
fallen_client shared hub who fallen None None shows at fell = cc
fallen_client shared hub who fallen None (Some shown) shows at fell = absurd shows
fallen_client shared hub who fallen (Some client) None shows at fell = absurd shows
fallen_client shared hub who fallen (Some client) (Some shown) shows at fell = (client, at, shows.fallen ∙ ap (option_map (fallen_of hub.trail)) fell)

-- what is true of a hub as a turn begins
pub record Whole (hub : HubView) : Type 0 where
  pub sound : IsSound hub
  pub places : length hub.clients ≡ 33
  pub holders : AreAllClients hub.pages.rights
  pub frames : length hub.pages.frames ≡ page_count hub
  pub framed : (who page : ℕ) → right_in hub who page ≡ Some may.Write → IsSome (frame_in hub.pages page)
  pub asked : (who : ℕ) (ask : Want) → Contains (asks_in hub who) ask → ask.page < page_count hub
  pub nobody : client_in hub 0 ≡ None
  pub within : entry_count hub.trail + caps_of hub.clients ≤ hub.limit
  pub marked : (who : ℕ) (fallen : FallenView) → fallen_in hub who ≡ Some fallen → fallen.mark < length hub.trail

pub within_sound : (hub : HubView) → IsSound hub → entry_count hub.trail + caps_of hub.clients ≤ hub.limit
within_sound hub sound =
    let shared = (stands_for hub sound.stands).shared in
    let shows = (stands_for hub sound.stands).shows in
    let within : entry_count shared.trail + all_caps shared ≤ shared.limit = (stands_for hub sound.stands).good.within in
    omega (arith, within, ap entry_count shows.trail, caps_shown shared hub shows sound.formed.places, shows.limit)

pub marked_sound : (hub : HubView) → IsSound hub → (who : ℕ) (fallen : FallenView) → fallen_in hub who ≡ Some fallen → fallen.mark < length hub.trail
marked_sound hub sound who fallen fell =
    let shared = (stands_for hub sound.stands).shared in
    let shows = (stands_for hub sound.stands).shows in
    let found = fallen_client shared hub who fallen (client_at shared who) (client_in hub who) (shows.clients who) refl fell in
    let marked = (stands_for hub sound.stands).good.marked who found.0 (fallen_of hub.trail fallen) found.1 found.2 in
    subst (λ trail. fallen.mark < length trail) shows.trail (found_within shared.trail fallen.mark _ marked.mark)

pub whole : (hub : HubView) → IsSound hub → Whole hub
whole hub sound = record {
  sound = sound;
  places = sound.formed.places;
  holders = sound.formed.holders;
  frames = sound.formed.frames;
  framed = sound.formed.framed;
  asked = sound.formed.asked;
  nobody = absent_in (stands_for hub sound.stands).shared hub (stands_for hub sound.stands).shows 0 (stands_for hub sound.stands).good.nobody;
  within = within_sound hub sound;
  marked = marked_sound hub sound;
}

-- what is known to all of a live client agrees with its own part
agreed_cap : (place : Option Client) (own : machine.Own) → is_some place ≡ true → Agrees place own → of_client 0 (λ client. client.cap) place ≡ own.cap
agreed_cap None own live agrees = absurd (true≢false (sym live))
agreed_cap (Some client) own live agrees = by_fall client.fallen agrees
  where
    by_fall : (fallen : Option Fallen) → AgreesUnlessFallen client own fallen → client.cap ≡ own.cap
    by_fall None both = both.0
    by_fall (Some fallen) both = both.0

pub agreed_rights : (place : Option Client) (own : machine.Own) → of_client None (λ client. client.fallen) place ≡ None → Agrees place own
    → AllowTheSame (of_client [] (λ client. client.rights) place) own.held
agreed_rights None own up agrees page right = ap (λ held. allows held page right) (sym agrees.0)
agreed_rights (Some client) own up agrees page right = (subst (AgreesUnlessFallen client own) up agrees).1 page right

cap_shown : (trail : List Item) (place : Option Client) (shown : Option ClientView) → ShowsClient trail place shown
    → of_client 0 (λ client. client.cap) place ≡ cap_of shown
cap_shown trail None None shows = refl
cap_shown trail None (Some shown) shows = absurd shows
cap_shown trail (Some client) None shows = absurd shows
cap_shown trail (Some client) (Some shown) shows = shows.cap

-- a cache is that of a live client that has not fallen, where both know the same rights and the same cap, and each pending call has its
-- right
pub record Owning (hub : HubView) (own : cache.Own) : Type 0 where
  pub owned : Owns hub own
  pub sound : cache.IsSound own
  pub client : IsClient own.client
  pub live : is_live hub own.client ≡ true
  pub up : fallen_in hub own.client ≡ None
  pub cap : cap_in hub own.client ≡ own.cap
  pub few : length own.held ≤ own.capacity
  pub rights : (page : ℕ) → right_in hub own.client page ≡ right_of page own.held
  pub calls : (call : Call) → Contains own.pending call → CallIsHeld (wants_of own.held) call

pub owning : (hub : HubView) (own : cache.Own) → IsSound hub → Owns hub own → fallen_in hub own.client ≡ None → Owning hub own
owning hub own sound owns up = record {
  owned = owns;
  sound = owns.sound;
  client = mine.client;
  live = owns.live;
  up = up;
  cap = sym (cap_shown hub.trail (client_at shared own.client) (client_in hub own.client) (shows.clients own.client))
      ∙ agreed_cap (client_at shared own.client) (own_of own) (liveness_shown shared hub shows own.client ∙ owns.live) mine.agrees;
  few = owns.few;
  rights = λ page.
      permits_same (right_in hub own.client page) (right_of page own.held)
      (λ right. sym (shows.rights own.client page right)
      ∙ agreed_rights (client_at shared own.client) (own_of own) (up_shown shared hub shows own.client up) mine.agrees page right
      ∙ allows_right own.held owns.sound.distinct page right);
  calls = mine.calls (up_shown shared hub shows own.client up);
}
  where
    shared : Shared
    shared = (stands_for hub sound.stands).shared

    shows : Shows shared hub
    shows = (stands_for hub sound.stands).shows

    mine : IsGoodWith shared (own_of own)
    mine = good_with hub (own_of own) owns.good shared shows (stands_for hub sound.stands).good

-- whose cache a hub owns is a client
pub client_owned : (hub : HubView) (own : cache.Own) → IsSound hub → Owns hub own → IsClient own.client
client_owned hub own sound owns =
    let found = stands_for hub sound.stands in (good_with hub (own_of own) owns.good found.shared found.shows found.good).client

-- the machine has not felled such a client either
pub fallen_shown : (shared : Shared) (hub : HubView) (own : cache.Own) → Shows shared hub → Owning hub own → fallen_at shared own.client ≡ None
fallen_shown shared hub own shows owns = up_shown shared hub shows own.client owns.up

-- the hub that a function shows is whole
pub whole_at : (view hub : HubView) → view ≡ hub → IsSound view → Whole hub
whole_at view hub is sound = whole hub (subst IsSound is sound)

-- what is promised to a client is within the limit
pub cap_within : (hub : HubView) (who : ℕ) → IsClient who → IsSound hub → entry_count hub.trail + cap_in hub who ≤ hub.limit
cap_within hub who client sound =
    let most = client.1 in
    let long = sound.formed.places in
    let below : who < length hub.clients = omega arith in
    let caps : caps_of (slice_set hub.clients who None) + cap_in hub who ≡ caps_of hub.clients + 0 = sum_by-set cap_of hub.clients who None None below in
    let within : entry_count hub.trail + caps_of hub.clients ≤ hub.limit = within_sound hub sound in
    omega (arith, caps, within)

-- and so is what may be promised more
pub cap_fits : (hub : HubView) (who : ℕ) → IsClient who → IsSound hub → cap_in hub who + free_in hub < 2 ^ 32
cap_fits hub who client sound =
    let most = client.1 in
    let long = sound.formed.places in
    let below : who < length hub.clients = omega arith in
    let caps : caps_of (slice_set hub.clients who None) + cap_in hub who ≡ caps_of hub.clients + 0 = sum_by-set cap_of hub.clients who None None below in
    let within : entry_count hub.trail + caps_of hub.clients ≤ hub.limit = within_sound hub sound in
    let fits : hub.limit < 2 ^ 32 = sound.formed.fits in
    let free : free_in hub ≡ hub.limit - entry_count hub.trail - caps_of hub.clients = refl in
    omega (arith, caps, within, fits, free)

-- the pending calls of a cache are within its cap
pub pending_within : (own : cache.Own) → cache.IsSound own → length own.pending ≤ own.cap
pending_within own sound = let few = sound.pending in let low : min 4096 own.cap ≤ own.cap = min-le_right 4096 own.cap in omega (arith, few, low)
