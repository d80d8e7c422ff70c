use Rattle.std.proofs.Common.{◌≡◌, ◌<◌, ◌≤◌, ℕ, ◌+◌, ◌-◌, [], true, length, refl, sym, ap, ◌∙◌, subst, true≢false, arith}
use Rattle.std.specs.Prelude.{Option, None, Some, is_some, option_map, option_and_then}
use Rattle.casper_trail.specs.TrailView.{entry_count}
use Rattle.casper_trail.specs.Calls.{entry_by, entries_by}
use Rattle.casper_trail.proofs.CallLists.{count_of_more_entries}
use Rattle.std.proofs.lemmas.List.{length-map}
use Rattle.casper_cache.specs.Own as cache
use Rattle.casper_model.specs.Client.{Client}
use Rattle.casper_model.specs.Shared.{Shared, client_at, fallen_at, of_client}
use Rattle.casper_model.specs.Own.{Own}
use Rattle.casper_model.specs.Both.{Both}
use Rattle.casper_model.specs.Room.{all_caps, free_room}
use Rattle.casper_model.specs.Held.{allows}
use Rattle.casper_model.specs.Opening.{kept_dropped, recorded, begun, given_up, gathering_of, handed_in_to, opened}
use Rattle.casper_model.specs.Rights.{Agrees, AgreesUnlessFallen, TurnStands, AllowTheSame}
use Rattle.casper_model.proofs.Places.{client_changed}
use Rattle.casper_model.proofs.OpeningRights.{places_changed}
use Rattle.casper_model.proofs.AcquireRights.{within_places}
use Rattle.casper_model.proofs.Caps.{caps_agreed, caps_same, IsCapped}
use Rattle.casper_hub.specs.HubView.{HubView, ClientView, client_in, cap_of, fallen_in, is_live}
use Rattle.casper_hub.specs.Shows.{permits, Shows, ShowsClient, ShowsLive}
use Rattle.casper_hub.specs.Owned.{wants_of, own_of}
use Rattle.casper_hub.proofs.Whole.{Whole, Owning}
use Rattle.casper_hub.proofs.Showing.{allows_right, exclusive_shown}

-- a live client that has not fallen, as the machine has it
pub record Live (shared : Shared) (hub : HubView) (who : ℕ) : Type 0 where
  pub client : Client
  pub shown : ClientView
  pub at : client_at shared who ≡ Some client
  pub is : client_in hub who ≡ Some shown
  pub shows : ShowsLive hub.trail client shown
  pub up : shown.fallen ≡ None

live_by : (shared : Shared) (hub : HubView) (who : ℕ) (place : Option Client) (shown : Option ClientView) → Whole hub → client_at shared who ≡ place → client_in hub who ≡ shown
    → is_some shown ≡ true → ShowsClient hub.trail place shown → fallen_in hub who ≡ None → Live shared hub who
live_by shared hub who None None sound at is live shows up = absurd (true≢false (sym live))
live_by shared hub who None (Some shown) sound at is live shows up = absurd shows
live_by shared hub who (Some client) None sound at is live shows up = absurd shows
live_by shared hub who (Some client) (Some shown) sound at is live shows up = record {
  client = client;
  shown = shown;
  at = at;
  is = is;
  shows = shows;
  up = sym (ap (option_and_then (λ (one : ClientView). one.fallen)) is) ∙ up;
}

pub live_shown : (shared : Shared) (hub : HubView) (who : ℕ) → Shows shared hub → Whole hub → is_live hub who ≡ true → fallen_in hub who ≡ None → Live shared hub who
live_shown shared hub who shows sound live up = live_by shared hub who (client_at shared who) (client_in hub who) sound refl refl live (shows.clients who) up

nobody_at_zero : (shared : Shared) (hub : HubView) (place : Option Client) (shown : Option ClientView) → ShowsClient hub.trail place shown → shown ≡ None
    → place ≡ None
nobody_at_zero shared hub None shown shows none = refl
nobody_at_zero shared hub (Some client) None shows none = absurd shows
nobody_at_zero shared hub (Some client) (Some shown) shows none = absurd (true≢false (ap is_some none))

-- what a hub owns, the machine's turn finds as it begins
pub stands : (shared : Shared) (hub : HubView) (own : cache.Own) → Shows shared hub → Whole hub → Owning hub own → TurnStands shared (own_of own)
stands shared hub own shows sound owns = record {
  client = live.client;
  live = live.at;
  places = shows.places;
  nobody = nobody_at_zero shared hub (client_at shared 0) (client_in hub 0) (shows.clients 0) sound.nobody;
  agrees = subst (λ place. Agrees place (own_of own)) (sym live.at)
      (subst (AgreesUnlessFallen live.client (own_of own)) (sym up) (cap, same));
  exclusive = exclusive_shown shared hub shows;
}
  where
    live : Live shared hub own.client
    live = live_shown shared hub own.client shows sound owns.live owns.up

    up : live.client.fallen ≡ None
    up = live.shows.fallen ∙ ap (option_map _) live.up

    cap : live.client.cap ≡ own.cap
    cap = live.shows.cap ∙ sym (ap cap_of live.is) ∙ owns.cap

    same : AllowTheSame live.client.rights (wants_of own.held)
    same page right =
        ap (λ place. allows (of_client [] (λ (client : Client). client.rights) place) page right) (sym live.at) ∙ shows.rights own.client page right ∙ ap (λ one. permits one right) (owns.rights page) ∙ sym (allows_right own.held owns.sound.distinct page right)

-- where the client's association is not gathering an opening hands nothing in
pub opened_apart : (shared : Shared) (own : Own) → gathering_of (given_up (begun shared own)).shared own.who ≡ None → opened shared own ≡ given_up (begun shared own)
opened_apart shared own none = let both = given_up (begun shared own) in ap (handed_in_to both) none

-- the free room once the pending calls are recorded is what it was before
pub free_recorded : (shared : Shared) (own : Own) → TurnStands shared own → fallen_at shared own.who ≡ None → length own.pending ≤ own.cap
    → entry_count shared.trail + all_caps shared ≤ shared.limit → free_room (recorded (kept_dropped own.who shared) own).shared ≡ free_room shared
free_recorded shared own stood up pending within =
    let caps : all_caps both.shared + own.cap ≡ all_caps longer + (own.cap - length own.pending) = caps_agreed longer own both.own capped below refl in
    let same : all_caps longer ≡ all_caps shared = caps_same own.who drop (λ client. refl) shared in
    let count : entry_count both.shared.trail ≡ entry_count shared.trail + length own.pending =
    count_of_more_entries shared.trail (entries_by own.who own.pending) ∙ ap (λ n. entry_count shared.trail + n) (length-map own.pending (entry_by own.who)) in
    omega (arith, caps, same, count, pending, within)
  where
    drop : Client → Client
    drop client = record client { kept = None }

    both : Both
    both = recorded (kept_dropped own.who shared) own

    longer : Shared
    longer = record (kept_dropped own.who shared) { trail = both.shared.trail }

    is_fallen : stood.client.fallen ≡ None
    is_fallen = sym (ap (of_client None (λ client. client.fallen)) stood.live) ∙ up

    had : (stood.client.cap ≡ own.cap) × AllowTheSame stood.client.rights own.held
    had = subst (AgreesUnlessFallen stood.client own) is_fallen (subst (λ place. Agrees place own) stood.live stood.agrees)

    capped : IsCapped longer own
    capped = record {
      client = drop stood.client;
      live = client_changed own.who drop shared ∙ ap (option_map drop) stood.live;
      up = is_fallen;
      cap = had.0;
    }

    below : own.who < length longer.clients
    below = subst (λ count. own.who < count) (sym (places_changed own.who drop shared)) (within_places shared own stood)
