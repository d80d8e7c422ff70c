use Rattle.std.proofs.Common.{◌≡◌, ◌≢◌, ◌≤◌, ℕ, [], true, length, refl, sym, ap, ◌∙◌, subst}
use Rattle.std.specs.Prelude.{Option, None, Some}
use Rattle.casper_cache.specs.Own as cache
use Rattle.casper_model.specs.Both.{Turned}
use Rattle.casper_model.specs.Client.{Client, Fallen}
use Rattle.casper_model.specs.Held.{allows}
use Rattle.casper_model.specs.Own as machine
use Rattle.casper_model.specs.Rights.{Agrees, AgreesUnlessFallen}
use Rattle.casper_model.specs.Shared.{Shared, client_at, fallen_at, is_live, of_client}
use Rattle.casper_turns.specs.Good.{IsGoodShared, IsGoodWith}
use Rattle.casper_turns.specs.Kept.{KeptByTurn}
use Rattle.casper_turns.specs.TurnLaws.{IsTurn as MachineTurn}
use Rattle.casper_turns.proofs.TurnLaws.{each_turn_keeps}
use Rattle.casper_hub.specs.HubView.{HubView, ClientView, client_in}
use Rattle.casper_hub.specs.HubView.{is_live as live_in}
use Rattle.casper_hub.specs.GoesOn.{GoesOn, KeepsClient, CommitsNothing}
use Rattle.casper_hub.specs.Owned.{own_of, Owns}
use Rattle.casper_hub.specs.Shows.{Shows, ShowsClient}
use Rattle.casper_hub.specs.Sound.{StandsFor, Stands}
use Rattle.casper_hub.proofs.StandsFor.{stands_for, standing, going, good_with, good_with_each}
use Rattle.casper_turns.specs.KeepsClient.{KeepsClient as SharedKeepsClient}
use Rattle.casper_turns.specs.CommitsNothing.{CommitsNothing as SharedCommitsNothing}
use Rattle.casper_hub.proofs.Showing.{fall_shown, liveness_shown}

-- What the machine's turns keep, carried to a hub that stands for its shared part.

-- an own part that is good with one good shared part is so with each that the same hub stands for
module _ (one other : Shared) (hub : HubView) (own : machine.Own) (shows : Shows one hub) (shows_too : Shows other hub) (good : IsGoodShared other) where
  same_fall : fallen_at one own.who ≡ fallen_at other own.who
  same_fall = fall_shown one hub shows own.who ∙ sym (fall_shown other hub shows_too own.who)

  agrees_too : (place place_too : Option Client) (shown : Option ClientView) → client_at one own.who ≡ place → client_at other own.who ≡ place_too
      → ShowsClient hub.trail place shown → ShowsClient hub.trail place_too shown → Agrees place own → Agrees place_too own
  agrees_too None None shown at at_too shows shows_too agrees = agrees
  agrees_too None (Some client) None at at_too shows shows_too agrees = absurd shows_too
  agrees_too None (Some client) (Some shown) at at_too shows shows_too agrees = absurd shows
  agrees_too (Some client) None None at at_too shows shows_too agrees = absurd shows
  agrees_too (Some client) None (Some shown) at at_too shows shows_too agrees = absurd shows_too
  agrees_too (Some client) (Some client_too) None at at_too shows shows_too agrees = absurd shows
  agrees_too (Some client) (Some client_too) (Some shown) at at_too mine mine_too agrees =
      by_fall client_too.fallen refl (subst (AgreesUnlessFallen client own) (mine.fallen ∙ sym mine_too.fallen) agrees)
    where
      by_fall : (fallen : Option Fallen) → client_too.fallen ≡ fallen → AgreesUnlessFallen client own fallen → AgreesUnlessFallen client_too own fallen
      by_fall None is both = (
        mine_too.cap ∙ sym mine.cap ∙ both.0,
        λ page right.
            sym (ap (λ place. allows (of_client [] (λ client. client.rights) place) page right) at_too) ∙ shows_too.rights own.who page right
            ∙ sym (shows.rights own.who page right) ∙ ap (λ place. allows (of_client [] (λ client. client.rights) place) page right) at ∙ both.1 page right,
      )
      by_fall (Some fallen) is both =
          let bare = good.bare own.who client_too fallen at_too is in
          (mine_too.cap ∙ sym mine.cap ∙ both.0, bare.0, bare.1)

  pub good_too : IsGoodWith one own → IsGoodWith other own
  good_too mine = record {
    client = mine.client;
    agrees =
        agrees_too (client_at one own.who) (client_at other own.who) (client_in hub own.who) refl refl (shows.clients own.who) (shows_too.clients own.who) mine.agrees;
    room = mine.room;
    few = mine.few;
    most = mine.most;
    calls = λ up. mine.calls (same_fall ∙ up);
  }

-- what each turn of the machine's keeps
pub kept_by : {R : Type 0} (turn : Shared → machine.Own → Turned R) (hub : HubView) (own : cache.Own) → Owns hub own
    → ((shared : Shared) (one : machine.Own) → is_live shared one.who ≡ true → MachineTurn shared one (turn shared one).shared (turn shared one).own)
    → (shared : Shared) → Shows shared hub → IsGoodShared shared → KeptByTurn shared (own_of own) (turn shared (own_of own)).shared (turn shared (own_of own)).own
kept_by turn hub own owns is shared shows good =
    each_turn_keeps shared (own_of own) (turn shared (own_of own)).shared (turn shared (own_of own)).own
    (is shared (own_of own) (liveness_shown shared hub shows own.client ∙ owns.live)) good (good_with hub (own_of own) owns.good shared shows good)

-- a hub stands for what a turn leaves
module _ {R : Type 0} (turn : Shared → machine.Own → Turned R) (hub : HubView) (own : cache.Own) (after : HubView)
    (shows : (shared : Shared) → Shows shared hub → Shows (turn shared (own_of own)).shared after)
    (keeps : (shared : Shared) → Shows shared hub → IsGoodShared shared → KeptByTurn shared (own_of own) (turn shared (own_of own)).shared (turn shared (own_of own)).own) where
  pub stands_behind : Stands hub → Stands after
  stands_behind stands =
      let before = stands_for hub stands in
      standing after (record {
        shared = (turn before.shared (own_of own)).shared;
        shows = shows before.shared before.shows;
        good = (keeps before.shared before.shows before.good).good;
      })

  goes_behind : (between : Shared → Shared → Type 0)
      → ((shared : Shared) → KeptByTurn shared (own_of own) (turn shared (own_of own)).shared (turn shared (own_of own)).own → between shared (turn shared (own_of own)).shared)
      → GoesOn between hub after
  goes_behind between from =
      going between hub after
      (λ shared is good.
      let kept = keeps shared is good in
      record { next = (turn shared (own_of own)).shared; shows = shows shared is; good = kept.good; comes = from shared kept })

  -- the others may rely on what they knew
  pub keeps_others : (other : ℕ) → other ≢ own.client → KeepsClient other hub after
  keeps_others other apart = goes_behind (SharedKeepsClient other) (λ shared kept. kept.others other apart)

  -- and nothing is committed
  pub keeps_still : CommitsNothing hub after
  keeps_still = goes_behind SharedCommitsNothing (λ shared kept. kept.still)

  -- and the cache is that of its client, where that is live
  module _ (stands : Stands hub) (own_after : cache.Own) (owns : (shared : Shared) → Shows shared hub → own_of own_after ≡ (turn shared (own_of own)).own) where
    pub owns_behind : cache.IsSound own_after → length own_after.held ≤ own_after.capacity → live_in after own_after.client ≡ true → Owns after own_after
    owns_behind sound few live = record {
      sound = sound;
      few = few;
      live = live;
      good = good_with_each after (own_of own_after) (λ shared is good.
          good_too (turn before.shared (own_of own)).shared shared after (own_of own_after) (shows before.shared before.shows) is good
          (subst (IsGoodWith (turn before.shared (own_of own)).shared) (sym (owns before.shared before.shows)) (keeps before.shared before.shows before.good).mine));
    }
      where
        before : StandsFor hub
        before = stands_for hub stands
