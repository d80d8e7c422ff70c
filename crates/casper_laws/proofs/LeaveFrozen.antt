use Rattle.std.proofs.Common.{◌≡◌, ◌<◌, ◌==◌, min, length, refl, sym, subst}
use Rattle.std.specs.Prelude.{Option, None, Some}
use Rattle.std.proofs.lemmas.Bool.{cond_both}
use Rattle.casper_words.specs.Crew.{IsClient}
use Rattle.casper_model.specs.declared.outcome.Kept.{Kept}
use Rattle.casper_model.specs.declared.reply.JoinRefusal.{JoinRefusal}
use Rattle.casper_model.specs.Client.{Client, Fallen, new_client}
use Rattle.casper_model.specs.Own.{Own}
use Rattle.casper_model.specs.Both.{Both, Turned}
use Rattle.casper_model.specs.Room.{most_cap, free_room}
use Rattle.casper_model.specs.Shared.{Shared, client_at, fallen_at}
use Rattle.casper_model.specs.Frozen.{stabilisation_of}
use Rattle.casper_model.specs.Opening.{opened}
use Rattle.casper_model.specs.Stabilise.{stabilise, stabilised_by, stabilised, kept_at}
use Rattle.casper_model.specs.Join.{join, joined_by}
use Rattle.casper_model.specs.Leave.{depart, departed_by, vanish, vanished_by}
use Rattle.casper_model.specs.Rights.{TurnStands}
use Rattle.casper_turns.specs.Good.{MayRecord}
use Rattle.casper_model.proofs.OpeningRights.{IsUp, up_known, known_opened, places_opened}
use Rattle.casper_model.proofs.Additions.{who_opened}
use Rattle.casper_model.proofs.TurnRights.{up_as_it_stands}
use Rattle.casper_model.proofs.AcquireRights.{within_places}
use Rattle.casper_model.proofs.LossRights.{spares_loss}
use Rattle.casper_turns.specs.Frozen.{AreFrozen}
use Rattle.casper_laws.proofs.TurnFrozen.{opening_stays}
use Rattle.casper_turns.proofs.FrozenChanges.{StaysFrozen, stays_itself, stays_both, stays_same}
use Rattle.casper_turns.proofs.TurnFrozen.{told_stays}
use Rattle.casper_turns.proofs.LeaveFrozen.{absent_stays, less_placed, lost_in_stays, stabilised_in_stays}

-- after an opening, by the outcome that was kept
pub stabilised_stays : (both : Both) → IsClient both.own.who → IsUp both.shared both.own.who → AreFrozen both.shared → (kept : Option Kept)
    → StaysFrozen both.shared (stabilised both kept).shared
stabilised_stays both is_client is frozen None = stabilised_in_stays both is_client is frozen (stabilisation_of both.shared both.own.who) refl
stabilised_stays both is_client is frozen (Some outcome) = stays_itself both.shared frozen

pub stabilised_by_stays : (shared : Shared) (own : Own) → IsClient own.who → TurnStands shared own
    → (IsUp shared own.who → MayRecord shared.trail own) → AreFrozen shared → (fallen : Option Fallen) → fallen_at shared own.who ≡ fallen
    → StaysFrozen shared (stabilised_by shared own fallen).shared
stabilised_by_stays shared own is_client stands good frozen (Some fallen) e = told_stays shared own frozen
stabilised_by_stays shared own is_client stands good frozen None e =
    let is = up_as_it_stands shared own stands e in
    let first = opening_stays shared own is_client stands is (good is) frozen in
    stays_both shared (opened shared own).shared _ first
    (stabilised_stays (opened shared own) (subst IsClient (sym (who_opened shared own)) is_client) (up_known (opened shared own).shared (opened shared own).own (known_opened shared own is))
    first.frozen (kept_at shared own.who))

pub stabilise_stays : (shared : Shared) (own : Own) → IsClient own.who → TurnStands shared own
    → (IsUp shared own.who → MayRecord shared.trail own) → AreFrozen shared → StaysFrozen shared (stabilise shared own).shared
stabilise_stays shared own is_client stands good frozen = stabilised_by_stays shared own is_client stands good frozen (fallen_at shared own.who) refl

departed_stays : (shared : Shared) (own : Own) → IsClient own.who → TurnStands shared own
    → (IsUp shared own.who → MayRecord shared.trail own) → AreFrozen shared → (fallen : Option Fallen) → fallen_at shared own.who ≡ fallen
    → StaysFrozen shared (departed_by shared own fallen).shared
departed_stays shared own is_client stands good frozen (Some fallen) e = told_stays shared own frozen
departed_stays shared own is_client stands good frozen None e =
    let is = up_as_it_stands shared own stands e in
    let first = opening_stays shared own is_client stands is (good is) frozen in
    stays_both shared (opened shared own).shared _ first
    (absent_stays (opened shared own)
    (subst (λ number. number < length (opened shared own).shared.clients) (sym (who_opened shared own))
    (subst (λ count. own.who < count) (sym (places_opened shared own)) (within_places shared own stands))) first.frozen)

pub depart_stays : (shared : Shared) (own : Own) → IsClient own.who → TurnStands shared own
    → (IsUp shared own.who → MayRecord shared.trail own) → AreFrozen shared → StaysFrozen shared (depart shared own).shared
depart_stays shared own is_client stands good frozen = departed_stays shared own is_client stands good frozen (fallen_at shared own.who) refl

places_vanished : (shared : Shared) (own : Own) (fallen : Option Fallen) → length (vanished_by shared own fallen).shared.clients ≡ length shared.clients
places_vanished shared own (Some fallen) = refl
places_vanished shared own None = (spares_loss shared own.who _).places

vanished_stays : (shared : Shared) (own : Own) → IsClient own.who → AreFrozen shared → (fallen : Option Fallen) → StaysFrozen shared (vanished_by shared own fallen).shared
vanished_stays shared own is frozen (Some fallen) = stays_itself shared frozen
vanished_stays shared own is frozen None = lost_in_stays shared own.who _ is frozen (stabilisation_of shared own.who) refl

pub vanish_stays : (shared : Shared) (own : Own) → IsClient own.who → TurnStands shared own → AreFrozen shared → StaysFrozen shared (vanish shared own).shared
vanish_stays shared own is stands frozen =
    let first = vanished_stays shared own is frozen (fallen_at shared own.who) in
    let lost : Shared = (vanished_by shared own (fallen_at shared own.who)).shared in
    stays_both shared lost _ first
    (absent_stays (record { shared = lost; own = own })
    (subst (λ count. own.who < count) (sym (places_vanished shared own (fallen_at shared own.who))) (within_places shared own stands)) first.frozen)

-- a client that joins
joined_stays : (shared : Shared) (own : Own) → own.who < length shared.clients → AreFrozen shared → (client : Option Client)
    → StaysFrozen shared (joined_by shared own client).shared
joined_stays shared own below frozen (Some client) = stays_itself shared frozen
joined_stays shared own below frozen None =
    cond_both (free_room shared == 0) _ _ (λ (turn : Turned (Option JoinRefusal)). StaysFrozen shared turn.shared)
    (λ full. stays_itself shared frozen)
    (λ free.
    stays_same shared _ refl (λ one inside. refl) (less_placed shared own.who (Some (new_client (min most_cap (free_room shared)))) below refl) frozen)

pub join_stays : (shared : Shared) (own : Own) → own.who < length shared.clients → AreFrozen shared → StaysFrozen shared (join shared own).shared
join_stays shared own below frozen = joined_stays shared own below frozen (client_at shared own.who)
