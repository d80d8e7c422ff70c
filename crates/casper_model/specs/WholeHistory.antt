use Rattle.std.specs.Prelude.{ℕ, List, filter_map, Option, None, Some}
use Rattle.std.specs.List.{range_with_len}
use Rattle.casper_trail.specs.declared.item.Item.{Item}
use Rattle.casper_trail.specs.Parts.{as_items, live_entries, stable_entries}
use Rattle.casper_trail.specs.Calls.{Pending, whole_history}
use Rattle.casper_trail.specs.Cause.{IsClosedPart}
use Rattle.casper_trail.specs.Legal.{IsLegal}
use Rattle.casper_model.specs.Client.{Client, Fallen}
use Rattle.casper_model.specs.Shared.{client_at}
use Rattle.casper_model.specs.Own.{Own}
use Rattle.casper_model.specs.Vault.{VaultState}
use Rattle.casper_model.specs.State.{State, own_at, start}
use Rattle.casper_model.specs.Run.{Happening, state_after}
use Rattle.casper_model.specs.Rights.{AllNameClients}

abbrev pub pending_unless_fallen : ℕ → Own → Option Fallen → Option Pending
pending_unless_fallen who own None = Some (record { who = who; calls = own.pending })
pending_unless_fallen who own (Some fallen) = None

-- the pending calls of a client, where it is live and not fallen
abbrev pub pending_at : ℕ → Own → Option Client → Option Pending
pending_at who own None = None
pending_at who own (Some client) = pending_unless_fallen who own client.fallen

-- the pending calls of all live clients that are not fallen, in rising order
abbrev pub pending_of : State → List Pending
pending_of state = filter_map (λ who. pending_at who (own_at state who) (client_at state.shared who)) (range_with_len 1 32)

-- the trail, followed by all pending calls
abbrev pub whole_of : State → List Item
whole_of state = whole_history state.shared.trail (pending_of state)

-- at every moment of every run the whole history is legal: all completed calls that no rollback named stand in one
-- order in which each read has the value of the last write before it
abbrev pub EveryRunIsLegalAsAWhole : Type 0
EveryRunIsLegalAsAWhole =
    (vault : VaultState) (pages limit capacity : ℕ) (happenings : List Happening) → AllNameClients happenings
    → IsLegal vault.image (whole_of (state_after (start vault pages limit capacity) happenings))

-- the live part of the trail is legal by itself: no read that is left saw a write that is gone
abbrev pub EveryRunHasALegalLivePart : Type 0
EveryRunHasALegalLivePart =
    (vault : VaultState) (pages limit capacity : ℕ) (happenings : List Happening) → AllNameClients happenings
    → IsLegal vault.image (as_items (live_entries (state_after (start vault pages limit capacity) happenings).shared.trail))

-- what is stable is causally closed: it has every direct cause of each of its entries
abbrev pub EveryRunHasAClosedStablePart : Type 0
EveryRunHasAClosedStablePart =
    (vault : VaultState) (pages limit capacity : ℕ) (happenings : List Happening) → AllNameClients happenings
    → IsClosedPart (stable_entries (state_after (start vault pages limit capacity) happenings).shared.trail)
    (live_entries (state_after (start vault pages limit capacity) happenings).shared.trail)
