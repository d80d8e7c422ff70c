use Rattle.std.specs.Prelude.{ℕ, List, ◌+◌, ◌≤◌, length}
use Rattle.casper_trail.specs.TrailView.{entry_count}
use Rattle.casper_model.specs.declared.event.Event.{Event}
use Rattle.casper_model.specs.Outside.{Outside}
use Rattle.casper_model.specs.Shared.{Shared}
use Rattle.casper_model.specs.Room.{all_caps}
use Rattle.casper_model.specs.Vault.{VaultState}
use Rattle.casper_model.specs.State.{State, own_at, start}
use Rattle.casper_model.specs.Step.{step}
use Rattle.casper_model.specs.Run.{Happening, state_after}
use Rattle.casper_model.specs.Rights.{InOrder, NamesClients, AllNameClients}

-- the entries and all caps are within the limit
abbrev pub IsWithin : Shared → Type 0
IsWithin shared = entry_count shared.trail + all_caps shared ≤ shared.limit

-- a state whose entries and caps are within the limit, and whose clients have no more calls pending than their caps
pub record HasRoom (state : State) : Type 0 where
  pub within : IsWithin state.shared
  pub pending : (who : ℕ) → length (own_at state who).pending ≤ (own_at state who).cap

abbrev pub EachStepKeepsRoom : Type 0
EachStepKeepsRoom = (state : State) (event : Event) (outside : Outside) → NamesClients event → InOrder state → HasRoom state → HasRoom (step state event outside).state

-- at every moment of every run the entries and all caps are within the limit, and each pending list is within its cap
abbrev pub EveryRunKeepsRoom : Type 0
EveryRunKeepsRoom =
    (vault : VaultState) (pages limit capacity : ℕ) (happenings : List Happening) → AllNameClients happenings
    → HasRoom (state_after (start vault pages limit capacity) happenings)
