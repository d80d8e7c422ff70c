use Rattle.std.specs.Prelude.{◌≡◌, ℕ, List, None}
use Rattle.casper_model.specs.declared.event.Event.{Event}
use Rattle.casper_model.specs.Outside.{Outside}
use Rattle.casper_model.specs.Rights.{NamesClients, AllNameClients}
use Rattle.casper_model.specs.Run.{Happening, state_after}
use Rattle.casper_model.specs.State.{State, start}
use Rattle.casper_model.specs.Step.{step}
use Rattle.casper_model.specs.Turn.{Turn}
use Rattle.casper_model.specs.Vault.{VaultState}

-- a fact of states holds at every moment of every session that begins with nothing in doubt
abbrev pub AtEachMoment : (State → Type 0) → Type 0
AtEachMoment Holds =
    (vault : VaultState) (pages limit capacity : ℕ) (happenings : List Happening) → vault.doubt ≡ None → AllNameClients happenings
    → Holds (state_after (start vault pages limit capacity) happenings)

-- a fact of a state, an event, what the outside does, and the turn that the step gives holds in each step of each such session
abbrev pub InEachStep : (State → Event → Outside → Turn → Type 0) → Type 0
InEachStep Holds = AtEachMoment (λ state. (event : Event) (outside : Outside) → NamesClients event → Holds state event outside (step state event outside))
