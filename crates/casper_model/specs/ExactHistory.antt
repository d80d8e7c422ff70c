use Rattle.std.specs.Prelude.{ℕ, List}
use Rattle.casper_trail.specs.declared.item.Item.{Item}
use Rattle.casper_trail.specs.Marks.{HasExactMarks}
use Rattle.casper_trail.specs.Clients.{AreOfClients}
use Rattle.casper_model.specs.declared.event.Event.{Event}
use Rattle.casper_model.specs.Outside.{Outside}
use Rattle.casper_model.specs.Vault.{VaultState}
use Rattle.casper_model.specs.State.{State, start}
use Rattle.casper_model.specs.Step.{step}
use Rattle.casper_model.specs.Run.{Happening, state_after}
use Rattle.casper_model.specs.Rights.{InOrder, NamesClients, AllNameClients}

-- a trail whose marks are exact, and whose entries are of clients
pub record IsExact (trail : List Item) : Type 0 where
  pub marks : HasExactMarks trail
  pub clients : AreOfClients trail

abbrev pub EachStepKeepsMarksExact : Type 0
EachStepKeepsMarksExact = (state : State) (event : Event) (outside : Outside) → NamesClients event → InOrder state → IsExact state.shared.trail
    → IsExact (step state event outside).state.shared.trail

-- at every moment of every run each mark names the association of its lead, or of the client that was lost
abbrev pub EveryRunHasExactMarks : Type 0
EveryRunHasExactMarks =
    (vault : VaultState) (pages limit capacity : ℕ) (happenings : List Happening) → AllNameClients happenings
    → HasExactMarks (state_after (start vault pages limit capacity) happenings).shared.trail
