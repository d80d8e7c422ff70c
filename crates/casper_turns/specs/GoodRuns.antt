use Rattle.std.specs.Prelude.{ℕ, List, Option, None, Some, ⊤}
use Rattle.casper_model.specs.declared.event.Event.{Event}
use Rattle.casper_model.specs.Outside.{Outside}
use Rattle.casper_model.specs.Rights.{NamesClients, AllNameClients}
use Rattle.casper_model.specs.Run.{Happening, state_after}
use Rattle.casper_model.specs.State.{State, Unfinished, start}
use Rattle.casper_model.specs.Step.{step}
use Rattle.casper_model.specs.Vault.{VaultState}
use Rattle.casper_turns.specs.Frozen.{IsSealedBy}
use Rattle.casper_turns.specs.GoodStates.{IsGoodState, IsRightState}

-- a write-out that is unfinished is of a sealed association
abbrev pub UnfinishedIsSealed : State → Option Unfinished → Type 0
UnfinishedIsSealed state None = ⊤
UnfinishedIsSealed state (Some unfinished) = IsSealedBy state.shared unfinished.lead

-- what is so at every moment
pub record IsGoodMoment (state : State) : Type 0 where
  pub good : IsGoodState state
  pub unfinished : UnfinishedIsSealed state state.unfinished

abbrev pub EachStepIsGood : Type 0
EachStepIsGood = (state : State) (event : Event) (outside : Outside) → NamesClients event → IsGoodMoment state → IsGoodMoment (step state event outside).state

abbrev pub EveryRunIsGood : Type 0
EveryRunIsGood =
    (vault : VaultState) (pages limit capacity : ℕ) (happenings : List Happening) → AllNameClients happenings
    → IsGoodMoment (state_after (start vault pages limit capacity) happenings)

abbrev pub EveryRunIsRight : Type 0
EveryRunIsRight =
    (vault : VaultState) (pages limit capacity : ℕ) (happenings : List Happening) → AllNameClients happenings
    → IsRightState (state_after (start vault pages limit capacity) happenings)
