use Rattle.std.specs.Prelude.{◌≡◌, ◌⊎◌, ℕ, List, [], ◌∷◌, ◌++◌, Option, None, Some}
use Rattle.casper_model.specs.declared.event.Event.{Event}
use Rattle.casper_model.specs.declared.event.Event.TheVariants as event
use Rattle.casper_model.specs.Rights.{AllNameClients}
use Rattle.casper_model.specs.Run.{Happening, state_after}
use Rattle.casper_model.specs.Stabilisation.{Stabilisation}
use Rattle.casper_model.specs.State.{State}
use Rattle.casper_model.specs.Step.{step}
use Rattle.casper_model.specs.Vault.{VaultState}
use Rattle.casper_model.specs.WriteOutStep.{job_of, busy_lead}
use Rattle.casper_trail.specs.Value.{IsArray}
use Rattle.casper_sessions.specs.Chain.{Limits, opened}
use Rattle.casper_sessions.specs.Moments.{Moment, Deciding, IsLeftAt, moment_of}
use Rattle.casper_sessions.specs.StopLaws.{IsOfAClosedPart}

-- What a stop within a step or a run leaves, also within a call of the vault.

-- an array is what a stop at a moment of this state leaves
abbrev pub IsLeftOf : State → Moment → List (List ℕ) → Type 0
IsLeftOf state moment array = IsLeftAt moment state.base state.shared.trail array

-- the write-out of a lead is made: its association is sealed, and no other write-out is unfinished or in doubt
pub record IsWritingOut (state : State) (lead : ℕ) : Type 0 where
  pub one : Stabilisation
  pub job : job_of state lead ≡ Some one
  pub free : busy_lead state ≡ None

-- within a step a stop leaves what one at the moment before it leaves; and within a write-out that is made, what one leaves while that is
-- undecided
abbrev pub IsLeftWithin : State → Event → List (List ℕ) → Type 0
IsLeftWithin state (event.WriteOut lead) array = IsLeftOf state (moment_of state) array ⊎ (IsWritingOut state lead × IsLeftOf state (Deciding lead) array)
IsLeftWithin state other array = IsLeftOf state (moment_of state) array

-- within a run a stop leaves what one within one of its steps leaves, or what one at the moment after it leaves
abbrev pub IsLeftIn : State → List Happening → List (List ℕ) → Type 0
IsLeftIn state [] array = IsLeftOf state (moment_of state) array
IsLeftIn state (first ∷ following) array = IsLeftWithin state first.event array ⊎ IsLeftIn (step state first.event first.outside).state following array

-- an array is left at a moment after the first of these
pub record IsLeftAfterSome (state : State) (happenings : List Happening) (array : List (List ℕ)) : Type 0 where
  pub before : List Happening
  pub rest : List Happening
  pub are : happenings ≡ before ++ rest
  pub moment : Moment
  pub left : IsLeftOf (state_after state before) moment array

-- what a stop within a run leaves is left at a moment after the first of its steps, so by a trail that the run had
abbrev pub EachStopIsAfterSome : Type 0
EachStopIsAfterSome = (state : State) (happenings : List Happening) (array : List (List ℕ)) → IsLeftIn state happenings array → IsLeftAfterSome state happenings array

-- an array is that of a closed part of the history after the first of these
pub record IsOfAClosedPartAfterSome (state : State) (happenings : List Happening) (array : List (List ℕ)) : Type 0 where
  pub before : List Happening
  pub rest : List Happening
  pub are : happenings ≡ before ++ rest
  pub part : IsOfAClosedPart (state_after state before).base (state_after state before).shared.trail array

-- in each session it is the array of a part of the history as it was after some of the steps, which has every cause of what it has, and
-- everything stable
abbrev pub EachRunLeavesAClosedPart : Type 0
EachRunLeavesAClosedPart =
    (limits : Limits) (vault : VaultState) (happenings : List Happening) (array : List (List ℕ)) → IsArray limits.pages vault.image → vault.doubt ≡ None
    → AllNameClients happenings → IsLeftIn (opened limits vault) happenings array → IsOfAClosedPartAfterSome (opened limits vault) happenings array
