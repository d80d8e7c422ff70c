use Rattle.std.specs.Prelude.{◌≡◌, ◌⊎◌, ℕ, List, Option, None, Some}
use Rattle.casper_trail.specs.declared.item.Item.{Item}
use Rattle.casper_trail.specs.Image.{image_of, image_with}
use Rattle.casper_model.specs.declared.outcome.Outcome.{Outcome}
use Rattle.casper_model.specs.declared.outcome.Outcome.TheVariants as outcome
use Rattle.casper_model.specs.Finish.{doubtful_of}
use Rattle.casper_model.specs.Stabilisation.{Stabilisation}
use Rattle.casper_model.specs.State.{State, Unfinished}

-- a moment of a session: no write-out is undecided; that of a lead runs or is in doubt; or it answered Ok and is not finished
pub data Moment : Type 0 where
  Quiet : Moment
  Deciding Written : ℕ → Moment

-- what a stop at a moment leaves: the stable image, that with the association of the lead, or one of the two
abbrev pub IsLeftAt : Moment → List (List ℕ) → List Item → List (List ℕ) → Type 0
IsLeftAt Quiet base trail array = array ≡ image_of base trail
IsLeftAt (Deciding lead) base trail array = (array ≡ image_of base trail) ⊎ (array ≡ image_with base trail lead)
IsLeftAt (Written lead) base trail array = array ≡ image_with base trail lead

-- the moment after a write-out of a lead that ended so, before its finish
abbrev pub moment_after : ℕ → Outcome → Moment
moment_after lead (outcome.Ok version) = Written lead
moment_after lead (outcome.Full need free) = Quiet
moment_after lead outcome.Worn = Quiet
moment_after lead outcome.Disk = Quiet
moment_after lead outcome.Doubt = Deciding lead

-- the moment by the write-out that is unfinished and the stabilisation that is in doubt, where there are any
abbrev pub moment_by : Option Unfinished → Option Stabilisation → Moment
moment_by (Some unfinished) doubtful = moment_after unfinished.lead unfinished.outcome
moment_by None (Some one) = Deciding one.lead
moment_by None None = Quiet

-- the moment of a state, between two steps
abbrev pub moment_of : State → Moment
moment_of state = moment_by state.unfinished (doubtful_of state.shared)
