use Rattle.std.specs.Prelude.{◌≡◌, ℕ, List, [], true, Option, None, Some}
use Rattle.casper_words.specs.Crew.{IsClient}
use Rattle.casper_words.specs.declared.page.Want.{Want}
use Rattle.casper_model.specs.declared.outcome.Kept.{Kept}
use Rattle.casper_model.specs.Acquire.{acquired}
use Rattle.casper_model.specs.Both.{Both}
use Rattle.casper_model.specs.Client.{Fallen}
use Rattle.casper_model.specs.Leave.{absent}
use Rattle.casper_model.specs.Opening.{told_of_fall, begun, given_up, gathering_of, handed_in_to}
use Rattle.casper_model.specs.Own.{Own}
use Rattle.casper_model.specs.Shared.{Shared, fallen_at, is_live}
use Rattle.casper_model.specs.Stabilisation.{Stabilisation}
use Rattle.casper_model.specs.Stabilise.{stabilised}
use Rattle.casper_turns.specs.Good.{IsGoodShared, IsGoodWith}
use Rattle.casper_turns.specs.Kept.{KeptByTurn, OthersStay}

-- A turn is made of stages, and what a turn keeps is kept by each.

abbrev pub both_of : Shared → Own → Both
both_of shared own = record { shared = shared; own = own }

-- within a turn: its client is live and not fallen, and its calls are recorded
pub record IsUnderWay (shared : Shared) (own : Own) : Type 0 where
  pub live : is_live shared own.who ≡ true
  pub up : fallen_at shared own.who ≡ None
  pub recorded : own.pending ≡ []

-- the stages of a turn of a client that is not fallen: the calls are recorded and the cap topped up; pages are given up to the asks
-- of others, and handed in to a gathering; then wants are granted or refused, or the association is frozen
pub data IsStage (shared : Shared) (own : Own) : Shared → Own → Type 0 where
  beginning : is_live shared own.who ≡ true → fallen_at shared own.who ≡ None → IsStage shared own (begun shared own).shared (begun shared own).own
  giving_up : IsUnderWay shared own → IsStage shared own (given_up (both_of shared own)).shared (given_up (both_of shared own)).own
  handing_in : (gathering : Option Stabilisation) → gathering_of shared own.who ≡ gathering → IsUnderWay shared own
      → IsStage shared own (handed_in_to (both_of shared own) gathering).shared (handed_in_to (both_of shared own) gathering).own
  wanting : (given : List ℕ) (wants : List Want) (calls : ℕ) → IsUnderWay shared own
      → IsStage shared own (acquired (both_of shared own) given wants calls).shared (acquired (both_of shared own) given wants calls).own
  stabilising : (outcome : Option Kept) → IsUnderWay shared own
      → IsStage shared own (stabilised (both_of shared own) outcome).shared (stabilised (both_of shared own) outcome).own

-- each stage keeps what a turn keeps, and leaves what is known to all of the others
abbrev pub EachStageKeeps : Type 0
EachStageKeeps =
    (shared : Shared) (own : Own) (after : Shared) (own_after : Own) → IsStage shared own after own_after → IsGoodShared shared → IsGoodWith shared own
    → KeptByTurn shared own after own_after × OthersStay shared own after

-- and the turn goes on after it
abbrev pub EachStageGoesOn : Type 0
EachStageGoesOn =
    (shared : Shared) (own : Own) (after : Shared) (own_after : Own) → IsStage shared own after own_after → IsGoodShared shared → IsGoodWith shared own
    → IsUnderWay after own_after

-- a fallen client is told, and one leaves: the last stage of a departure and of a vanishing
abbrev pub TellingKeeps : Type 0
TellingKeeps =
    (shared : Shared) (own : Own) (fallen : Fallen) → IsGoodShared shared → IsGoodWith shared own → is_live shared own.who ≡ true
    → fallen_at shared own.who ≡ Some fallen → KeptByTurn shared own (told_of_fall shared own).shared (told_of_fall shared own).own

abbrev pub LeavingKeeps : Type 0
LeavingKeeps =
    (shared : Shared) (own : Own) → IsGoodShared shared → IsClient own.who
    → KeptByTurn shared own (absent (both_of shared own)).shared (absent (both_of shared own)).own

-- what a stage keeps and the stage after it keeps, both keep
abbrev pub KeptAgain : Type 0
KeptAgain =
    (shared : Shared) (own : Own) (middle : Shared) (between : Own) (after : Shared) (own_after : Own) → KeptByTurn shared own middle between
    → KeptByTurn middle between after own_after → KeptByTurn shared own after own_after
