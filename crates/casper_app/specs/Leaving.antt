use Rattle.std.specs.Prelude.{◌≡◌, ℕ, List, [], ◌∷◌, ◌++◌}
use Rattle.casper_space.specs.declared.answer.Answer.{Answer}
use Rattle.casper_model.specs.State.{State}
use Rattle.casper_sessions.specs.Moments.{moment_of}
use Rattle.casper_sessions.specs.Within.{IsLeftOf, IsLeftWithin}
use Rattle.casper_app.specs.declared.schedule.Asked.{Asked}
use Rattle.casper_app.specs.declared.schedule.Asked.TheVariants as asked
use Rattle.casper_app.specs.Play.{Standing, Plays, by_machine}

-- What a stop leaves while a schedule is carried out.

-- while the first of these is carried out: within the step of an event what a stop within it leaves, and otherwise what one at the
-- moment of the state leaves
abbrev pub IsLeftWhile : State → List Asked → List (List ℕ) → Type 0
IsLeftWhile state [] array = IsLeftOf state (moment_of state) array
IsLeftWhile state (asked.Event event ∷ more) array = IsLeftWithin state event array
IsLeftWhile state (asked.Reopen ∷ more) array = IsLeftOf state (moment_of state) array

-- an array is what a stop leaves once the first of what was asked for is answered so
pub record IsLeftAmong (entries : ℕ) (first : Standing) (asked : List Asked) (given : List Answer) (array : List (List ℕ)) : Type 0 where
  pub before : List Asked
  pub rest : List Asked
  pub asked_is : asked ≡ before ++ rest
  pub said : List Answer
  pub more : List Answer
  pub given_is : given ≡ said ++ more
  pub standing : Standing
  pub plays : Plays by_machine entries first before said standing
  pub left : IsLeftWhile standing.state rest array
