use Rattle.std.specs.Prelude.{ℕ, List, Bool, true, false, ◌&&◌, nat_lt}
use Rattle.std.specs.List.{list_all}
use Rattle.casper_words.specs.declared.page.Want.{Want}
use Rattle.casper_space.specs.declared.answer.Answer.{Answer}
use Rattle.casper_space.specs.declared.answer.Answer.TheVariants as answer
use Rattle.casper_model.specs.Shared.{is_live}
use Rattle.casper_model.specs.State.{State}

-- what a step gives: its answer, and the state after it
pub record Turn : Type 0 where
  pub answer : Answer
  pub state : State

-- a step where a test holds, and otherwise a refusal that changes nothing
abbrev pub guarded : Bool → Answer → State → (State → Turn) → Turn
guarded true refusal state step = step state
guarded false refusal state step = record { answer = refusal; state = state }

-- a step of a client that is live
abbrev pub of_live : ℕ → State → (State → Turn) → Turn
of_live who state step = guarded (is_live state.shared who) answer.Absent state step

-- a step within the store
abbrev pub within : (State → Bool) → (State → Turn) → State → Turn
within test step state = guarded (test state) answer.Range state step

-- whether a word lies within the store
abbrev pub is_in_range : ℕ → ℕ → State → Bool
is_in_range page word state = nat_lt page state.shared.pages && nat_lt word 512

-- whether each wanted page does
abbrev pub are_in_range : List Want → State → Bool
are_in_range wants state = list_all (λ want. nat_lt want.page state.shared.pages) wants
