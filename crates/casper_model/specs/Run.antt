use Rattle.std.specs.Prelude.{◌≡◌, List, [], ◌∷◌, Bool, true, false, ◌&&◌, IsTrue}
use Rattle.casper_space.specs.declared.answer.Answer.{Answer}
use Rattle.casper_space.specs.declared.answer.Answer.TheVariants as answer
use Rattle.casper_model.specs.declared.event.Event.{Event}
use Rattle.casper_model.specs.Outside.{Outside, NothingFailed, LoadFailed, WriteOutFailed, WriteOutDoubted, SettleFailed}
use Rattle.casper_model.specs.State.{State}
use Rattle.casper_model.specs.Turn.{Turn}
use Rattle.casper_model.specs.Step.{step}

abbrev pub is_disk : Answer → Bool
is_disk answer.Disk = true
is_disk other = false

abbrev pub is_doubt : Answer → Bool
is_doubt answer.Doubt = true
is_doubt other = false

-- whether an answer tells of what the outside did
abbrev pub tells_of : Outside → Answer → Bool
tells_of NothingFailed answer = true
tells_of LoadFailed answer = is_disk answer
tells_of WriteOutFailed answer = is_disk answer
tells_of WriteOutDoubted answer = is_doubt answer
tells_of SettleFailed answer = is_disk answer

-- an event, and what the outside did in its step
pub record Happening : Type 0 where
  pub event : Event
  pub outside : Outside

-- whether the outside could do that in this step: the answer has to tell of it. Where it could not, there is no step
abbrev pub fits : State → Happening → Bool
fits state happening = tells_of happening.outside (step state happening.event happening.outside).answer

-- a step of the machine: the outside fits the event, and the turn is what the step gives
pub record IsStep (state : State) (happening : Happening) (turn : Turn) : Type 0 where
  pub outside_fits : IsTrue (fits state happening)
  pub gives : turn ≡ step state happening.event happening.outside

-- the state after these, one after another
abbrev pub state_after : State → List Happening → State
state_after state [] = state
state_after state (first ∷ following) = state_after (step state first.event first.outside).state following

-- the answers to these, one after another
abbrev pub answers_of : State → List Happening → List Answer
answers_of state [] = []
answers_of state (first ∷ following) =
    let turn = step state first.event first.outside in
    turn.answer ∷ answers_of turn.state following

-- whether the outside fits in each
abbrev pub all_fit : State → List Happening → Bool
all_fit state [] = true
all_fit state (first ∷ following) = fits state first && all_fit (step state first.event first.outside).state following
