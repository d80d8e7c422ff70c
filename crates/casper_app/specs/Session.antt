use Rattle.std.specs.Prelude.{◌≡◌, List, IsTrue, length}
use Rattle.casper_trail.specs.declared.item.Item.{Item}
use Rattle.casper_space.specs.declared.answer.Answer.{Answer}
use Rattle.casper_model.specs.declared.event.Event.{Event}
use Rattle.casper_model.specs.Run.{all_fit, answers_of, state_after}
use Rattle.casper_model.specs.State.{State}
use Rattle.casper_core.specs.Stepping.{happenings_of}

-- events, each of them answered: from this start the machine answers them so, where the outside did what the answers tell
pub record IsSession (start : State) (events : List Event) (given : List Answer) : Type 0 where
  pub each : length given ≡ length events
  pub outside_fits : IsTrue (all_fit start (happenings_of events given))
  pub answers : given ≡ answers_of start (happenings_of events given)

-- the state after events that were so answered, and its trail
abbrev pub state_behind : State → List Event → List Answer → State
state_behind start events given = state_after start (happenings_of events given)

abbrev pub trail_behind : State → List Event → List Answer → List Item
trail_behind start events given = (state_behind start events given).shared.trail
