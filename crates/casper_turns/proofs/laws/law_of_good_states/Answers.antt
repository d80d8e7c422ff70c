use Rattle.casper_turns.proofs.GoodStates.{start_is_good, good_behind_turn, good_behind_change, start_is_right, right_behind_turn, right_behind_change}
use Rattle.casper_turns.proofs.laws.law_of_good_states.Goals as goal

pub returns-clause-start : goal.returns-clause-start
returns-clause-start c = start_is_good

pub returns-clause-turn : goal.returns-clause-turn
returns-clause-turn c = good_behind_turn

pub returns-clause-change : goal.returns-clause-change
returns-clause-change c = good_behind_change

pub returns-clause-start_right : goal.returns-clause-start_right
returns-clause-start_right c = start_is_right

pub returns-clause-turn_right : goal.returns-clause-turn_right
returns-clause-turn_right c = right_behind_turn

pub returns-clause-change_right : goal.returns-clause-change_right
returns-clause-change_right c = right_behind_change
