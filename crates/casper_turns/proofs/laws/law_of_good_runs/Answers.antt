use Rattle.casper_turns.proofs.GoodRuns.{each_step_is_good, every_run_is_good, every_run_is_right}
use Rattle.casper_turns.proofs.laws.law_of_good_runs.Goals as goal

pub returns-clause-step : goal.returns-clause-step
returns-clause-step c = each_step_is_good

pub returns-clause-run : goal.returns-clause-run
returns-clause-run c = every_run_is_good

pub returns-clause-right : goal.returns-clause-right
returns-clause-right c = every_run_is_right
