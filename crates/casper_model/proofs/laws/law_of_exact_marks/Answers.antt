use Rattle.casper_model.proofs.ExactRuns.{step_exact, every_run_exact}
use Rattle.casper_model.proofs.laws.law_of_exact_marks.Goals as goal

pub returns-clause-step : goal.returns-clause-step
returns-clause-step c = step_exact

pub returns-clause-run : goal.returns-clause-run
returns-clause-run c = every_run_exact
