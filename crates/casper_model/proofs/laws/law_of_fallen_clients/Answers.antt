use Rattle.casper_model.proofs.FallSteps.{step_marked, every_run_marked}
use Rattle.casper_model.proofs.laws.law_of_fallen_clients.Goals as goal

pub returns-clause-step : goal.returns-clause-step
returns-clause-step c = step_marked

pub returns-clause-run : goal.returns-clause-run
returns-clause-run c = every_run_marked
