use Rattle.casper_laws.proofs.PendingSteps.{step_short, every_run_short, every_run_agrees, every_run_held}
use Rattle.casper_laws.proofs.laws.law_of_pending_calls.Goals as goal

pub returns-clause-step : goal.returns-clause-step
returns-clause-step c = step_short

pub returns-clause-run : goal.returns-clause-run
returns-clause-run c = every_run_short

pub returns-clause-caps : goal.returns-clause-caps
returns-clause-caps c = every_run_agrees

pub returns-clause-rights : goal.returns-clause-rights
returns-clause-rights c = every_run_held
