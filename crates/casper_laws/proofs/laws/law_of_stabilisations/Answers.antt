use Rattle.casper_laws.proofs.StepFrozen.{start_orderly, step_orderly, every_run_orderly, every_run_silent}
use Rattle.casper_laws.proofs.laws.law_of_stabilisations.Goals as goal

pub returns-clause-start : goal.returns-clause-start
returns-clause-start c = start_orderly

pub returns-clause-step : goal.returns-clause-step
returns-clause-step c = step_orderly

pub returns-clause-run : goal.returns-clause-run
returns-clause-run c = every_run_orderly

pub returns-clause-silent : goal.returns-clause-silent
returns-clause-silent c = every_run_silent
