use Rattle.casper_model.proofs.StepRights.{step_rights}
use Rattle.casper_model.proofs.RunRights.{start_in_order, every_run_rights}
use Rattle.casper_model.proofs.laws.law_of_rights.Goals as goal

pub returns-clause-start : goal.returns-clause-start
returns-clause-start c = start_in_order

pub returns-clause-step : goal.returns-clause-step
returns-clause-step c = step_rights

pub returns-clause-run : goal.returns-clause-run
returns-clause-run c = every_run_rights
