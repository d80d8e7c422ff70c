use Rattle.casper_model.proofs.RunHistory.{step_history, every_run_legal}
use Rattle.casper_model.proofs.WholeRuns.{every_run_whole, every_run_live, every_run_stable}
use Rattle.casper_model.proofs.laws.law_of_legal_history.Goals as goal

pub returns-clause-step : goal.returns-clause-step
returns-clause-step c = step_history

pub returns-clause-run : goal.returns-clause-run
returns-clause-run c = every_run_legal

pub returns-clause-whole : goal.returns-clause-whole
returns-clause-whole c = every_run_whole

pub returns-clause-live : goal.returns-clause-live
returns-clause-live c = every_run_live

pub returns-clause-stable : goal.returns-clause-stable
returns-clause-stable c = every_run_stable
