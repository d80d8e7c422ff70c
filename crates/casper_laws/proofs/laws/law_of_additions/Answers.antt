use Rattle.casper_laws.proofs.AddedBySteps.{step_adds_exactly, every_run_adds_exactly}
use Rattle.casper_laws.proofs.laws.law_of_additions.Goals as goal

pub returns-clause-step : goal.returns-clause-step
returns-clause-step c = step_adds_exactly

pub returns-clause-run : goal.returns-clause-run
returns-clause-run c = every_run_adds_exactly
