use Rattle.casper_laws.proofs.StepImage.{start_stored, step_stored, every_run_stored, quiet_image, written_image}
use Rattle.casper_laws.proofs.laws.law_of_images.Goals as goal

pub returns-clause-start : goal.returns-clause-start
returns-clause-start c = start_stored

pub returns-clause-step : goal.returns-clause-step
returns-clause-step c = step_stored

pub returns-clause-run : goal.returns-clause-run
returns-clause-run c = every_run_stored

pub returns-clause-quiet : goal.returns-clause-quiet
returns-clause-quiet c = quiet_image

pub returns-clause-written : goal.returns-clause-written
returns-clause-written c = written_image
