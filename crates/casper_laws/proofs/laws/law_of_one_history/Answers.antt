use Rattle.casper_model.proofs.ExactRuns.{every_run_exact}
use Rattle.casper_model.proofs.RunHistory.{every_run_legal}
use Rattle.casper_model.proofs.WholeRuns.{every_run_whole, every_run_live, every_run_stable}
use Rattle.casper_laws.proofs.AddedBySteps.{every_run_adds_exactly}
use Rattle.casper_laws.proofs.CallsInOrder.{every_run_in_order}
use Rattle.casper_laws.proofs.CompletedCalls.{every_run_completes, every_departure_records}
use Rattle.casper_laws.proofs.StepImage.{quiet_image, written_image}
use Rattle.casper_laws.proofs.laws.law_of_one_history.Goals as goal

pub returns-clause-trail : goal.returns-clause-trail
returns-clause-trail c = every_run_legal

pub returns-clause-whole : goal.returns-clause-whole
returns-clause-whole c = every_run_whole

pub returns-clause-live : goal.returns-clause-live
returns-clause-live c = every_run_live

pub returns-clause-growth : goal.returns-clause-growth
returns-clause-growth c = every_run_adds_exactly

pub returns-clause-completed : goal.returns-clause-completed
returns-clause-completed c = every_run_completes

pub returns-clause-order : goal.returns-clause-order
returns-clause-order c = every_run_in_order

pub returns-clause-departure : goal.returns-clause-departure
returns-clause-departure c = every_departure_records

pub returns-clause-stable : goal.returns-clause-stable
returns-clause-stable c = every_run_stable

pub returns-clause-exact : goal.returns-clause-exact
returns-clause-exact c = every_run_exact

pub returns-clause-quiet : goal.returns-clause-quiet
returns-clause-quiet c = quiet_image

pub returns-clause-written : goal.returns-clause-written
returns-clause-written c = written_image
