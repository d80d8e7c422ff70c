use Rattle.casper_laws.proofs.CallsInOrder.{every_run_in_order}
use Rattle.casper_laws.proofs.KeptCalls.{step_calls, every_run_calls, every_absent_empty}
use Rattle.casper_laws.proofs.CompletedCalls.{step_completes, every_run_completes, departure_records, every_departure_records}
use Rattle.casper_laws.proofs.laws.law_of_own_lists.Goals as goal

pub returns-clause-pending : goal.returns-clause-pending
returns-clause-pending c = step_calls

pub returns-clause-calls : goal.returns-clause-calls
returns-clause-calls c = every_run_calls

pub returns-clause-absent : goal.returns-clause-absent
returns-clause-absent c = every_absent_empty

pub returns-clause-step : goal.returns-clause-step
returns-clause-step c = step_completes

pub returns-clause-run : goal.returns-clause-run
returns-clause-run c = every_run_completes

pub returns-clause-order : goal.returns-clause-order
returns-clause-order c = every_run_in_order

pub returns-clause-departure : goal.returns-clause-departure
returns-clause-departure c = departure_records

pub returns-clause-departures : goal.returns-clause-departures
returns-clause-departures c = every_departure_records
