use Rattle.casper_laws.proofs.MarkSteps.{step_noted, step_records, every_run_covered, every_mark_has_room}
use Rattle.casper_laws.proofs.laws.law_of_mark_room.Goals as goal

pub returns-clause-noted : goal.returns-clause-noted
returns-clause-noted c = step_noted

pub returns-clause-step : goal.returns-clause-step
returns-clause-step c = step_records

pub returns-clause-run : goal.returns-clause-run
returns-clause-run c = every_run_covered

pub returns-clause-mark : goal.returns-clause-mark
returns-clause-mark c = every_mark_has_room
