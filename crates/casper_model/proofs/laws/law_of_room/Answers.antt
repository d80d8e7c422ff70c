use Rattle.casper_model.proofs.RoomRuns.{step_room, every_run_room}
use Rattle.casper_model.proofs.laws.law_of_room.Goals as goal

pub returns-clause-step : goal.returns-clause-step
returns-clause-step c = step_room

pub returns-clause-run : goal.returns-clause-run
returns-clause-run c = every_run_room
