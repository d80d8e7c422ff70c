use Rattle.casper_answers.proofs.StabiliseLaws.{every_gathering, every_sealed, every_doing, every_full_join, every_join}
use Rattle.casper_answers.proofs.laws.law_of_joins_and_stabilises.Goals as goal

pub returns-clause-gathering : goal.returns-clause-gathering
returns-clause-gathering c = every_gathering

pub returns-clause-sealed : goal.returns-clause-sealed
returns-clause-sealed c = every_sealed

pub returns-clause-doing : goal.returns-clause-doing
returns-clause-doing c = every_doing

pub returns-clause-full : goal.returns-clause-full
returns-clause-full c = every_full_join

pub returns-clause-joins : goal.returns-clause-joins
returns-clause-joins c = every_join
