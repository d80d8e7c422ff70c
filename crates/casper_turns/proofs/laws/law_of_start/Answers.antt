use Rattle.casper_turns.proofs.Start.{start_good, start_good_with}
use Rattle.casper_turns.proofs.laws.law_of_start.Goals as goal

pub returns-clause-shared : goal.returns-clause-shared
returns-clause-shared c = start_good

pub returns-clause-each : goal.returns-clause-each
returns-clause-each c = start_good_with
