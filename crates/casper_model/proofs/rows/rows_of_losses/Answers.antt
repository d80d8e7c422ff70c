use Rattle.casper_model.proofs.Computed.{rights_of_a_fallen_client, asks_of_a_fallen_client, outcome_of_a_fallen_client}
use Rattle.casper_model.proofs.rows.rows_of_losses.Goals as goal

pub returns-clause-fallen_rights : goal.returns-clause-fallen_rights
returns-clause-fallen_rights c = rights_of_a_fallen_client

pub returns-clause-fallen_asks : goal.returns-clause-fallen_asks
returns-clause-fallen_asks c = asks_of_a_fallen_client

pub returns-clause-fallen_outcome : goal.returns-clause-fallen_outcome
returns-clause-fallen_outcome c = outcome_of_a_fallen_client
