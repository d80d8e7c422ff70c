use Rattle.casper_laws.proofs.RunFacts.{every_run_history, every_entry_of_a_client, every_holder_with_writers}
use Rattle.casper_laws.proofs.laws.law_of_holders.Goals as goal

pub returns-clause-history : goal.returns-clause-history
returns-clause-history c = every_run_history

pub returns-clause-clients : goal.returns-clause-clients
returns-clause-clients c = every_entry_of_a_client

pub returns-clause-holders : goal.returns-clause-holders
returns-clause-holders c = every_holder_with_writers
