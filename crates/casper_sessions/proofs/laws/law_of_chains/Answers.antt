use Rattle.casper_sessions.proofs.Chains.{each_opening, each_chain}
use Rattle.casper_sessions.proofs.laws.law_of_chains.Goals as goal

pub returns-clause-opening : goal.returns-clause-opening
returns-clause-opening c = each_opening

pub returns-clause-goes_on : goal.returns-clause-goes_on
returns-clause-goes_on c = each_chain
