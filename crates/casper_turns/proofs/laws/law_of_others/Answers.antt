use Rattle.casper_turns.proofs.Compose.{apart_itself, apart_again, good_with_while_apart, reads_while_apart}
use Rattle.casper_turns.proofs.laws.law_of_others.Goals as goal

pub returns-clause-itself : goal.returns-clause-itself
returns-clause-itself c = apart_itself

pub returns-clause-again : goal.returns-clause-again
returns-clause-again c = apart_again

pub returns-clause-good : goal.returns-clause-good
returns-clause-good c = good_with_while_apart

pub returns-clause-right : goal.returns-clause-right
returns-clause-right c = reads_while_apart
