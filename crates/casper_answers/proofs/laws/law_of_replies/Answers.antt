use Rattle.casper_answers.proofs.Replies.{no_join_lacks_memory, no_acquire_loads, finish_fails_well, every_failure_real}
use Rattle.casper_answers.proofs.laws.law_of_replies.Goals as goal

pub returns-clause-join : goal.returns-clause-join
returns-clause-join c = no_join_lacks_memory

pub returns-clause-acquire : goal.returns-clause-acquire
returns-clause-acquire c = no_acquire_loads

pub returns-clause-finish : goal.returns-clause-finish
returns-clause-finish c = finish_fails_well

pub returns-clause-stabilise : goal.returns-clause-stabilise
returns-clause-stabilise c = every_failure_real
