use Rattle.casper_laws.proofs.HeldWords.{every_run_array, every_run_live_and_own, every_run_live_words, every_pending_write, every_run_holders}
use Rattle.casper_laws.proofs.laws.law_of_held_words.Goals as goal

pub returns-clause-array : goal.returns-clause-array
returns-clause-array c = every_run_array

pub returns-clause-own : goal.returns-clause-own
returns-clause-own c = every_run_live_and_own

pub returns-clause-live : goal.returns-clause-live
returns-clause-live c = every_run_live_words

pub returns-clause-alone : goal.returns-clause-alone
returns-clause-alone c = every_pending_write

pub returns-clause-same : goal.returns-clause-same
returns-clause-same c = every_run_holders
