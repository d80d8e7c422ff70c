use Rattle.casper_sessions.proofs.ChainRows.{moments_of_a_write_out, doubt_found_old, doubt_found_new}
use Rattle.casper_sessions.proofs.laws.rows_of_chains.Goals as goal

pub returns-clause-moments : goal.returns-clause-moments
returns-clause-moments c = moments_of_a_write_out

pub returns-clause-found_old : goal.returns-clause-found_old
returns-clause-found_old c = doubt_found_old

pub returns-clause-found_new : goal.returns-clause-found_new
returns-clause-found_new c = doubt_found_new
