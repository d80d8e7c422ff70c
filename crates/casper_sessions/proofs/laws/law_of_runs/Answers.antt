use Rattle.casper_sessions.proofs.Runs.{after_some, run_leaves_part}
use Rattle.casper_sessions.proofs.laws.law_of_runs.Goals as goal

pub returns-clause-some : goal.returns-clause-some
returns-clause-some c = after_some

pub returns-clause-closed : goal.returns-clause-closed
returns-clause-closed c = run_leaves_part
