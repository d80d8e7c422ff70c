use Rattle.casper_sessions.proofs.Chains.{each_stop, each_write_out, each_closed_part}
use Rattle.casper_sessions.proofs.laws.law_of_stops.Goals as goal

pub returns-clause-moment : goal.returns-clause-moment
returns-clause-moment c = each_stop

pub returns-clause-write_out : goal.returns-clause-write_out
returns-clause-write_out c = each_write_out

pub returns-clause-closed : goal.returns-clause-closed
returns-clause-closed c = each_closed_part
