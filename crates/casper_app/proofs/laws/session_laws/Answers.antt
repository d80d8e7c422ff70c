use Rattle.casper_app.proofs.SessionLemmas.{unfailing_sessions, lines_name_clients, sessions_are_legal}
use Rattle.casper_app.proofs.CallLemmas.{sessions_keep_calls, sessions_keep_but_dropped}
use Rattle.casper_app.proofs.laws.session_laws.Goals as goal

pub returns-clause-machine : goal.returns-clause-machine
returns-clause-machine c = unfailing_sessions

pub returns-clause-clients : goal.returns-clause-clients
returns-clause-clients c = lines_name_clients

pub returns-clause-legal : goal.returns-clause-legal
returns-clause-legal c = sessions_are_legal

pub returns-clause-calls : goal.returns-clause-calls
returns-clause-calls c = sessions_keep_calls

pub returns-clause-dropped : goal.returns-clause-dropped
returns-clause-dropped c = sessions_keep_but_dropped
