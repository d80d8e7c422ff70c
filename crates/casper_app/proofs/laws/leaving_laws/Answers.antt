use Rattle.casper_app.proofs.LeavingLemmas.{each_stop_is_closed}
use Rattle.casper_app.proofs.laws.leaving_laws.Goals as goal

pub returns : goal.returns
returns c = record { closed = each_stop_is_closed }
