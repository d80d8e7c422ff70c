use Rattle.casper_disk.proofs.StopLemmas.{last_sync, ends_now}
use Rattle.casper_disk.proofs.laws.stop_laws.Goals as goal

pub returns-clause-settled : goal.returns-clause-settled
returns-clause-settled c = last_sync

pub returns-clause-now : goal.returns-clause-now
returns-clause-now c = ends_now
