use Rattle.casper_dir.proofs.HoldersLemmas.{lowered_holders}
use Rattle.casper_dir.proofs.holders.Holders.lowered.Goals as goal

pub returns-clause-right : goal.returns-clause-right
returns-clause-right c = lowered_holders c.args.self c.none.result c.with-readers.result c.args.who c.requires c.none.ensures.empty c.with-readers.ensures.members
