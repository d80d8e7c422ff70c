use Rattle.casper_dir.proofs.HoldersLemmas.{released_reader}
use Rattle.casper_dir.proofs.holders.Holders.released.Goals as goal

pub returns-in-Readers-clause-right : goal.returns-in-Readers-clause-right
returns-in-Readers-clause-right c =
    rw c.in-Readers.is (released_reader c.in-Readers.crew c.without.result c.args.who c.without.ensures.members)
