use Rattle.casper_dir.proofs.HoldersLemmas.{readers_without}
use Rattle.casper_dir.proofs.holders.Holders.without.Goals as goal

pub returns-in-Readers-clause-right : goal.returns-in-Readers-clause-right
returns-in-Readers-clause-right c =
    rw c.in-Readers.is (readers_without c.in-Readers.crew c.args.members c.minus.result c.minus.ensures.members)
