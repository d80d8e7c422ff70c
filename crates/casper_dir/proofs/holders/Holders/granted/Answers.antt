use Rattle.casper_dir.proofs.HoldersLemmas.{granted_read, granted_write, granted_writer, same_writer}
use Rattle.casper_dir.proofs.holders.Holders.granted.Goals as goal

pub returns-in-Read-clause-right : goal.returns-in-Read-clause-right
returns-in-Read-clause-right c = rw (c.in-Readers.is, c.in-Read.is) (granted_read c.in-Readers.crew c.with.result c.args.who c.with.ensures.members)

pub returns-in-Write-clause-right : goal.returns-in-Write-clause-right
returns-in-Write-clause-right c =
    rw (c.in-Readers.is, c.in-Write.is) (granted_write c.in-Readers.crew c.args.who (rw (c.in-Readers.is, c.in-Write.is) at c.requires.free))

pub returns-in-Writer-clause-right : goal.returns-in-Writer-clause-right
returns-in-Writer-clause-right c =
    rw c.in-Writer.is
    (λ client _. granted_writer c.in-Writer.field-0 c.args.who c.args.right
    (same_writer c.in-Writer.field-0 c.args.who c.args.right (rw c.in-Writer.is at c.requires.clients) (rw c.in-Writer.is at c.requires.free)) client)
