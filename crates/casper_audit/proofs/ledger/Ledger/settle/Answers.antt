use Rattle.std.proofs.Common.{refl}
use Rattle.casper_audit.proofs.MarkLemmas.{ledger_settled_by}
use Rattle.casper_audit.proofs.ledger.Ledger.settle.Goals as goal

pub returns : goal.returns
returns c = λ base items exact keeps.
    ledger_settled_by base items c.args.mark.now c.members_of-members.result c.commits.result c.args.self.now c.settle_members.new.self
    (record { words = c.settle_members.new.self.words; writers = c.settle_members.new.self.writers; opened = c.settle_members.new.self.opened; groups = c.part.new.self; alloc = c.settle_members.new.self.alloc })
    c.members_of-members.ensures c.commits.ensures exact c.in_ok-settle_members.ensures.settles c.in_ok-settle_members.ensures.empties c.part.ensures refl refl refl keeps
