use Rattle.std.proofs.Common.{ap, nat_eq}
use Rattle.std.specs.Map.{lookup}
use Rattle.casper_audit.proofs.StartLemmas.{ledger_first}
use Rattle.casper_audit.proofs.ledger.Ledger.new.Goals as goal

pub returns : goal.returns
returns c = ledger_first (record { words = c.new-2.result; writers = c.new-3.result; opened = c.in_ok-opened.opened; groups = c.new-4.result; alloc = c.args.alloc })
    c.new-2.ensures (λ page. ap (λ entries. lookup (nat_eq page) entries) c.new-3.ensures.empty) c.in_ok-opened.ensures c.new-4.ensures
