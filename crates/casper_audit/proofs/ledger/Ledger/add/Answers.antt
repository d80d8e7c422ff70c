use Rattle.std.proofs.Common.{◌≡◌, ℕ, false, subst, ap, ⊎_elim}
use Rattle.casper_trail.specs.Value.{is_write}
use Rattle.casper_audit.specs.Keeps.{Links, Writes}
use Rattle.casper_audit.proofs.OutcomeLemmas.{on_ok}
use Rattle.casper_audit.proofs.LedgerLemmas.{ledger_linked, ledger_written}
use Rattle.casper_audit.proofs.ledger.Ledger.add.Goals as goal

pub returns-in-Write : goal.returns-in-Write
returns-in-Write c = on_ok c.add_write.result
    (λ writes base items keeps. ledger_written base items c.args.entry c.args.self.now c.link.new.self c.add_write.new.self (ap is_write c.in-Write.is) c.requires.0
    (subst (λ (p : ℕ). Links c.args.entry.who p c.args.self.now c.link.new.self) c.page.view_is c.link.ensures)
    (subst (λ (p : ℕ). Writes c.args.entry.who (record { page = p; word = c.args.entry.word }) c.args.entry.value c.link.new.self c.add_write.new.self) c.page.view_is writes) keeps)
    c.add_write.ensures

pub returns-in-Read : goal.returns-in-Read
returns-in-Read c = λ base items keeps.
    let plain : is_write c.args.entry.op ≡ false = ⊎_elim (λ e. ap is_write e) (λ e. ap is_write e) c.in-Read.is in
    ledger_linked base items c.args.entry c.args.self.now c.link.new.self plain c.requires.0
    (subst (λ (p : ℕ). Links c.args.entry.who p c.args.self.now c.link.new.self) c.page.view_is c.link.ensures) keeps
