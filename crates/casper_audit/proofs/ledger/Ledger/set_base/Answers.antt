use Rattle.std.proofs.Common.{ℕ, subst}
use Rattle.casper_audit.specs.Keeps.{SetsBoth}
use Rattle.casper_audit.proofs.OutcomeLemmas.{on_ok}
use Rattle.casper_audit.proofs.StartLemmas.{ledger_base}
use Rattle.casper_audit.proofs.ledger.Ledger.set_base.Goals as goal

pub returns : goal.returns
returns c = on_ok c.set_both.result
    (λ sets words keeps. ledger_base words c.args.base c.args.self.now c.set_both.new.self
    (subst (λ (p : ℕ). SetsBoth (record { page = p; word = c.args.base.word }) c.args.base.value c.args.self.now c.set_both.new.self) c.page.view_is sets) keeps)
    c.set_both.ensures
