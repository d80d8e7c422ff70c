use Rattle.std.proofs.Common.{sym, ◌∙◌}
use Rattle.casper_audit.proofs.AuditorLemmas.{base_taken}
use Rattle.casper_audit.proofs.auditor.Auditor.take_base.Goals as goal

pub returns-clause-takes : goal.returns-clause-takes
returns-clause-takes c = λ text stands.
    base_taken text c.args.word.now c.args.self.now c.set_base.new.self stands c.if-self-gt0.false (sym c.rises.ensures ∙ c.if-not-rises.false) c.in_ok-set_base.ensures
