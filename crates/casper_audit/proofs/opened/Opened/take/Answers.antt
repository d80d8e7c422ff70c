use Rattle.std.proofs.Common.{◌-◌, [], arith, ap, ◌∙◌}
use Rattle.casper_audit.proofs.OpenedLemmas.{set_lists}
use Rattle.casper_audit.proofs.opened.Opened.take.Goals as goal

pub returns-clause-left : goal.returns-clause-left
returns-clause-left c = λ client is.
    set_lists c.args.self.now.places.items (λ list. list.items) (c.number.result - 1) c.replace.new.dest [] client c.args.who
    is (omega (arith, c.number.ensures.number), omega (arith, c.number.ensures.number)) (omega arith) (omega arith)
    (ap (λ list. list.items) c.replace.ensures.after ∙ c.new.ensures.items)
