use Rattle.casper_audit.specs.Text.{base_of}
use Rattle.casper_audit.proofs.AuditorLemmas.{item_taken, count_entry, count_other}
use Rattle.casper_audit.proofs.auditor.Auditor.take_item.Goals as goal

pub returns-in-Entry-clause-takes : goal.returns-in-Entry-clause-takes
returns-in-Entry-clause-takes c = λ text stands.
    item_taken text c.args.item c.args.self.now c.record.new.self _ c.rule_broken.result stands c.in_default.is
    (c.rule_broken.ensures (base_of text.words) text.items stands.ledger)
    (λ exact. c.in_ok-record.ensures (base_of text.words) text.items exact stands.ledger)
    (count_entry text.items c.args.item c.in-Entry.field-0 c.args.self.now.entries c.in-Entry.is stands.entries)

pub returns-in_default-item-clause-takes : goal.returns-in_default-item-clause-takes
returns-in_default-item-clause-takes c = λ text stands.
    item_taken text c.args.item c.args.self.now c.record.new.self _ c.rule_broken.result stands c.in_default.is
    (c.rule_broken.ensures (base_of text.words) text.items stands.ledger)
    (λ exact. c.in_ok-record.ensures (base_of text.words) text.items exact stands.ledger)
    (count_other text.items c.args.item c.args.self.now.entries c.in_default-item.not-Entry stands.entries)
