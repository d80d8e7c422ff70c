use Rattle.casper_audit.proofs.StatementLemmas.{texts_are_read_back}
use Rattle.casper_audit.proofs.WrittenLemmas.{items_are_read_back, base_words_are_read_back}
use Rattle.casper_audit.proofs.laws.text_laws.Goals as goal

pub returns : goal.returns
returns c = record { items = items_are_read_back; base = base_words_are_read_back; texts = texts_are_read_back }
