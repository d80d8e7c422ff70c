use Rattle.casper_text.proofs.NameLemmas.{name_of-tested}
use Rattle.casper_text.proofs.names.name.Goals as goal

pub returns-clause-name : goal.returns-clause-name
returns-clause-name c = name_of-tested c.args.word.now c.new.result c.new.ensures.exactly c.new.ensures.bytes
