use Rattle.casper_names.proofs.Naming.{named}
use Rattle.casper_names.proofs.entry.name_of.Goals as goal

pub returns : goal.returns
returns c =
    named c.new.result c.args.count c.args.first c.args.second c.args.third c.requires.some c.requires.few
    (rw (← c.bytes_of_words-bytes.ensures) c.new.ensures.exactly) (rw (← c.bytes_of_words-bytes.ensures) c.new.ensures.bytes)
