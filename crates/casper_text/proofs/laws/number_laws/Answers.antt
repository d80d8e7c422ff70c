use Rattle.casper_text.proofs.NumberLemmas.{number_read_back, number_text}
use Rattle.casper_text.proofs.laws.number_laws.Goals as goal

pub returns : goal.returns
returns c = record { read_back = number_read_back; one_text = number_text }
