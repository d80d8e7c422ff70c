use Rattle.casper_text.proofs.ReferenceLemmas.{reference_read_back, text_of_reference}
use Rattle.casper_text.proofs.laws.reference_laws.Goals as goal

pub returns : goal.returns
returns c = record {
  read_back = λ place. reference_read_back place.page place.word;
  one_text = text_of_reference;
}
