use Rattle.casper_words.proofs.WantsLemmas.{pairs_from_rise}
use Rattle.casper_words.proofs.laws.wants_laws.Goals as goal

pub returns : goal.returns
returns c = record { lower = pairs_from_rise }
