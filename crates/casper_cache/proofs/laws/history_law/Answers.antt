use Rattle.casper_cache.proofs.HistoryLemmas.{words_are_as_written}
use Rattle.casper_cache.proofs.laws.history_law.Goals as goal

pub returns : goal.returns
returns c = words_are_as_written
