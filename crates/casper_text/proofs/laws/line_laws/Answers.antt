use Rattle.casper_text.proofs.LineLemmas.{words_space}
use Rattle.casper_text.proofs.SplitLemmas.{splits_one_way, words_are_words, joined_words}
use Rattle.casper_text.proofs.laws.line_laws.Goals as goal

pub returns : goal.returns
returns c = record { one_way = splits_one_way; no_space = words_are_words; joined = joined_words; parted = words_space }
