use Rattle.casper_words.proofs.BlockWordsLemmas.{blocks_keep_their_words, words_keep_their_block, words_fill_a_block}
use Rattle.casper_words.proofs.laws.block_laws.Goals as goal

pub returns-clause-words : goal.returns-clause-words
returns-clause-words c = blocks_keep_their_words

pub returns-clause-block : goal.returns-clause-block
returns-clause-block c = words_keep_their_block

pub returns-clause-long : goal.returns-clause-long
returns-clause-long c = words_fill_a_block
