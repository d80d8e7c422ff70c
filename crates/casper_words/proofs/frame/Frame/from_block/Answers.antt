use Rattle.std.proofs.Common.{ap, ◌∙◌, arith}
use Rattle.std.proofs.lemmas.List.FromFn.{fill_by_all}
use Rattle.casper_words.specs.BlockWords.{words_of_block, word_at}
use Rattle.casper_words.proofs.frame.Frame.from_block.Goals as goal

pub returns-clause-words : goal.returns-clause-words
unfolding words_of_block
returns-clause-words c =
    fill_by_all (word_at c.bytes-bytes.result.now) c.loop-word.self-inside.words.value 512 0 c.loop-word.invariant.long
    (λ k below. c.loop-word.invariant.read k (omega arith))
    ∙ ap words_of_block c.bytes-bytes.ensures.bytes
