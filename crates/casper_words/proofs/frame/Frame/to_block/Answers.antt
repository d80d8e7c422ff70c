use Rattle.std.proofs.Common.{◌≡◌, ℕ, ◌*◌, ◌^◌, ◌<◌, length, take, drop, ◌∙◌, ap, subst, arith, below_more, length-append, length-drop}
use Rattle.std.specs.Int.{w64, to_le_bytes}
use Rattle.casper_words.specs.BlockWords.{block_of_words, words_of_block}
use Rattle.casper_words.proofs.BlockWordsLemmas.{bytes_of, one_word_more, all_words, length_front, blocks_keep_their_words, words_fill_a_block}
use Rattle.casper_words.proofs.frame.Frame.to_block.Goals as goal

pub loop-word-preserved : goal.loop-word-preserved
loop-word-preserved c =
    let words = c.args.self.now in
    let first = c.args.into.now in
    let word = c.loop-word.word in
    let long : length words ≡ 512 = c.get-value.ensures.long in
    let front : length (bytes_of (take word words)) ≡ 8 * word = length_front words word (omega arith) in
    record {
      written = one_word_more words first c.loop-word.into c.put.new.self c.to_le_bytes.result word (omega arith)
          c.loop-word.invariant.written (c.to_le_bytes.ensures ∙ ap (to_le_bytes w64) c.get-value.ensures.word) c.put.ensures.bytes;
      long = λ some. long;
      block_long = λ some. omega (arith, ap length c.loop-word.invariant.written, length-append (bytes_of (take word words)) (drop (8 * word) first), length-drop (8 * word) first);
      fits = below_more _ _ c.loop-word.invariant.fits (subst (λ (n : ℕ). n < 2 ^ 64) c.get-value.ensures.word c.get-value.type_inv);
    }

pub returns-clause-bytes : goal.returns-clause-bytes
unfolding block_of_words
returns-clause-bytes c =
    all_words c.args.self.now c.args.into.now c.loop-word.into c.loop-word.word (omega arith) (c.loop-word.invariant.long (omega arith))
    (c.loop-word.invariant.block_long (omega arith)) c.loop-word.invariant.written

pub returns-clause-back : goal.returns-clause-back
returns-clause-back c =
    ap words_of_block (returns-clause-bytes c)
    ∙ blocks_keep_their_words c.args.self.now (c.loop-word.invariant.long (omega arith)) (λ k below. c.loop-word.invariant.fits k (omega (arith, c.loop-word.invariant.long (omega arith))))

pub returns-clause-block_long : goal.returns-clause-block_long
returns-clause-block_long c =
    ap length (returns-clause-bytes c) ∙ words_fill_a_block c.args.self.now (c.loop-word.invariant.long (omega arith))
