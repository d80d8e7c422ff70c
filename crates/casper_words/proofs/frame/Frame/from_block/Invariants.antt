use Rattle.std.proofs.Common.{◌≡◌, ℕ, ◌<◌, length, get_or}
use Rattle.casper_words.specs.BlockWords.{word_at}
use Rattle.casper_words.proofs.frame.Frame.from_block.Given as goal

abbrev pub invariant-loop-word : goal.invariant-loop-word
invariant-loop-word l = record {
  long : length l.self-inside.words.value ≡ 512;
  read : (k : ℕ) → k < l.word → get_or l.self-inside.words.value k 0 ≡ word_at l.bytes k;
}
