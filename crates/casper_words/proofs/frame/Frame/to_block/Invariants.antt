use Rattle.std.proofs.Common.{◌≡◌, ℕ, ◌*◌, ◌^◌, ◌<◌, ◌++◌, length, take, drop, get_or}
use Rattle.casper_words.proofs.BlockWordsLemmas.{bytes_of}
use Rattle.casper_words.proofs.frame.Frame.to_block.Given as goal

abbrev pub invariant-loop-word : goal.invariant-loop-word
invariant-loop-word l = record {
  written : l.into ≡ bytes_of (take l.word l.self) ++ drop (8 * l.word) l.initial.into;
  long : 0 < l.word → length l.self ≡ 512;
  block_long : 0 < l.word → length l.initial.into ≡ 4096;
  fits : (k : ℕ) → k < l.word → get_or l.self k 0 < 2 ^ 64;
}
