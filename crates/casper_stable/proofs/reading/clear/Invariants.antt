use Rattle.std.proofs.Common.{◌≡◌, ◌<◌, ℕ, length, get_or}
use Rattle.casper_stable.proofs.reading.clear.Given as goal

abbrev pub invariant-loop-word : goal.invariant-loop-word
invariant-loop-word l = (0 < l.word → length l.into ≡ 512) × ((k : ℕ) → k < l.word → get_or l.into k 0 ≡ 0)
