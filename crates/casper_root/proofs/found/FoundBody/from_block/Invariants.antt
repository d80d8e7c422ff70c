use Rattle.std.proofs.Common.{◌≡◌, ℕ, ◌+◌, ◌<◌, length, get_or}
use Rattle.casper_root.proofs.found.FoundBody.from_block.Given as goal

abbrev pub invariant-loop-place : goal.invariant-loop-place
invariant-loop-place l = record {
  long : length l.numbers ≡ 16;
  read : (k : ℕ) → k < l.place → get_or l.numbers k 0 ≡ get_or l.values (k + 2) 0;
}
