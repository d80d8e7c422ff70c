use Rattle.std.proofs.Common.{◌≡◌, ℕ, ◌<◌, length, get_or}
use Rattle.casper_map.specs.Numbers.{number_at}
use Rattle.casper_map.proofs.numbers.numbers_of.Given as goal

abbrev pub invariant-loop-place : goal.invariant-loop-place
invariant-loop-place l = record {
  long : length l.numbers ≡ 1024;
  read : (k : ℕ) → k < l.place → get_or l.numbers k 0 ≡ number_at l.bytes k;
}
