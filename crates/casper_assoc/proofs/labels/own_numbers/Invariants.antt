use Rattle.std.proofs.Common.{◌≡◌, ℕ, ◌<◌, length, get_or}
use Rattle.casper_assoc.proofs.labels.own_numbers.Given as goal

-- the places so far have their numbers
abbrev pub invariant-loop-place : goal.invariant-loop-place
invariant-loop-place l = record {
  count : length l.labels ≡ 33;
  own : (k : ℕ) → k < l.place → get_or l.labels k 0 ≡ k;
}
