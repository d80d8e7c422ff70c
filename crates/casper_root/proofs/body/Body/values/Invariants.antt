use Rattle.std.proofs.Common.{◌≡◌, ℕ, ◌+◌, ◌<◌, ◌^◌, length, get_or}
use Rattle.casper_root.proofs.body.Body.values.Given as goal

abbrev pub invariant-loop-place : goal.invariant-loop-place
invariant-loop-place l = record {
  long : length l.values ≡ 18;
  seq : get_or l.values 0 0 ≡ l.self.seq;
  count : get_or l.values 1 0 ≡ length l.self.maps;
  numbers : (k : ℕ) → k < l.place → get_or l.values (k + 2) 0 ≡ get_or l.number-items k 0;
  small : (k : ℕ) → k < l.place → get_or l.number-items k 0 < 2 ^ 32;
}
