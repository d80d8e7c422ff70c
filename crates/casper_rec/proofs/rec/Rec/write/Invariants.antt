use Rattle.std.proofs.Common.{◌≡◌, ℕ, ◌<◌, ◌^◌, drop, get_or}
use Rattle.casper_rec.specs.Values.{with_values}
use Rattle.casper_rec.proofs.rec.Rec.write.Given as goal

abbrev pub invariant-loop-place : goal.invariant-loop-place
invariant-loop-place g l = record {
  written : with_values (drop l.place l.self) (drop l.place l.values) l.into ≡ with_values l.fn.self l.fn.values l.fn.into;
  wide : (k : ℕ) → k < l.place → get_or l.values k 0 < 2 ^ 64;
}
