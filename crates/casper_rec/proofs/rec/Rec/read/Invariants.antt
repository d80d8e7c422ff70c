use Rattle.std.proofs.Common.{◌≡◌, ℕ, ◌<◌, ◌^◌, take, length, get_or}
use Rattle.casper_rec.specs.declared.field.Field.{Field}
use Rattle.casper_rec.specs.Values.{values_of}
use Rattle.casper_rec.proofs.rec.Rec.read.Given as goal

abbrev pub invariant-loop-place : goal.invariant-loop-place
invariant-loop-place g l = record {
  size : length l.values ≡ g.row.N;
  values : take l.place l.values ≡ values_of (take l.place l.self) l.from;
  fit : (k : ℕ) (d : Field) → k < l.place → (get_or l.self k d).width ≡ 4 → get_or l.values k 0 < 2 ^ 32;
}
