use Rattle.std.proofs.Common.{◌≡◌, ℕ, ◌<◌, ◌≤◌, cond, nat_eq, length, get_or}
use Rattle.casper_assoc.proofs.labels.rename.Given as goal

-- the labels so far are renamed, and the others are as they were
abbrev pub invariant-loop-label : goal.invariant-loop-label
invariant-loop-label l = record {
  count : length l.labels ≡ length l.initial.labels;
  renamed : (k : ℕ) → k < l.label-index → get_or l.labels k 0 ≡ cond (nat_eq (get_or l.initial.labels k 0) l.b) l.a
      (get_or l.initial.labels k 0);
  rest : (k : ℕ) → l.label-index ≤ k → get_or l.labels k 0 ≡ get_or l.initial.labels k 0;
}
