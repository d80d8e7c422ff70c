use Rattle.std.proofs.Common.{◌≡◌, ℕ, ◌<◌, ◌≤◌, cond, nat_eq, length, get_or}
use Rattle.casper_assoc.proofs.labels.set_apart.Given as goal

-- the places so far are done, and the others are as they were
abbrev pub invariant-loop-place : goal.invariant-loop-place
invariant-loop-place l = record {
  count : length l.labels ≡ length l.initial.labels;
  own : (k : ℕ) → k < l.place → get_or l.labels k 0 ≡ cond (nat_eq (get_or l.initial.labels k 0) l.label) k (get_or l.initial.labels k 0);
  rest : (k : ℕ) → l.place ≤ k → get_or l.labels k 0 ≡ get_or l.initial.labels k 0;
}
