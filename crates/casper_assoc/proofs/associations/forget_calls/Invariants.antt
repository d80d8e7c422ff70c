use Rattle.std.proofs.Common.{◌≡◌, ◌<◌, ◌≤◌, ℕ, cond, length, get_or}
use Rattle.casper_words.specs.Crew.{has_member}
use Rattle.casper_assoc.proofs.associations.forget_calls.Given as goal

-- the members among the clients so far have no count, and the others are as they were
abbrev pub invariant-loop-number : goal.invariant-loop-number
invariant-loop-number l = record {
  count : length l.open_calls ≡ length l.initial.open_calls;
  counts : (k : ℕ) → 1 ≤ k → k < l.number → get_or l.open_calls k 0 ≡ cond (has_member k l.members) 0 (get_or l.initial.open_calls k 0);
  rest : (k : ℕ) → l.number ≤ k → get_or l.open_calls k 0 ≡ get_or l.initial.open_calls k 0;
}
