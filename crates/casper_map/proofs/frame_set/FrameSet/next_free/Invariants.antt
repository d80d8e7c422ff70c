use Rattle.std.proofs.Common.{◌≡◌, ℕ, ◌-◌, ◌<◌, ◌≤◌, true}
use Rattle.casper_map.specs.Bits.{has_bit}
use Rattle.casper_map.proofs.frame_set.FrameSet.next_free.Given as goal

abbrev pub invariant-loop-at : goal.invariant-loop-at
invariant-loop-at l = record {
  above : l.from ≤ l.at;
  within : l.at ≤ l.self-inside.size;
  members : (other : ℕ) → l.from ≤ other → other < l.at → has_bit l.self-inside.words.items other ≡ true;
}

abbrev pub decreases-loop-at : goal.decreases-loop-at
decreases-loop-at l = l.self-inside.size - l.at
