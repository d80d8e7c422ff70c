use Rattle.std.proofs.Common.{◌≡◌, ℕ, ◌<◌, ◌≤◌, [], length}
use Rattle.casper_assoc.specs.Written.{list_at}
use Rattle.casper_assoc.proofs.writers.empty_lists.Given as goal

-- the lists so far are empty and have room
abbrev pub invariant-loop-client : goal.invariant-loop-client
invariant-loop-client l = record {
  count : length l.lists.items ≡ l._client;
  none : (who : ℕ) → who < l._client → (list_at l.lists.items who).items ≡ [];
  room : (who : ℕ) → who < l._client → l.pages ≤ (list_at l.lists.items who).room;
}
