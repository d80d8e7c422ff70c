use Rattle.std.proofs.Common.{◌≡◌, ℕ, ◌<◌, false}
use Rattle.casper_disk.specs.Slots.{is_named_at}
use Rattle.casper_disk.proofs.slots.find.Given as goal

abbrev pub invariant-loop-at : goal.invariant-loop-at
invariant-loop-at l = (k : ℕ) → k < l.at → is_named_at l.slots.items l.name k ≡ false
