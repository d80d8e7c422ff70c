use Rattle.std.proofs.Common.{ℕ, ◌+◌, List, take}
use Rattle.std.specs.Prelude.{Option}
use Rattle.casper_map.specs.Planned.{Show, AreWithin, with_moves}
use Rattle.casper_map.proofs.planning.put_moves.Given as goal

abbrev pub invariant-loop-target : goal.invariant-loop-target
invariant-loop-target l =
    (places : List (Option ℕ)) (base : ℕ) → AreWithin base places l.moves → Show places (base + l.first) l.initial.numbers
    → Show (with_moves base (take l.target-index l.moves) places) (base + l.first) l.numbers
