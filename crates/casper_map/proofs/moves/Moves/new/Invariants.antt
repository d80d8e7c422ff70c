use Rattle.std.proofs.Common.{◌≡◌, take}
use Rattle.casper_map.specs.Planned.{moved, frames_in}
use Rattle.casper_map.proofs.moves.Moves.new.Given as goal

abbrev pub invariant-loop-at : goal.invariant-loop-at
invariant-loop-at l = record {
  moved : moved l.list.items ≡ take l.at l.targets;
  frames : frames_in l.list.items ≡ take l.at l.frames;
}
