use Rattle.std.proofs.Common.{◌≡◌, replicate}
use Rattle.casper_disk.proofs.blocks.zero_blocks.Given as goal

abbrev pub invariant-loop : goal.invariant-loop
invariant-loop l = l.blocks.items ≡ replicate l.counter (replicate 4096 0)
