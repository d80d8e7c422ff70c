use Rattle.std.proofs.Common.{◌≡◌, take}
use Rattle.casper_disk.proofs.blocks.copies.Given as goal

abbrev pub invariant-loop-block : goal.invariant-loop-block
invariant-loop-block l = l.again.items ≡ take l.block-index l.blocks
