use Rattle.std.proofs.Common.{◌≡◌, take}
use Rattle.casper_dir.specs.Rights.{writers_in}
use Rattle.casper_dir.proofs.directory.writers_of.Given as goal

-- the writers of the pages so far
abbrev pub invariant-loop-holders : goal.invariant-loop-holders
invariant-loop-holders l = l.writers ≡ writers_in (take l.holders-index l.pages)
