use Rattle.std.specs.Prelude.{Bool, true, false}
use Rattle.casper_disk.specs.declared.step.Step.{Step}
use Rattle.casper_disk.specs.declared.step.Step.TheVariants as step

-- whether a step settled all blocks
abbrev pub is_synced : Step → Bool
is_synced (step.Wrote at was) = false
is_synced step.Synced = true
is_synced step.Unsynced = false
is_synced (step.Missed marks) = false

-- whether a step wrote a block
abbrev pub is_written : Step → Bool
is_written (step.Wrote at was) = true
is_written step.Synced = false
is_written step.Unsynced = false
is_written (step.Missed marks) = false
