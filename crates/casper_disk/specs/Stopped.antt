use Rattle.std.specs.Prelude.{ℕ, zero, suc, ◌+◌, ◌-◌, ◌&&◌, ◌||◌, Bool, min, nat_le, nat_lt, if◌then◌else◌, List, length, slice_index_or}
use Rattle.casper_disk.specs.MemDisk.{Held}
use Rattle.casper_disk.specs.Record.{is_marked, loose_at}
use Rattle.casper_disk.specs.StepKinds.{is_synced, is_written}
use Rattle.casper_disk.specs.declared.step.Step.{Step}
use Rattle.casper_disk.specs.declared.step.Step.TheVariants as step

-- the step at a place
abbrev pub step_at : List Step → ℕ → Step
step_at steps at = slice_index_or steps at step.Unsynced

-- of the first steps, how many there are up to the last sync that settled
abbrev pub settled_before : List Step → ℕ → ℕ
settled_before steps zero = 0
settled_before steps (suc at) = if is_synced (step_at steps at) then at + 1 else settled_before steps at

-- the moment of a stop within a call, counted from 1 since the last arming: a write has its bytes on the disk by then
abbrev pub stop_moment : Held → ℕ → ℕ
stop_moment disk call =
    if nat_le call (length disk.steps - disk.armed)
    then (if is_written (step_at disk.steps (disk.armed + call - 1)) then disk.armed + call else disk.armed + call - 1)
    else length disk.steps

-- the moment at which a call began, counted so too
abbrev pub began : Held → ℕ → ℕ
began disk call = min (disk.armed + call - 1) (length disk.steps)

-- whether a block is loose at a stop within a call; the writes that had no room came after all others
abbrev pub loose_within : Held → ℕ → ℕ → Bool
loose_within disk call at =
    loose_at disk.steps (stop_moment disk call) at || (nat_lt (length disk.steps - disk.armed) call && is_marked disk.marks at)
