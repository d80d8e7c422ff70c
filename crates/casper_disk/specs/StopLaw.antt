use Rattle.std.specs.Prelude.{◌≡◌, ◌||◌, ℕ, ◌-◌, ◌<◌, ◌≤◌, true, false, List, length}
use Rattle.casper_disk.specs.MemDisk.{Held, held_loose}
use Rattle.casper_disk.specs.Record.{is_marked, content_at, loose_at}
use Rattle.casper_disk.specs.StepKinds.{is_synced}
use Rattle.casper_disk.specs.Stopped.{step_at, settled_before}
use Rattle.casper_disk.specs.declared.step.Step.{Step}

-- as many of the first steps as end with their last sync that settled, or none where there is no such sync
pub record EndsWithLastSync (steps : List Step) (moment settled : ℕ) : Type 0 where
  pub early : settled ≤ moment
  pub sync : 0 < settled → is_synced (step_at steps (settled - 1)) ≡ true
  pub last : (at : ℕ) → settled ≤ at → at < moment → is_synced (step_at steps at) ≡ false

-- what is settled before a moment ends with the last sync before it
abbrev pub SettledEndsWithLastSync : Type 0
SettledEndsWithLastSync = (steps : List Step) (moment : ℕ) → EndsWithLastSync steps moment (settled_before steps moment)

-- the record of a disk ends with what is now: its content, and its loose blocks but for those with a mark
pub record EndsWithNow (disk : Held) : Type 0 where
  pub content : content_at disk.steps disk.content (length disk.steps) ≡ disk.content
  pub loose : (at : ℕ) → held_loose disk at ≡ (loose_at disk.steps (length disk.steps) at || is_marked disk.marks at)

-- the record of each disk does
abbrev pub RecordsEndWithNow : Type 0
RecordsEndWithNow = (disk : Held) → EndsWithNow disk
