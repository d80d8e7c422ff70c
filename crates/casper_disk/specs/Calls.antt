use Rattle.std.specs.Prelude.{◌≡◌, ◌==◌, ◌++◌, ◌+◌, ◌-◌, ℕ, ◌≤◌, Bool, true, false, Vec, List, [], ◌∷◌, length, replicate, slice_set, if◌then◌else◌}
use Rattle.casper_disk.specs.Disk.{block_at}
use Rattle.casper_disk.specs.MemDisk.{Held}
use Rattle.casper_disk.specs.Plan.{Planned, counted, with_fault, fails_next, armed_with}
use Rattle.casper_disk.specs.Record.{content_at, loose_at}
use Rattle.std.specs.declared.alloc.Global.{Global}
use Rattle.casper_disk.specs.declared.fail.Fail.{Fail}
use Rattle.casper_disk.specs.declared.fail.Kind.{Kind}
use Rattle.casper_disk.specs.declared.fail.Kind.TheVariants as kind
use Rattle.casper_disk.specs.declared.step.Step.{Step}
use Rattle.casper_disk.specs.declared.step.Step.TheVariants as step

-- the plan after a call of a kind, which fails where it is listed
abbrev pub plan_after : Kind → Planned → Planned
plan_after of_kind plan = if fails_next plan of_kind then with_fault (counted of_kind plan) else counted of_kind plan

-- a disk in memory after a read
abbrev pub after_read : Held → Held
after_read disk = record disk { plan = plan_after kind.Read disk.plan }

-- after a call of a kind that had no room, which fails
abbrev pub after_refusal : Kind → Held → Held
after_refusal of_kind disk = record disk { plan = with_fault (counted of_kind disk.plan) }

-- after a call of a kind with its step, which takes one room
abbrev pub after_step : Kind → Step → Held → Held
after_step of_kind one disk = record disk {
  steps = disk.steps ++ one ∷ [];
  room = disk.room - 1;
  plan = plan_after of_kind disk.plan;
}

-- after a write of a block: with room the bytes are there, whatever it answered, and the step has what was there before; without
-- room the block has a mark
abbrev pub after_write : ℕ → List ℕ → Held → Held
after_write at bytes disk =
    if disk.room == 0
    then record (after_refusal kind.Write disk) { marks = slice_set disk.marks at true }
    else record (after_step kind.Write (step.Wrote at (block_at disk.content at)) disk) { content = slice_set disk.content at bytes }

-- the step of a sync that failed or did not
abbrev pub sync_step : Bool → Step
sync_step failed = if failed then step.Unsynced else step.Synced

-- after a sync
abbrev pub after_sync : Held → Held
after_sync disk =
    if disk.room == 0
    then after_refusal kind.Sync disk
    else after_step kind.Sync (sync_step (fails_next disk.plan kind.Sync)) disk

-- a disk with a new record, which has room for as many calls, and after the steps one for the writes that had no room
abbrev pub after_arm : List Fail → ℕ → Vec Bool Global → Held → Held
after_arm fails calls missed disk = record {
  content = disk.content;
  steps = disk.steps ++ step.Missed missed ∷ [];
  armed = length disk.steps + 1;
  room = calls;
  marks = replicate (length disk.content) false;
  plan = armed_with fails disk.plan;
}

-- a new record began, and the marks went into its first step
pub record IsArmed (fails : List Fail) (calls : ℕ) (before after : Held) : Type 0 where
  pub missed : Vec Bool Global
  pub marked : missed.items ≡ before.marks
  pub disk : after ≡ after_arm fails calls missed before

-- a call keeps the record: the content and the loose blocks at each moment up to its start stay what they were
pub record KeepsRecord (before after : Held) : Type 0 where
  pub later : length before.steps ≤ length after.steps
  pub content : (moment : ℕ) → moment ≤ length before.steps
      → content_at after.steps after.content moment ≡ content_at before.steps before.content moment
  pub loose : (moment : ℕ) → moment ≤ length before.steps → loose_at after.steps moment ≡ loose_at before.steps moment
