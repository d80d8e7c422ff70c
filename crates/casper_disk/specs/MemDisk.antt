use Rattle.std.specs.Prelude.{◌||◌, ℕ, Bool, false, List, [], length, replicate}
use Rattle.casper_disk.specs.Disk.{none_loose}
use Rattle.casper_disk.specs.Plan.{Planned, unplanned}
use Rattle.casper_disk.specs.Record.{is_marked, loose_after, Since}
use Rattle.casper_disk.specs.declared.step.Step.{Step}

-- a disk in memory: its blocks, its writes and syncs up to now, how many of them came before the last arming, how many more it
-- has room for, the blocks of the writes that had no room, and which calls are to fail
pub record Held : Type 0 where
  pub content : List (List ℕ)
  pub steps : List Step
  pub armed : ℕ
  pub room : ℕ
  pub marks : List Bool
  pub plan : Planned

-- whether a block is loose
abbrev pub held_loose : Held → ℕ → Bool
held_loose disk at = loose_after none_loose disk.steps at || is_marked disk.marks at

-- the images that a stop at any moment since that one might have left
abbrev pub held_since : Held → ℕ → List (List ℕ) → Type 0
held_since disk past image = Since disk.steps disk.content (held_loose disk) past image

-- a disk of these blocks, none of them loose, with room for as many steps, of which no call was made
abbrev pub fresh_disk : List (List ℕ) → ℕ → Held
fresh_disk blocks room = record {
  content = blocks;
  steps = [];
  armed = 0;
  room = room;
  marks = replicate (length blocks) false;
  plan = unplanned;
}
