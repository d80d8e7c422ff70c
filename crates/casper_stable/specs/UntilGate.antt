use Rattle.std.specs.Prelude.{◌≡◌, ◌==◌, ℕ, Bool, List}
use Rattle.casper_disk.specs.Disk.{AgreesBut, Took, none_loose}
use Rattle.casper_root.specs.Slots.{gate_place, other_slot}
use Rattle.casper_commit.specs.GateMoment.{IsUntilGate}
use Rattle.casper_commit.specs.Pieces.{GoInto}
use Rattle.casper_commit.specs.States.{RootStands, root_at}
use Rattle.casper_commit.specs.declared.standing.Standing.{Standing}
use Rattle.casper_stable.specs.Kept.{Kept, image_of}
use Rattle.casper_stable.specs.Leaves.{Leaves}
use Rattle.casper_stable.specs.Writing.{Written, piece_count, piece_place}

-- what calls add to what a stop might have left is the old pages with their version
abbrev pub LeavesOldAlone : {D : Type 0} → (D → List (List ℕ)) → (D → ℕ) → (D → ℕ → List (List ℕ) → Type 0) → Kept D → D → Type 0
LeavesOldAlone content moment images_since before after =
    Took (moment before.disk) (moment after) (λ past. Leaves (images_since before.disk past)) (λ past. Leaves (images_since after past))
    (λ saved. saved ≡ record { image = image_of content before; version = before.body.seq })

-- As the gate's call of a commit begins nothing is loose, and a stop since the commit's start might have left the old pages with their
-- version alone. After it no block is written but the gate that was spare.
pub record OldUntilGate {D : Type 0} (content : D → List (List ℕ)) (loose : D → ℕ → Bool) (moment : D → ℕ)
    (images_since : D → ℕ → List (List ℕ) → Type 0) (before : Kept D) (at_gate new : D) : Type 0 where
  pub old_alone : LeavesOldAlone content moment images_since before at_gate
  pub settled : loose at_gate ≡ none_loose
  pub gate_alone : AgreesBut (λ at. at == gate_place (other_slot before.standing.slot)) (content at_gate) (content new)

-- so it is for each root that stood, where what was written went into free blocks
abbrev pub WrittenUntilGate : {D : Type 0} → (D → List (List ℕ)) → (D → ℕ → Bool) → (D → ℕ) → (D → ℕ → List (List ℕ) → Type 0)
    → Written → Standing → D → D → D → Type 0
WrittenUntilGate content loose moment images_since written standing old at_gate new = (was : List ℕ) (free : ℕ → Bool) (base : List (List ℕ))
    → GoInto piece_count piece_place free written → RootStands standing was free base (content old) (loose old)
    → IsUntilGate content loose moment images_since (root_at standing was) free base old at_gate new
