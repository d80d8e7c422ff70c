use Rattle.std.specs.Prelude.{◌≡◌, ◌==◌, ◌≤◌, ℕ, Bool, List}
use Rattle.casper_disk.specs.Disk.{AgreesBut, none_loose}
use Rattle.casper_root.specs.Slots.{gate_place, other_slot}
use Rattle.casper_words.specs.Count.{FaultCountRose}
use Rattle.casper_commit.specs.Added.{AddsImages}
use Rattle.casper_commit.specs.Root.{Root}
use Rattle.casper_commit.specs.States.{OpensTo, IsAlone, RootStands, root_at}
use Rattle.casper_commit.specs.declared.standing.Standing.{Standing}

-- a commit called the gate of its next root on this disk, of which a fact holds
pub record CallsGate {D : Type 0} (leads : D → D → Type 0) (faults : D → ℕ) (meets : D → Type 0) (old new : D) : Type 0 where
  pub at_gate : D
  pub before : leads old at_gate
  pub after : leads at_gate new
  pub counted : faults old ≤ faults at_gate
  pub met : meets at_gate

-- it did, and the count of faults rose at that call or at the sync after it
pub record FailsAtGate {D : Type 0} (leads : D → D → Type 0) (faults : D → ℕ) (meets : D → Type 0) (old new : D) : Type 0 where
  pub call : CallsGate leads faults meets old new
  pub rose : FaultCountRose (faults call.at_gate) (faults new)

-- As that call begins nothing is loose and the gate is closed, and each image that a stop since the commit's start might have left
-- opens to the old root. After it no block but the gate's is written.
pub record IsUntilGate {D : Type 0} (content : D → List (List ℕ)) (loose : D → ℕ → Bool) (moment : D → ℕ)
    (images_since : D → ℕ → List (List ℕ) → Type 0) (root : Root) (free : ℕ → Bool) (base : List (List ℕ)) (old at_gate new : D) : Type 0 where
  pub old_alone : AddsImages moment images_since old at_gate (OpensTo root free base)
  pub alone : IsAlone root free base (content at_gate) (loose at_gate)
  pub settled : loose at_gate ≡ none_loose
  pub gate_alone : AgreesBut (λ at. at == gate_place (other_slot root.slot)) (content at_gate) (content new)

-- so it is for each root that stood at the commit's start
abbrev pub StandsUntilGate : {D : Type 0} → (D → List (List ℕ)) → (D → ℕ → Bool) → (D → ℕ) → (D → ℕ → List (List ℕ) → Type 0)
    → Standing → D → D → D → Type 0
StandsUntilGate content loose moment images_since standing old at_gate new = (was : List ℕ) (free : ℕ → Bool) (base : List (List ℕ))
    → RootStands standing was free base (content old) (loose old)
    → IsUntilGate content loose moment images_since (root_at standing was) free base old at_gate new
