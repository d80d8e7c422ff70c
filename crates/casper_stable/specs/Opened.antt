use Rattle.std.specs.Prelude.{◌≡◌, ◌⊎◌, ℕ, Bool, List, Result, Ok, Err, MatchResult}
use Rattle.casper_disk.specs.Disk.{Elapses}
use Rattle.casper_root.specs.Opening.{opened}
use Rattle.casper_root.specs.declared.fault.OpenFault.{OpenFault}
use Rattle.casper_root.specs.declared.fault.OpenFault.TheVariants as fault
use Rattle.casper_root.specs.declared.roots.Roots.{Roots}
use Rattle.casper_map.specs.Mapped.{Mapped}
use Rattle.casper_map.specs.Reading.{opened_map}
use Rattle.casper_stable.specs.Kept.{Kept, roots_in}
use Rattle.casper_stable.specs.Opens.{Store, store_of}

-- what a store shows of itself: its sizes, its pages by the content of its disk, its version and its map
abbrev pub shown : {D : Type 0} → (D → List (List ℕ)) → Kept D → Store
shown content kept = store_of (content kept.disk) (roots_in kept) kept.held

-- a fault is the refusal that was expected, or one of the disk or of memory
abbrev pub IsRefusalOf : {T : Type 0} → Result T OpenFault → OpenFault → Type 0
IsRefusalOf expected refusal = (expected ≡ Err refusal) ⊎ (refusal ≡ fault.Disk) ⊎ (refusal ≡ fault.Memory)

-- the disk of a store, or the one that is handed back with a fault, meets a fact
abbrev pub DiskMeets : {S D : Type 0} → (S → D) → Result S (D × OpenFault) → (D → Type 0) → Type 0
DiskMeets disk_of answer fact = MatchResult answer (λ store. fact (disk_of store)) (λ refused. fact refused.0)

-- blocks open to this root and this map
pub record OpenTo (blocks : List (List ℕ)) (roots : Roots) (held : Mapped) : Type 0 where
  pub opens : opened blocks ≡ Ok roots
  pub map : opened_map blocks roots ≡ Ok held

-- what calls that write nothing add to the images since an earlier moment: those since their own start, and these agree with the
-- content but in the blocks that were loose
abbrev pub AddsNoWrites : {D : Type 0} → (D → List (List ℕ)) → (D → ℕ → Bool) → (D → ℕ) → (D → ℕ → List (List ℕ) → Type 0) → D → D → Type 0
AddsNoWrites content loose moment images_since old new =
    Elapses (moment old) (moment new) (images_since old) (images_since new) (loose old) (content old)
