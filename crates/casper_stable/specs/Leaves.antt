use Rattle.std.specs.Prelude.{◌≡◌, ◌≤◌, ℕ, Bool, IsTrue, List, Result, Ok, Err, ⊤}
use Rattle.casper_disk.specs.Vault.{Saved}
use Rattle.casper_root.specs.declared.fault.OpenFault.{OpenFault}
use Rattle.casper_stable.specs.Opens.{Store, opens}
use Rattle.casper_stable.specs.Kept.{Kept}

-- what blocks leave that open so: their pages with their version. Blocks that are refused might leave anything, so each fact of all
-- that may be left says too that none is refused
abbrev pub IsLeftBy : Result Store OpenFault → Saved → Type 0
IsLeftBy (Ok store) saved = saved ≡ store.saved
IsLeftBy (Err refusal) saved = ⊤

-- one of these images of a disk leaves pages with this version
pub record Leaves (images : List (List ℕ) → Type 0) (saved : Saved) : Type 0 where
  pub blocks : List (List ℕ)
  pub left : images blocks
  pub leaves : IsLeftBy (opens blocks) saved

-- what each call of a store keeps: its disk leads to the later one, its sizes stay, and where the disk tells what it holds, the version
-- never falls
pub record KeptLeadsTo {D : Type 0} (tells : Bool) (leads : D → D → Type 0) (before after : Kept D) : Type 0 where
  pub disk : leads before.disk after.disk
  pub header : after.header ≡ before.header
  pub version : IsTrue tells → before.body.seq ≤ after.body.seq
