use Rattle.std.specs.Prelude.{◌≡◌, ◌<◌, ℕ, Bool, IsTrue, List, [], ◌∷◌, All, Option, None, Some, Ok}
use Rattle.casper_space.specs.Changes.{last_version}
use Rattle.casper_root.specs.Fitting.{Fits}
use Rattle.casper_root.specs.Format.{body_block}
use Rattle.casper_root.specs.Opening.{opened}
use Rattle.casper_root.specs.Spare.{with_spare}
use Rattle.casper_root.specs.declared.roots.Roots.{Roots}
use Rattle.casper_commit.specs.Root.{Root, body_at}
use Rattle.casper_commit.specs.States.{StandsBeside, IsAtGate}
use Rattle.casper_map.specs.Levels.{block_in, free_in, one_reader}
use Rattle.casper_map.specs.Mapped.{Mapped}
use Rattle.casper_map.specs.Numbers.{block_of_numbers}
use Rattle.casper_map.specs.PlanLaws.{IsWhole}
use Rattle.casper_map.specs.Planned.{Planned, IsPlan, with_plan, block_numbers}
use Rattle.casper_map.specs.Reading.{opened_map, root_places}
use Rattle.casper_stable.specs.Kept.{Kept, roots_in, next_body}

-- whatever a disk tells: the sizes are in their limits and those of the map, and a plan in doubt is one of the map, with a next version
pub record IsFit (size : ℕ) (roots : Roots) (held : Mapped) (doubt : Option Planned) : Type 0 where
  pub fits : Fits size roots
  pub whole : IsWhole roots held
  pub planned : (plan : Planned) → doubt ≡ Some plan → IsPlan held plan
  pub next : (plan : Planned) → doubt ≡ Some plan → roots.body.seq < last_version

-- the blocks of the frames that the root of these blocks does not name
abbrev pub free_blocks : List (List ℕ) → Roots → ℕ → Bool
free_blocks base roots = free_in one_reader base (roots.header.pages ∷ []) (root_places roots)

-- these blocks open to this root and this map, whatever the spare gate
pub record OpensToMap (base : List (List ℕ)) (roots : Roots) (held : Mapped) : Type 0 where
  pub spare : Bool
  pub opens : opened base ≡ Ok (with_spare spare roots)
  pub map : opened_map base roots ≡ Ok held

-- the root of some blocks, in its slot
abbrev pub root_of : List (List ℕ) → Roots → Root
root_of base roots = record { slot = roots.slot; body = body_at base roots.slot }

-- without a doubt: some blocks open to the root and the map, and that root stands in what the disk holds
pub record IsSure (roots : Roots) (held : Mapped) (content : List (List ℕ)) (loose : ℕ → Bool) : Type 0 where
  pub base : List (List ℕ)
  pub opens : OpensToMap base roots held
  pub stands : StandsBeside roots.spare_closed (root_of base roots) (free_blocks base roots) base content loose

-- in doubt: some blocks open to the root and the map, beside that root stands the next one with the plan, whose gate decides, and the
-- new map blocks are in their frames
pub record IsDoubtful (roots : Roots) (held : Mapped) (plan : Planned) (content : List (List ℕ)) (loose : ℕ → Bool) : Type 0 where
  pub base : List (List ℕ)
  pub opens : OpensToMap base roots held
  pub gate : IsAtGate (root_of base roots) (body_block (next_body roots.body held plan)) (free_blocks base roots) base content content loose
  pub maps : All (λ move. block_in content move.1 ≡ block_of_numbers (block_numbers (with_plan plan held) move.0)) plan.maps

-- what the disk of a store holds
abbrev pub IsOnDisk : Roots → Mapped → Option Planned → List (List ℕ) → (ℕ → Bool) → Type 0
IsOnDisk roots held None content loose = IsSure roots held content loose
IsOnDisk roots held (Some plan) content loose = IsDoubtful roots held plan content loose

-- what each store meets, where its disk tells its content
abbrev pub IsHeld : {D : Type 0} → Bool → (D → List (List ℕ)) → (D → ℕ → Bool) → Kept D → Type 0
IsHeld tells content loose kept = IsTrue tells → IsOnDisk (roots_in kept) kept.held kept.doubt (content kept.disk) (loose kept.disk)

-- what each store meets
abbrev pub IsKept : {D : Type 0} → (D → ℕ) → Kept D → Type 0
IsKept size kept = IsFit (size kept.disk) (roots_in kept) kept.held kept.doubt
