use Rattle.std.specs.Prelude.{ℕ, Bool, List}
use Rattle.casper_disk.specs.Place.{Place}

-- what contracts see of a type of shelves and of its disks: whether they tell what they hold, what stands under each name, how many
-- calls failed, and of each disk how many of its calls failed, its blocks, those that are loose, its clock, and what a stop might have left of it or leaves now
pub record Shelving (H D : Type 0) : Type 1 where
  pub tells : Bool
  pub place : H → List ℕ → Place D
  pub faults : H → ℕ
  pub disk_faults : D → ℕ
  pub content : D → List (List ℕ)
  pub loose : D → ℕ → Bool
  pub moment : D → ℕ
  pub images_since : D → ℕ → List (List ℕ) → Type 0
  pub images_now : D → List (List ℕ) → Type 0

-- such a view, from its parts
abbrev pub shelving_of : {H D : Type 0} → Bool → (H → List ℕ → Place D) → (H → ℕ) → (D → ℕ) → (D → List (List ℕ)) → (D → ℕ → Bool) → (D → ℕ) → (D → ℕ → List (List ℕ) → Type 0) → (D → List (List ℕ) → Type 0) → Shelving H D
shelving_of tells place faults disk_faults content loose moment images_since images_now = record {
  tells = tells;
  place = place;
  faults = faults;
  disk_faults = disk_faults;
  content = content;
  loose = loose;
  moment = moment;
  images_since = images_since;
  images_now = images_now;
}
