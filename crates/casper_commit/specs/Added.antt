use Rattle.std.specs.Prelude.{ℕ, List}
use Rattle.casper_disk.specs.Disk.{Took}

-- what some calls of a disk add to the images since an earlier moment: those since their own start, each of which may be so
abbrev pub AddsImages : {D : Type 0} → (D → ℕ) → (D → ℕ → List (List ℕ) → Type 0) → D → D → (List (List ℕ) → Type 0) → Type 0
AddsImages moment images_since old new may_be = Took (moment old) (moment new) (images_since old) (images_since new) may_be
