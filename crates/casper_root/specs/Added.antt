use Rattle.std.specs.Prelude.{ℕ, Bool, List}
use Rattle.casper_disk.specs.Disk.{Elapses, with_loose}

-- what writing one block adds to the images since an earlier moment: those since its own start, and these agree with the content
-- before it, but on the blocks that were loose and on that one
abbrev pub AddsWrites : {D : Type 0} → (D → List (List ℕ)) → (D → ℕ → Bool) → (D → ℕ) → (D → ℕ → List (List ℕ) → Type 0) → ℕ → D → D → Type 0
AddsWrites content loose moment images_since place old new =
    Elapses (moment old) (moment new) (images_since old) (images_since new) (with_loose place (loose old)) (content old)
