use Rattle.std.specs.Prelude.{◌≡◌, ℕ, Bool, List}
use Rattle.casper_disk.specs.Disk.{IsLooseWithin, KeepsImages}

-- nothing of what a disk tells has changed, but that fewer blocks may be loose
pub record IsOnlyRead {D : Type 0} (content : D → List (List ℕ)) (loose : D → ℕ → Bool) (moment : D → ℕ) (images_since : D → ℕ → List (List ℕ) → Type 0) (old new : D) : Type 0 where
  pub same_content : content new ≡ content old
  pub within_loose : IsLooseWithin (loose old) (loose new)
  pub images : KeepsImages (moment old) (moment new) (images_since old) (images_since new)
