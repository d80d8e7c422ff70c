use Rattle.std.specs.Prelude.{◌≡◌, ◌≢◌, ℕ, ◌==◌, if◌then◌else◌, List, length, None, Some}
use Rattle.casper_frames.specs.Keeping.{Keeping, frame_of, others, oldest, kept_with, IsSound}

-- a page that was kept has its frame
abbrev pub KeptHasItsFrame : Type 0
KeptHasItsFrame = (page : ℕ) (frame : List ℕ) (keeping : Keeping) → IsSound keeping → frame_of page (kept_with page frame keeping) ≡ Some frame

-- a new page finds the bound reached, and this other one was kept longest ago
pub record IsDropped (page other : ℕ) (keeping : Keeping) : Type 0 where
  pub new : frame_of page keeping.kept ≡ None
  pub full : length keeping.kept ≡ keeping.bound
  pub last : oldest keeping.kept ≡ Some other

-- that other page is kept no longer
abbrev pub DroppedIsGone : Type 0
DroppedIsGone =
    (page other : ℕ) (frame : List ℕ) (keeping : Keeping) → IsSound keeping → IsDropped page other keeping →
    frame_of other (kept_with page frame keeping) ≡ None

-- and every other page has the frame that it had
abbrev pub OthersStay : Type 0
OthersStay =
    (page other : ℕ) (frame : List ℕ) (keeping : Keeping) → IsSound keeping → other ≢ page → (IsDropped page other keeping → ⊥) →
    frame_of other (kept_with page frame keeping) ≡ frame_of other keeping.kept

-- the others are all but the page, each with its frame
abbrev pub OthersAreTheRest : Type 0
OthersAreTheRest =
    (page other : ℕ) (keeping : Keeping) → IsSound keeping →
    frame_of other (others page keeping.kept) ≡ (if page == other then None else frame_of other keeping.kept)
