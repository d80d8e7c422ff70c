use Rattle.std.specs.Prelude.{ℕ, ◌-◌, ◌≤◌, nat_eq, List, ◌∷◌, length, take, slice_get, Option, option_map}
use Rattle.std.specs.List.{IsDistinct}
use Rattle.std.specs.Map.{lookup, remove_entry, keys_of}

-- the pages that are kept, each with its frame, the page kept last first, and how many there may be
pub record Keeping : Type 0 where
  pub bound : ℕ
  pub kept : List (ℕ × List ℕ)

-- the frame of a page, where it is kept
abbrev pub frame_of : ℕ → List (ℕ × List ℕ) → Option (List ℕ)
frame_of page kept = lookup (nat_eq page) kept

-- the other pages with their frames, in their order
abbrev pub others : ℕ → List (ℕ × List ℕ) → List (ℕ × List ℕ)
others page kept = remove_entry (nat_eq page) kept

-- the page kept longest ago
abbrev pub oldest : List (ℕ × List ℕ) → Option ℕ
oldest kept = option_map (λ entry. entry.0) (slice_get kept (length kept - 1))

-- this page first with this frame, then the others in their order, as many as there may be
abbrev pub kept_with : ℕ → List ℕ → Keeping → List (ℕ × List ℕ)
kept_with page frame keeping = take keeping.bound ((page, frame) ∷ others page keeping.kept)

-- what is true of all that is kept
pub record IsSound (keeping : Keeping) : Type 0 where
  pub distinct : IsDistinct nat_eq (keys_of keeping.kept)
  pub few : length keeping.kept ≤ keeping.bound
  pub least : 8 ≤ keeping.bound
