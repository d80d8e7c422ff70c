-- How the kept pages lie in memory: an index from pages to keys, and the frames under these keys.
use Rattle.std.specs.Prelude.{◌≢◌, ℕ, List, [], ◌∷◌, map, IsSome, unwrap_or}
use Rattle.slab.specs.Slab.{Slab, get}

-- the frame under a key
abbrev pub frame_at : Slab (List ℕ) → ℕ → List ℕ
frame_at frames key = unwrap_or (get frames key) []

-- each page of the index with its frame
abbrev pub shown : Slab (List ℕ) → List (ℕ × ℕ) → List (ℕ × List ℕ)
shown frames index = map (λ entry. (entry.0, frame_at frames entry.1)) index

-- there is a frame under each key of the index
abbrev pub AreStored : Slab (List ℕ) → List (ℕ × ℕ) → Type 0
AreStored frames [] = Unit {0}
AreStored frames (entry ∷ rest) = IsSome (get frames entry.1) × AreStored frames rest

-- the index does not name this key
abbrev pub IsFree : ℕ → List (ℕ × ℕ) → Type 0
IsFree key [] = Unit {0}
IsFree key (entry ∷ rest) = (entry.1 ≢ key) × IsFree key rest

-- no key of the index stands twice
abbrev pub AreApart : List (ℕ × ℕ) → Type 0
AreApart [] = Unit {0}
AreApart (entry ∷ rest) = IsFree entry.1 rest × AreApart rest
