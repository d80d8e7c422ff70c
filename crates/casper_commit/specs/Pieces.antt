use Rattle.std.specs.Prelude.{◌≡◌, ℕ, ◌<◌, Bool, true, List}
use Rattle.casper_disk.specs.Disk.{block_at}

-- each piece goes into one of these blocks
abbrev pub GoInto : {P : Type 0} → (P → ℕ) → (P → ℕ → ℕ) → (ℕ → Bool) → P → Type 0
GoInto count place some pieces = (piece : ℕ) → piece < count pieces → some (place pieces piece) ≡ true

-- no two pieces go into one block
abbrev pub AreApart : {P : Type 0} → (P → ℕ) → (P → ℕ → ℕ) → P → Type 0
AreApart count place pieces =
    (one other : ℕ) → one < count pieces → other < count pieces → place pieces one ≡ place pieces other → one ≡ other

-- the first so many pieces stand in their blocks
abbrev pub HoldPieces : {P : Type 0} → (P → ℕ → ℕ) → (P → ℕ → List ℕ → Type 0) → P → ℕ → List (List ℕ) → Type 0
HoldPieces place is_piece pieces first blocks = (piece : ℕ) → piece < first → is_piece pieces piece (block_at blocks (place pieces piece))
