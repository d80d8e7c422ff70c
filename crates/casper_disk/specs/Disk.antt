use Rattle.std.specs.Prelude.{IsTrue, ◌≡◌, ◌⊎◌, ◌==◌, ◌||◌, ℕ, ◌≤◌, Bool, false, List, [], length, slice_index_or}

-- the block at a place, a list of its bytes
abbrev pub block_at : List (List ℕ) → ℕ → List ℕ
block_at blocks at = slice_index_or blocks at []

-- no block is loose
abbrev pub none_loose : ℕ → Bool
none_loose at = false

-- the loose blocks and one more
abbrev pub with_loose : ℕ → (ℕ → Bool) → ℕ → Bool
with_loose block loose at = at == block || loose at

-- each block that is loose is among these
abbrev pub IsLooseWithin : (ℕ → Bool) → (ℕ → Bool) → Type 0
IsLooseWithin most loose = (at : ℕ) → most at ≡ false → loose at ≡ false

-- the blocks are the same but where they may differ
pub record AgreesBut (may_differ : ℕ → Bool) (blocks image : List (List ℕ)) : Type 0 where
  pub count : length image ≡ length blocks
  pub same : (at : ℕ) → may_differ at ≡ false → block_at image at ≡ block_at blocks at

-- A call takes time: what a stop since an earlier moment might have left stays, and to that it adds only what a stop since its own
-- start might have left, and that may be so.
pub record Took {Image : Type 0} (before now : ℕ) (past since : ℕ → Image → Type 0) (may_be : Image → Type 0) : Type 0 where
  pub later : before ≤ now
  pub only : (moment : ℕ) (image : Image) → moment ≤ before → since moment image → past moment image ⊎ since before image
  pub keeps : (moment : ℕ) (image : Image) → moment ≤ before → past moment image → since moment image
  pub agrees : (image : Image) → since before image → may_be image

-- a call of a disk takes time, and the images that it adds agree with the blocks at its start but where they may differ
abbrev pub Elapses : ℕ → ℕ → (ℕ → List (List ℕ) → Type 0) → (ℕ → List (List ℕ) → Type 0) → (ℕ → Bool) → List (List ℕ) → Type 0
Elapses before now past since may_differ blocks = Took before now past since (AgreesBut may_differ blocks)

-- a call leaves the moment and the images since any moment
pub record KeepsImages {Image : Type 0} (before now : ℕ) (past since : ℕ → Image → Type 0) : Type 0 where
  pub moment : now ≡ before
  pub only : (moment : ℕ) (image : Image) → since moment image → past moment image
  pub keeps : (moment : ℕ) (image : Image) → past moment image → since moment image

-- what tells nothing does not tell
pub untold : IsTrue false → ⊥
untold told = cc
