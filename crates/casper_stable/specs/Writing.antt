use Rattle.std.specs.Prelude.{◌≡◌, ◌⊎◌, ◌<◌, ◌≤◌, ℕ, ◌+◌, ◌-◌, ◌++◌, Bool, List, [], length, map, slice_index, slice_index_or}
use Rattle.casper_disk.specs.Disk.{AgreesBut}
use Rattle.casper_words.specs.BlockWords.{words_of_block}
use Rattle.casper_commit.specs.Pieces.{HoldPieces}
use Rattle.casper_commit.specs.Root.{Root}
use Rattle.casper_commit.specs.States.{OpensTo, RootStands, IsAtGate, besides, next_root, none_free}
use Rattle.casper_commit.specs.declared.standing.Standing.{Standing}
use Rattle.casper_map.specs.Mapped.{Mapped, HasBlocks}
use Rattle.casper_map.specs.Numbers.{block_of_numbers}
use Rattle.casper_map.specs.Planned.{Planned, IsPlan, moved, frames_in, with_plan, block_numbers}

-- what a commit writes into frames: a map, a plan of it, and the pages that change with their words
pub record Written : Type 0 where
  pub held : Mapped
  pub plan : Planned
  pub changes : List (ℕ × List ℕ)

-- the plan is one of the map and moves the pages that change
pub record IsWritten (written : Written) : Type 0 where
  pub planned : IsPlan written.held written.plan
  pub pages : map (λ change. change.0) written.changes ≡ moved written.plan.pages
  pub blocks : HasBlocks written.held
  pub few : written.held.frames ≤ 65536

-- how many blocks these are: one for each page, and one for each map block
abbrev pub piece_count : Written → ℕ
piece_count written = length written.plan.pages + length written.plan.maps

-- the frames of the pages, and after them those of the map blocks
abbrev pub piece_frames : Written → List ℕ
piece_frames written = frames_in written.plan.pages ++ frames_in written.plan.maps

-- the block of the disk into which one goes
abbrev pub piece_place : Written → ℕ → ℕ
piece_place written piece = 5 + slice_index (piece_frames written) piece

-- the words of a page that changes
abbrev pub page_words : Written → ℕ → List ℕ
page_words written piece = (slice_index_or {A = ℕ × List ℕ} written.changes piece (0, [])).1

-- the bytes of a map block with the plan
abbrev pub map_bytes : Written → ℕ → List ℕ
map_bytes written piece =
    let move = slice_index_or {A = ℕ × ℕ} written.plan.maps (piece - length written.plan.pages) (0, 0) in
    block_of_numbers (block_numbers (with_plan written.plan written.held) move.0)

-- these bytes are one of them: a page with its new words, or a map block with the plan
pub record IsPiece (written : Written) (piece : ℕ) (bytes : List ℕ) : Type 0 where
  pub page : piece < length written.plan.pages → words_of_block bytes ≡ page_words written piece
  pub map : length written.plan.pages ≤ piece → bytes ≡ map_bytes written piece

-- these blocks are some others but for free ones, and hold all that a commit writes
pub record HoldsWritten (written : Written) (free : ℕ → Bool) (base framed : List (List ℕ)) : Type 0 where
  pub agrees : AgreesBut (besides free) base framed
  pub holds : HoldPieces piece_place IsPiece written (piece_count written) framed

-- beside such blocks an image opens to the next root
pub record OpensToWritten (written : Written) (free : ℕ → Bool) (base : List (List ℕ)) (root : Root) (image : List (List ℕ)) : Type 0 where
  pub framed : List (List ℕ)
  pub holds : HoldsWritten written free base framed
  pub opens : OpensTo root none_free framed image

-- the image opens to the old root, or to the next one beside what was written
abbrev pub IsOldOrWritten : Written → Root → List ℕ → (ℕ → Bool) → List (List ℕ) → List (List ℕ) → Type 0
IsOldOrWritten written root body free base image =
    OpensTo root free base image ⊎ OpensToWritten written free base (next_root root.slot body) image

-- the next root stands, beside what was written
pub record NextStands (written : Written) (free : ℕ
    → Bool) (base : List (List ℕ)) (standing : Standing) (body : List ℕ) (content : List (List ℕ)) (loose : ℕ → Bool) : Type 0 where
  pub framed : List (List ℕ)
  pub holds : HoldsWritten written free base framed
  pub stands : RootStands standing body none_free framed content loose

-- the gate of the next root decides, beside what was written
pub record GateDecides (written : Written) (root : Root) (body : List ℕ) (free : ℕ → Bool) (base content : List (List ℕ)) (loose : ℕ
    → Bool) : Type 0 where
  pub framed : List (List ℕ)
  pub holds : HoldsWritten written free base framed
  pub gate : IsAtGate root body free base framed content loose
