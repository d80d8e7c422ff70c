use Rattle.std.specs.Prelude.{ℕ, List, [], ◌∷◌, ◌+◌, ◌-◌, ◌/◌, map, fold, length, slice_set}
use Rattle.casper_space.specs.Rising.{rising, with_numbers}

-- a page and the words that it is to have
pub record Change : Type 0 where
  pub page : ℕ
  pub words : List ℕ

-- the room of a vault: how many frames there are, the pages that have one, the blocks of 1,024 pages whose map block
-- has one, and how many frames stand above the map blocks now, and will after the next commit
pub record VaultRoom : Type 0 where
  pub frames : ℕ
  pub pages : List ℕ
  pub blocks : List ℕ
  pub top : ℕ
  pub extra : ℕ

-- the greatest version
abbrev pub last_version : ℕ
last_version = 281474976710655

abbrev pub pages_of : List Change → List ℕ
pages_of changes = map (λ change. change.page) changes

-- the blocks of 1,024 pages in which these pages lie, rising
abbrev pub blocks_of : List ℕ → List ℕ
blocks_of pages = rising (map (λ page. page / 1024) pages)

-- how many frames a commit of these pages needs. One of no pages needs none
abbrev pub need_of : VaultRoom → List ℕ → ℕ
need_of room [] = 0
need_of room (page ∷ pages) = length (page ∷ pages) + length (blocks_of (page ∷ pages)) + room.extra

abbrev pub free_of : VaultRoom → ℕ
free_of room = room.frames - (length room.pages + length room.blocks + room.top)

-- the room after these pages were committed
abbrev pub room_after : List ℕ → VaultRoom → VaultRoom
room_after pages room = record room {
  pages = with_numbers room.pages pages;
  blocks = with_numbers room.blocks (blocks_of pages);
  top = room.extra;
}

-- an image with these changes
abbrev pub with_changes : List (List ℕ) → List Change → List (List ℕ)
with_changes image changes = fold (λ pages change. slice_set pages change.page change.words) image changes
