use Rattle.std.specs.Prelude.{◌≡◌, ℕ, ◌+◌, ◌-◌, ◌*◌, ◌<◌, ◌≤◌, Bool, not, List, length, take, drop, filter, count_by, is_some, Option, Some}
use Rattle.std.specs.List.{range_with_len}
use Rattle.casper_map.specs.Bits.{is_member}
use Rattle.casper_map.specs.Faulty.{frame_at}
use Rattle.casper_map.specs.Levels.{names}

-- a shadow map: the places of the map, first the map blocks and from `first_page` on the pages, each with its frame where it has
-- one, and the number of frames
pub record Mapped : Type 0 where
  pub first_page : ℕ
  pub places : List (Option ℕ)
  pub frames : ℕ

-- how many pages there are
abbrev pub page_count : Mapped → ℕ
page_count held = length held.places - held.first_page

-- the frames of the map blocks
abbrev pub block_frames : Mapped → List (Option ℕ)
block_frames held = take held.first_page held.places

-- the frames of the pages
abbrev pub page_frames : Mapped → List (Option ℕ)
page_frames held = drop held.first_page held.places

-- how many places have a frame
abbrev pub used_in : List (Option ℕ) → ℕ
used_in places = count_by is_some places

-- the frames that no place has, rising
abbrev pub free_frames : Mapped → List ℕ
free_frames held = filter (λ frame. not (names held.places frame)) (range_with_len 0 held.frames)

-- no two places have one frame
abbrev pub AreApart : List (Option ℕ) → Type 0
AreApart places = (one other frame : ℕ) → frame_at places one ≡ Some frame → frame_at places other ≡ Some frame → one ≡ other

-- each frame of the places is in range
abbrev pub AreBelow : ℕ → List (Option ℕ) → Type 0
AreBelow frames places = (at frame : ℕ) → frame_at places at ≡ Some frame → frame < frames

-- what a shadow map keeps: its sizes are in their limits, no frame is named twice, the set of named frames is right, and so is
-- their count
pub record IsShadow (first_page : ℕ) (places : List (Option ℕ)) (members : List Bool) (used : ℕ) : Type 0 where
  pub blocks : first_page ≤ length places
  pub most_blocks : first_page ≤ 16
  pub most_pages : length places ≤ first_page + 16384
  pub mapped : length places ≤ first_page + 1024 * first_page
  pub most_frames : length members ≤ 65536
  pub named : (frame : ℕ) → frame < length members → is_member members frame ≡ names places frame
  pub apart : AreApart places
  pub below : AreBelow (length members) places
  pub counted : used ≡ used_in places

-- the places of a map are map blocks and pages, with a map block for each 1,024 pages
pub record HasBlocks (held : Mapped) : Type 0 where
  pub blocks : held.first_page ≤ length held.places
  pub mapped : length held.places ≤ held.first_page + 1024 * held.first_page
