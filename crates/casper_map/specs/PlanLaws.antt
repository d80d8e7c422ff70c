use Rattle.std.specs.Prelude.{◌≡◌, ◌≢◌, ◌↔◌, ℕ, ◌+◌, ◌<◌, true, false, List, [], ◌∷◌, ◌++◌, length, map, All, Option, None, Some, Ok}
use Rattle.std.specs.List.Sorted.{IsStrictlyIncreasing}
use Rattle.casper_disk.specs.Disk.{AgreesBut}
use Rattle.casper_root.specs.Fitting.{AreSizes}
use Rattle.casper_root.specs.Format.{map_blocks_of}
use Rattle.casper_root.specs.declared.roots.Roots.{Roots}
use Rattle.casper_space.specs.Changes.{Change, pages_of, with_changes}
use Rattle.casper_words.specs.BlockWords.{words_of_block}
use Rattle.casper_map.specs.Faulty.{frame_at, is_faulty, first_faulty}
use Rattle.casper_map.specs.Levels.{Opened, block_in, names, free_in, one_reader}
use Rattle.casper_map.specs.MapLaws.{besides}
use Rattle.casper_map.specs.Mapped.{Mapped, page_count, block_frames, page_frames, HasBlocks, AreApart, AreBelow}
use Rattle.casper_map.specs.Numbers.{block_of_numbers}
use Rattle.casper_map.specs.Planned.{Planned, IsPlan, moved, frames_in, with_plan, map_numbers, block_numbers}
use Rattle.casper_map.specs.Reading.{opened_map, opened_pages, root_places}

-- a place is the first faulty one where it is faulty and no earlier one is
abbrev pub FirstFaultyIsFirst : Type 0
FirstFaultyIsFirst = (frames : ℕ) (places : List (Option ℕ)) (at : ℕ)
    → (first_faulty frames places ≡ Some at)
    ↔ ((at < length places) × (is_faulty frames places at ≡ true) × ((earlier : ℕ) → earlier < at → is_faulty frames places earlier ≡ false))

-- no place is faulty where the frames are in range and no two places have one frame
abbrev pub NoneIsFaulty : Type 0
NoneIsFaulty = (frames : ℕ) (places : List (Option ℕ)) → (first_faulty frames places ≡ None) ↔ (AreApart places × AreBelow frames places)

-- a plan of a map without a faulty place makes no place faulty
abbrev pub PlansAddNoFault : Type 0
PlansAddNoFault = (held : Mapped) (plan : Planned) → IsPlan held plan → first_faulty held.frames held.places ≡ None
    → first_faulty held.frames (with_plan plan held).places ≡ None

-- Blocks open to a map, and an image has a plan of that map: the words of the changes are in the new frames of their pages, the new
-- map blocks are in theirs, and each frame that the map names has the block that it had. A root names the new map blocks.
pub record IsWritten (blocks image : List (List ℕ)) (roots new : Roots) (held : Mapped) (plan : Planned) (changes : List Change) : Type 0 where
  pub sizes : AreSizes roots.header
  pub map_blocks : length roots.body.maps ≡ map_blocks_of roots.header.pages
  pub opened : opened_map blocks roots ≡ Ok held
  pub planned : IsPlan held plan
  pub pages : pages_of changes ≡ moved plan.pages
  pub words : map (λ change. change.words) changes ≡ map (λ move. words_of_block (block_in image move.1)) plan.pages
  pub maps : All (λ move. block_in image move.1 ≡ block_of_numbers (block_numbers (with_plan plan held) move.0)) plan.maps
  pub others : (frame : ℕ) → names held.places frame ≡ true → block_in image frame ≡ block_in blocks frame
  pub same_header : new.header ≡ roots.header
  pub root : new.body.maps ≡ map_numbers (with_plan plan held)

-- a map that the blocks of a root opened to: it has a place for each map block and each page, its frames are in range, and no two
-- places have one frame
pub record IsWhole (roots : Roots) (held : Mapped) : Type 0 where
  pub first_page : held.first_page ≡ length roots.body.maps
  pub pages : page_count held ≡ roots.header.pages
  pub frames : held.frames ≡ roots.header.frames
  pub blocks : HasBlocks held
  pub apart : AreApart held.places
  pub below : AreBelow held.frames held.places

-- what the blocks of a root open to is whole
abbrev pub OpenedMapsAreWhole : Type 0
OpenedMapsAreWhole = (blocks : List (List ℕ)) (roots : Roots) (held : Mapped) → length roots.body.maps ≡ map_blocks_of roots.header.pages
    → opened_map blocks roots ≡ Ok held → IsWhole roots held

-- the root of an image with a plan has as many map blocks as the one before
abbrev pub PlansKeepTheMapBlocks : Type 0
PlansKeepTheMapBlocks = (blocks image : List (List ℕ)) (roots new : Roots) (held : Mapped) (plan : Planned) (changes : List Change)
    → IsWritten blocks image roots new held plan changes → length new.body.maps ≡ length roots.body.maps

-- an image opens to the map with the plan that it has
abbrev pub PlansOpen : Type 0
PlansOpen = (blocks image : List (List ℕ)) (roots new : Roots) (held : Mapped) (plan : Planned) (changes : List Change)
    → IsWritten blocks image roots new held plan changes → opened_map image new ≡ Ok (with_plan plan held)

-- the frames of a map and these pages
abbrev pub opened_with : Mapped → List (List ℕ) → Opened
opened_with held pages = record { levels = block_frames held ∷ page_frames held ∷ []; pages = pages }

-- its pages are the old ones with the changes
abbrev pub PlansChangePages : Type 0
PlansChangePages = (blocks image : List (List ℕ)) (roots new : Roots) (held : Mapped) (plan : Planned) (changes : List Change) (old : Opened)
    → IsWritten blocks image roots new held plan changes → opened_pages blocks roots ≡ Ok old
    → opened_pages image new ≡ Ok (opened_with (with_plan plan held) (with_changes old.pages changes))

-- a page that a plan does not move keeps its frame
abbrev pub OthersStay : Type 0
OthersStay = (held : Mapped) (plan : Planned) (page : ℕ) → HasBlocks held → IsPlan held plan → All (λ other. other ≢ page) (moved plan.pages)
    → frame_at (with_plan plan held).places (held.first_page + page) ≡ frame_at held.places (held.first_page + page)

-- the frames of a plan rise, the pages' first, so that no two are equal; they are in range, and the map names none of them
pub record TakesFreeFrames (held : Mapped) (frames : List ℕ) : Type 0 where
  pub rising : IsStrictlyIncreasing frames
  pub in_range : All (λ frame. frame < held.frames) frames
  pub free : All (λ frame. names held.places frame ≡ false) frames

abbrev pub PlansTakeFreeFrames : Type 0
PlansTakeFreeFrames = (held : Mapped) (plan : Planned) → IsPlan held plan → TakesFreeFrames held (frames_in plan.pages ++ frames_in plan.maps)

-- in an image that differs from blocks in fixed blocks and in those of free frames alone, each frame that the map of the blocks names
-- has the block that it had
abbrev pub NamedFramesStay : Type 0
NamedFramesStay = (blocks image : List (List ℕ)) (roots : Roots) (held : Mapped) (frame : ℕ) → opened_map blocks roots ≡ Ok held
    → AgreesBut (besides (free_in one_reader blocks (roots.header.pages ∷ []) (root_places roots))) blocks image
    → names held.places frame ≡ true → block_in image frame ≡ block_in blocks frame
