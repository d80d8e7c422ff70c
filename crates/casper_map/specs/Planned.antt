use Rattle.std.specs.Prelude.{◌≡◌, ℕ, ◌+◌, ◌<◌, ◌≤◌, ◌*◌, List, ◌++◌, length, take, map, fold, All, slice_set, slice_index, false, Option, Some}
use Rattle.std.specs.List.{range_with_len}
use Rattle.std.specs.List.Sorted.{IsStrictlyIncreasing}
use Rattle.casper_space.specs.Changes.{blocks_of}
use Rattle.casper_map.specs.Faulty.{frame_at, is_faulty_beside}
use Rattle.casper_map.specs.Mapped.{Mapped, page_count, block_frames, free_frames}
use Rattle.casper_map.specs.Numbers.{number_of}

-- a plan: for each changed page its new frame, and for each of their map blocks
pub record Planned : Type 0 where
  pub pages : List (ℕ × ℕ)
  pub maps : List (ℕ × ℕ)

-- what moves
abbrev pub moved : List (ℕ × ℕ) → List ℕ
moved moves = map (λ move. move.0) moves

-- where it moves to
abbrev pub frames_in : List (ℕ × ℕ) → List ℕ
frames_in moves = map (λ move. move.1) moves

-- how many frames a commit of these pages needs: one for each page, and one for each of their map blocks
abbrev pub need_for : List ℕ → ℕ
need_for pages = length pages + length (blocks_of pages)

-- a plan of a map: pages in rising order, their map blocks, and the lowest free frames in rising order, for the pages first
pub record IsPlan (held : Mapped) (plan : Planned) : Type 0 where
  pub rising : IsStrictlyIncreasing (moved plan.pages)
  pub within : All (λ page. page < page_count held) (moved plan.pages)
  pub blocks : moved plan.maps ≡ blocks_of (moved plan.pages)
  pub room : need_for (moved plan.pages) ≤ length (free_frames held)
  pub frames : frames_in plan.pages ++ frames_in plan.maps ≡ take (need_for (moved plan.pages)) (free_frames held)

-- the places with these moves, which count from a place on
abbrev pub with_moves : ℕ → List (ℕ × ℕ) → List (Option ℕ) → List (Option ℕ)
with_moves first moves places = fold (λ list move. slice_set list (first + move.0) (Some move.1)) places moves

-- the map with a plan
abbrev pub with_plan : Planned → Mapped → Mapped
with_plan plan held = record held { places = with_moves held.first_page plan.pages (with_moves 0 plan.maps held.places) }

-- the frame numbers of a root's body
abbrev pub map_numbers : Mapped → List ℕ
map_numbers held = map number_of (block_frames held)

-- the frame numbers of 1,024 pages from a map block's first page on, and after the last page those of no frame
abbrev pub block_numbers : Mapped → ℕ → List ℕ
block_numbers held block = map (λ entry. number_of (frame_at held.places (held.first_page + 1024 * block + entry))) (range_with_len 0 1024)

-- these numbers stand for the frames of the places from one on
abbrev pub Show : List (Option ℕ) → ℕ → List ℕ → Type 0
Show places from numbers = (k : ℕ) → k < length numbers → slice_index numbers k ≡ number_of (frame_at places (from + k))

-- each move is of one of the places, which count from one on
abbrev pub AreWithin : ℕ → List (Option ℕ) → List (ℕ × ℕ) → Type 0
AreWithin first places moves = All (λ move. first + move.0 < length places) moves

-- the frames of moves rise, and beside these places none of them is faulty
pub record AreNew (frames : ℕ) (places : List (Option ℕ)) (moves : List (ℕ × ℕ)) : Type 0 where
  pub rising : IsStrictlyIncreasing (frames_in moves)
  pub free : All (λ frame. is_faulty_beside frames places (Some frame) ≡ false) (frames_in moves)
