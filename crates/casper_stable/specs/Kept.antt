use Rattle.std.specs.Prelude.{ℕ, ◌+◌, List, map, Option, Some, option_map}
use Rattle.casper_space.specs.Changes.{Change, VaultRoom}
use Rattle.casper_words.specs.BlockWords.{words_of_block}
use Rattle.casper_root.specs.declared.body.Body.{Body}
use Rattle.casper_root.specs.declared.header.Header.{Header}
use Rattle.casper_root.specs.declared.roots.Roots.{Roots}
use Rattle.casper_commit.specs.declared.standing.Standing.{Standing}
use Rattle.casper_map.specs.Levels.{block_in}
use Rattle.casper_map.specs.Mapped.{Mapped, used_in}
use Rattle.casper_map.specs.Planned.{Planned, map_numbers, with_plan}
use Rattle.casper_map.specs.Room.{room_of}
use Rattle.casper_stable.specs.Opens.{pages_in}

-- what a store keeps: its disk, its sizes, where its current root stands, the body of that root, its map, and the plan that is in
-- doubt, if there is one
pub record Kept (D : Type 0) : Type 0 where
  pub disk : D
  pub header : Header
  pub standing : Standing
  pub body : Body
  pub held : Mapped
  pub doubt : Option Planned

-- the current root
abbrev pub roots_of : Header → Standing → Body → Roots
roots_of header standing body = record { header = header; slot = standing.slot; body = body; spare_closed = standing.spare_closed }

-- the root of a store
abbrev pub roots_in : {D : Type 0} → Kept D → Roots
roots_in kept = roots_of kept.header kept.standing kept.body

-- its pages, by the content of its disk
abbrev pub image_of : {D : Type 0} → (D → List (List ℕ)) → Kept D → List (List ℕ)
image_of content kept = pages_in (content kept.disk) kept.held

-- its room
abbrev pub store_room : {D : Type 0} → Kept D → Option VaultRoom
store_room kept = Some (room_of kept.held)

-- how many frames its current root names
abbrev pub used_of : {D : Type 0} → Kept D → ℕ
used_of kept = used_in kept.held.places

-- the change of a move, by the block of its new frame
abbrev pub change_written : List (List ℕ) → ℕ × ℕ → Change
change_written blocks move = record { page = move.0; words = words_of_block (block_in blocks move.1) }

-- the changes of a plan
abbrev pub changes_written : List (List ℕ) → Planned → List Change
changes_written blocks plan = map (change_written blocks) plan.pages

-- the changes that are in doubt, if there are any
abbrev pub doubt_of : {D : Type 0} → (D → List (List ℕ)) → Kept D → Option (List Change)
doubt_of content kept = option_map (changes_written (content kept.disk)) kept.doubt

-- the body of the root after a plan of this map
abbrev pub next_body : Body → Mapped → Planned → Body
next_body body held plan = record { seq = body.seq + 1; maps = map_numbers (with_plan plan held) }
