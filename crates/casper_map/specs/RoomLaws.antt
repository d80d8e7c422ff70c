use Rattle.std.specs.Prelude.{◌≡◌, ℕ, List, length}
use Rattle.casper_space.specs.Changes.{free_of, need_of, room_after}
use Rattle.casper_map.specs.Mapped.{Mapped, HasBlocks, AreApart, AreBelow, free_frames}
use Rattle.casper_map.specs.Planned.{Planned, IsPlan, moved, need_for, with_plan}
use Rattle.casper_map.specs.Room.{room_of}

-- where the frames of a map are in range and no two places have one frame, its room has as many free frames as the map
abbrev pub RoomsHaveTheFreeFrames : Type 0
RoomsHaveTheFreeFrames = (held : Mapped) → AreApart held.places → AreBelow held.frames held.places → free_of (room_of held) ≡ length (free_frames held)

-- a commit needs as many frames of the room as a plan takes
abbrev pub RoomsHaveTheNeed : Type 0
RoomsHaveTheNeed = (held : Mapped) (pages : List ℕ) → need_of (room_of held) pages ≡ need_for pages

-- the room of a map with a plan is the room of the map after these pages were committed
abbrev pub RoomsFollowPlans : Type 0
RoomsFollowPlans = (held : Mapped) (plan : Planned) → HasBlocks held → IsPlan held plan → room_of (with_plan plan held) ≡ room_after (moved plan.pages) (room_of held)
