use Rattle.std.specs.Prelude.{ℕ, List, length, filter, is_some, Option}
use Rattle.std.specs.List.{range_with_len}
use Rattle.casper_space.specs.Changes.{VaultRoom}
use Rattle.casper_map.specs.Faulty.{frame_at}
use Rattle.casper_map.specs.Mapped.{Mapped, block_frames, page_frames}

-- the places that have a frame, rising
abbrev pub framed : List (Option ℕ) → List ℕ
framed places = filter (λ at. is_some (frame_at places at)) (range_with_len 0 (length places))

-- the room of a vault with this map
abbrev pub room_of : Mapped → VaultRoom
room_of held = record {
  frames = held.frames;
  pages = framed (page_frames held);
  blocks = framed (block_frames held);
  top = 0;
  extra = 0;
}
