use Rattle.std.specs.Prelude.{◌≡◌, ◌==◌, ◌<◌, ◌*◌, ◌^◌, ℕ, List, Option, None, Some, length, drop, map, EachIndex, slice_index, if◌then◌else◌}
use Rattle.std.specs.Int.{w32, to_le_bytes, from_le_bytes}
use Rattle.std.specs.List.{flat_map, range_with_len}

-- the number that stands for no frame
abbrev pub no_frame : ℕ
no_frame = 4294967295

-- the frame that a number stands for, or none
abbrev pub frame_in : ℕ → Option ℕ
frame_in number = if number == no_frame then None else Some number

-- the number that stands for a frame or for none
abbrev pub number_of : Option ℕ → ℕ
number_of None = no_frame
number_of (Some frame) = frame

-- the bytes of numbers of four bytes, each little-endian, one number after another
unfoldable pub block_of_numbers : List ℕ → List ℕ
block_of_numbers numbers = flat_map (to_le_bytes w32) numbers

-- the number that stands little-endian at byte 4k
abbrev pub number_at : List ℕ → ℕ → ℕ
number_at bytes k = from_le_bytes w32 (drop (4 * k) bytes)

-- the 1,024 numbers of the bytes of a map block
unfoldable pub numbers_of_block : List ℕ → List ℕ
numbers_of_block bytes = map (number_at bytes) (range_with_len 0 1024)

-- the numbers of a block that was made of numbers are these numbers
abbrev pub BlocksKeepTheirNumbers : Type 0
BlocksKeepTheirNumbers = (numbers : List ℕ) → length numbers ≡ 1024 → EachIndex numbers (λ k. slice_index numbers k < 2 ^ 32)
    → numbers_of_block (block_of_numbers numbers) ≡ numbers
