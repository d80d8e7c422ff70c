use Rattle.std.specs.Prelude.{◌≡◌, ◌==◌, ◌/◌, ◌%◌, ◌≤◌, ◌<◌, ℕ, Bool, true, false, List, length, map, slice_index, slice_index_or}
use Rattle.std.specs.Int.{bit_at}
use Rattle.std.specs.List.{range_with_len}

-- whether a set of frames that is kept as bits, 64 a word, has a frame
abbrev pub has_bit : List ℕ → ℕ → Bool
has_bit words frame = bit_at (slice_index words (frame / 64)) (frame % 64) == 1

-- for each of so many frames, whether the set has it
abbrev pub flags_of_bits : List ℕ → ℕ → List Bool
flags_of_bits words size = map (has_bit words) (range_with_len 0 size)

-- whether a set has a frame
abbrev pub is_member : List Bool → ℕ → Bool
is_member members frame = slice_index_or members frame false

-- the lowest frame from this one on that the set does not have
pub record IsNextFree (members : List Bool) (from frame : ℕ) : Type 0 where
  pub above : from ≤ frame
  pub within : frame < length members
  pub free : is_member members frame ≡ false
  pub lowest : (other : ℕ) → from ≤ other → other < frame → is_member members other ≡ true

-- the lowest bit from this one on that is not set
pub record IsLowestClear (word from place : ℕ) : Type 0 where
  pub above : from ≤ place
  pub within : place < 64
  pub clear : bit_at word place ≡ 0
  pub lowest : (other : ℕ) → from ≤ other → other < place → bit_at word other ≡ 1
