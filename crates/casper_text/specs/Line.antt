use Rattle.std.specs.Prelude.{ℕ, ◌<◌, ◌≤◌, ◌≢◌, Bool, true, false, ◌==◌, List, [], ◌∷◌, length, filter, All}
use Rattle.std.specs.Int.{is_in_range}
use Rattle.std.specs.List.{list_all, slice_split}

-- a byte that a line may have: from the space to `~`
abbrev pub IsPrintable : ℕ → Type 0
IsPrintable byte = (0x20 ≤ byte) × (byte ≤ 0x7E)

-- the test of such a byte
abbrev pub is_printable : ℕ → Bool
is_printable byte = is_in_range 0x20 0x7E byte

-- each byte of a line may stand there
abbrev pub all_printable : List ℕ → Bool
all_printable line = list_all is_printable line

-- the byte that parts words
abbrev pub is_space : ℕ → Bool
is_space byte = byte == 32

-- a piece that holds a byte
abbrev pub is_filled : List ℕ → Bool
is_filled [] = false
is_filled (byte ∷ bytes) = true

-- the words of a line: what stands between its spaces, without the empty pieces
unfoldable pub words : List ℕ → List (List ℕ)
words line = filter is_filled (slice_split is_space line)

-- a word by itself: a byte at least, and no space
abbrev pub IsWord : List ℕ → Type 0
IsWord word = (0 < length word) × All (λ byte. byte ≢ 32) word
