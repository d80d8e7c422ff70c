use Rattle.std.specs.Prelude.{ℕ, ◌+◌, ◌-◌, ◌&&◌, ◌==◌, Bool, false, not, nat_le, List, [], ◌∷◌, ◌++◌, take, map, replicate, Option, None, Some}
use Rattle.std.specs.List.{flat_map, list_any}
use Rattle.casper_words.specs.BlockWords.{words_of_block}
use Rattle.casper_disk.specs.Disk.{block_at}
use Rattle.casper_map.specs.Numbers.{frame_in, numbers_of_block}

-- how the blocks of a format are read: the 1,024 frames in a map block, where there are any, and the words in a page's block
pub record Reader : Type 0 where
  pub entries : List ℕ → List (Option ℕ)
  pub words : List ℕ → List ℕ

-- the block of a frame, after the fixed ones
abbrev pub block_in : List (List ℕ) → ℕ → List ℕ
block_in blocks frame = block_at blocks (5 + frame)

-- what a map block with this frame names; one without a frame names none
abbrev pub entries_in : Reader → List (List ℕ) → Option ℕ → List (Option ℕ)
entries_in reader blocks None = replicate 1024 None
entries_in reader blocks (Some frame) = reader.entries (block_in blocks frame)

-- what the map blocks with these frames name, in order
abbrev pub level : Reader → List (List ℕ) → List (Option ℕ) → List (Option ℕ)
level reader blocks places = flat_map (entries_in reader blocks) places

-- the levels below these places and these places themselves, where each level has so many
abbrev pub passed : Reader → List (List ℕ) → List ℕ → List (Option ℕ) → List (List (Option ℕ))
passed reader blocks [] places = places ∷ []
passed reader blocks (count ∷ counts) places = places ∷ passed reader blocks counts (take count (level reader blocks places))

-- the lowest of these levels
abbrev pub reached : Reader → List (List ℕ) → List ℕ → List (Option ℕ) → List (Option ℕ)
reached reader blocks [] places = places
reached reader blocks (count ∷ counts) places = reached reader blocks counts (take count (level reader blocks places))

-- levels one after the other
abbrev pub joined : List (List (Option ℕ)) → List (Option ℕ)
joined [] = []
joined (places ∷ []) = places
joined (places ∷ more ∷ levels) = places ++ joined (more ∷ levels)

-- a place has this frame
abbrev pub is_frame : ℕ → Option ℕ → Bool
is_frame frame None = false
is_frame frame (Some other) = other == frame

-- some place has this frame
abbrev pub names : List (Option ℕ) → ℕ → Bool
names places frame = list_any (is_frame frame) places

-- the words of a page with this frame; one without a frame is a zero page
abbrev pub page_in : Reader → List (List ℕ) → Option ℕ → List ℕ
page_in reader blocks None = replicate 512 0
page_in reader blocks (Some frame) = reader.words (block_in blocks frame)

-- the frames of all levels, and the pages
pub record Opened : Type 0 where
  pub levels : List (List (Option ℕ))
  pub pages : List (List ℕ)

-- what the blocks hold below these places
abbrev pub array_of : Reader → List (List ℕ) → List ℕ → List (Option ℕ) → Opened
array_of reader blocks counts places = record {
  levels = passed reader blocks counts places;
  pages = map (page_in reader blocks) (reached reader blocks counts places);
}

-- whether a block belongs to a frame that no level names
abbrev pub free_in : Reader → List (List ℕ) → List ℕ → List (Option ℕ) → ℕ → Bool
free_in reader blocks counts places at = nat_le 5 at && not (names (joined (passed reader blocks counts places)) (at - 5))

-- format 1: a map block has 1,024 numbers, and a page's block its 512 words
abbrev pub one_reader : Reader
one_reader = record { entries = λ block. map frame_in (numbers_of_block block); words = words_of_block }
