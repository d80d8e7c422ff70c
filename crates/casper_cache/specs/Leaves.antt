-- How the held pages lie in memory: each page's number with its right and its words, in order of use.
use Rattle.std.specs.Prelude.{ℕ, List, map}
use Rattle.casper_cache.specs.declared.held.Held.{Held}
use Rattle.casper_cache.specs.declared.leaf.Leaf.{Leaf}

-- the entry of a page with this right and these words
abbrev pub held_of : ℕ × Leaf → Held
held_of entry = record { page = entry.0; right = entry.1.right; words = entry.1.words }

-- the entries, in the same order
abbrev pub shown : List (ℕ × Leaf) → List Held
shown entries = map held_of entries
