use Rattle.std.specs.Prelude.{ℕ, List, [], cond, fold, slice_index_or, slice_set}
use Rattle.casper_trail.specs.declared.entry.Entry.{Entry}
use Rattle.casper_trail.specs.declared.item.Item.{Item}
use Rattle.casper_trail.specs.Value.{is_write}
use Rattle.casper_trail.specs.Parts.{stable_entries, stable_or_open_of}
use Rattle.casper_trail.specs.Association.{association_of}

-- an array with one word set
abbrev pub with_word : List (List ℕ) → ℕ → ℕ → ℕ → List (List ℕ)
with_word array page word value = slice_set array page (slice_set (slice_index_or array page []) word value)

-- an array after an entry
abbrev pub array_after : List (List ℕ) → Entry → List (List ℕ)
array_after array entry = cond (is_write entry.op) (with_word array entry.page entry.word entry.value) array

-- the array after these entries: each word has its value over them
abbrev pub array_of : List (List ℕ) → List Entry → List (List ℕ)
array_of base entries = fold array_after base entries

-- the array of the stable entries
abbrev pub image_of : List (List ℕ) → List Item → List (List ℕ)
image_of base items = array_of base (stable_entries items)

-- the array of the stable entries and the open ones of a client's association
abbrev pub image_with : List (List ℕ) → List Item → ℕ → List (List ℕ)
image_with base items client = array_of base (stable_or_open_of (association_of items client) items)
