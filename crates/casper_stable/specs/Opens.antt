use Rattle.std.specs.Prelude.{ℕ, List, map, Result, Ok, Err}
use Rattle.casper_disk.specs.Vault.{Saved}
use Rattle.casper_root.specs.declared.fault.OpenFault.{OpenFault}
use Rattle.casper_root.specs.declared.header.Header.{Header}
use Rattle.casper_root.specs.declared.roots.Roots.{Roots}
use Rattle.casper_root.specs.Opening.{opened}
use Rattle.casper_map.specs.Levels.{one_reader, page_in}
use Rattle.casper_map.specs.Mapped.{Mapped, page_frames}
use Rattle.casper_map.specs.Reading.{opened_map}

-- what blocks open to as a store: its sizes, its pages with their version, and the frames in which they stand
pub record Store : Type 0 where
  pub header : Header
  pub saved : Saved
  pub held : Mapped

-- the pages of a map, by the blocks in which they stand
abbrev pub pages_in : List (List ℕ) → Mapped → List (List ℕ)
pages_in blocks held = map (page_in one_reader blocks) (page_frames held)

-- the store of a root with its map, by the blocks of its pages
abbrev pub store_of : List (List ℕ) → Roots → Mapped → Store
store_of blocks roots held = record {
  header = roots.header;
  saved = record { image = pages_in blocks held; version = roots.body.seq };
  held = held;
}

-- the store of a root, or the refusal of its map
abbrev pub store_with : List (List ℕ) → Roots → Result Mapped OpenFault → Result Store OpenFault
store_with blocks roots (Err refusal) = Err refusal
store_with blocks roots (Ok held) = Ok (store_of blocks roots held)

-- the store of the root that was found, or its refusal
abbrev pub store_at : List (List ℕ) → Result Roots OpenFault → Result Store OpenFault
store_at blocks (Err refusal) = Err refusal
store_at blocks (Ok roots) = store_with blocks roots (opened_map blocks roots)

-- what the blocks of a disk open to as a store: the current root with its map and its pages, or the first refusal
abbrev pub opens : List (List ℕ) → Result Store OpenFault
opens blocks = store_at blocks (opened blocks)
