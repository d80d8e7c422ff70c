use Rattle.std.specs.Prelude.{◌≡◌, ◌≤◌, ◌+◌, ℕ, List, ◌++◌, length, Result, Ok, Err}
use Rattle.casper_disk.specs.Disk.{block_at}
use Rattle.casper_root.specs.Fitting.{AreSizes}
use Rattle.casper_root.specs.Format.{map_blocks_of}
use Rattle.casper_root.specs.Opening.{opened, count_refusals, header_refusals, room_refusals, pair_refusals, header_of, roots_found, current_in}
use Rattle.casper_root.specs.Refusal.{first_refusal}
use Rattle.casper_root.specs.declared.current_root.CurrentRoot.{CurrentRoot}
use Rattle.casper_root.specs.declared.fault.OpenFault.{OpenFault}
use Rattle.casper_root.specs.declared.header.Header.{Header}
use Rattle.casper_root.specs.declared.roots.Roots.{Roots}

-- the header of the blocks of a disk, or the first refusal that the number of the blocks and block 0 give
unfoldable pub opened_header : List (List ℕ) → Result Header OpenFault
opened_header blocks =
    first_refusal
    (count_refusals (length blocks) ++ header_refusals (block_at blocks 0) ++ room_refusals (length blocks) (header_of (block_at blocks 0)))
    (header_of (block_at blocks 0))

-- the current root of blocks, whose body has so many map blocks, or the first refusal that blocks 1 to 4 give
unfoldable pub opened_pair : ℕ → List (List ℕ) → Result CurrentRoot OpenFault
opened_pair maps blocks = first_refusal (pair_refusals maps (roots_found blocks)) (current_in (roots_found blocks))

-- a root under a header
abbrev pub under : Header → CurrentRoot → Roots
under header root = record { header = header; slot = root.slot; body = root.body; spare_closed = root.spare_closed }

-- a header and then a root under it, or the first refusal
abbrev pub root_under : Header → Result CurrentRoot OpenFault → Result Roots OpenFault
root_under header (Ok root) = Ok (under header root)
root_under header (Err refusal) = Err refusal

abbrev pub in_turn : Result Header OpenFault → (Header → Result CurrentRoot OpenFault) → Result Roots OpenFault
in_turn (Ok header) root = root_under header (root header)
in_turn (Err refusal) root = Err refusal

-- what blocks open to is their header and then their root, whose body has as many map blocks as the header says
abbrev pub OpenedInTurn : Type 0
OpenedInTurn = (blocks : List (List ℕ))
    → opened blocks ≡ in_turn (opened_header blocks) (λ header. opened_pair (map_blocks_of header.pages) blocks)

-- a header is in its limits, and a disk of so many blocks has one for each frame
pub record HasRoomFor (blocks : ℕ) (header : Header) : Type 0 where
  pub sizes : AreSizes header
  pub room : 5 + header.frames ≤ blocks

-- a root is in its limits, and has so many map blocks
pub record HasMaps (maps : ℕ) (root : CurrentRoot) : Type 0 where
  pub some_seq : 1 ≤ root.body.seq
  pub most_seq : root.body.seq ≤ 281474976710655
  pub count : length root.body.maps ≡ maps
