use Rattle.std.specs.Prelude.{◌≡◌, ℕ, not, Bool, true, List, ◌∷◌, replicate, None, Result}
use Rattle.casper_disk.specs.Disk.{block_at}
use Rattle.casper_root.specs.Format.{header_block, body_block, zero_block, map_blocks_of}
use Rattle.casper_root.specs.Opening.{are_sizes, room_refusals}
use Rattle.casper_root.specs.Refusal.{first_refusal}
use Rattle.casper_root.specs.declared.body.Body.{Body}
use Rattle.casper_root.specs.declared.fault.OpenFault.{OpenFault}
use Rattle.casper_root.specs.declared.fault.OpenFault.TheVariants as fault
use Rattle.casper_root.specs.declared.header.Header.{Header}
use Rattle.casper_root.specs.declared.roots.Roots.{Roots}
use Rattle.casper_root.specs.declared.slot.Slot.TheVariants as slot
use Rattle.casper_map.specs.Mapped.{Mapped}
use Rattle.casper_map.specs.Numbers.{no_frame}
use Rattle.casper_map.specs.Reading.{unmapped}
use Rattle.casper_stable.specs.Kept.{Kept, roots_in}
use Rattle.casper_stable.specs.Opens.{Store}

-- what refuses a new store on a disk of so many blocks: sizes out of range, and then too few blocks
abbrev pub size_refusals : ℕ → Header → List (Bool × OpenFault)
size_refusals count header = (not (are_sizes header), fault.BadSize header.pages header.frames) ∷ room_refusals count header

-- the sizes of a new store, or the first refusal
abbrev pub sizes_on : ℕ → Header → Result Header OpenFault
sizes_on count header = first_refusal (size_refusals count header) header

-- the sizes that are asked for
abbrev pub sizes : ℕ → ℕ → Header
sizes pages frames = record { pages = pages; frames = frames }

-- the body of a new store: its sequence number is 1, and no map block has a frame
abbrev pub new_body : Header → Body
new_body header = record { seq = 1; maps = replicate (map_blocks_of header.pages) no_frame }

-- its root, which is in slot A beside a closed gate
abbrev pub new_roots : Header → Roots
new_roots header = record { header = header; slot = slot.A; body = new_body header; spare_closed = true }

-- its map, in which nothing has a frame
abbrev pub new_map : Header → Mapped
new_map header = unmapped (map_blocks_of header.pages) header.pages header.frames

-- a new store: zero pages with version 1
abbrev pub new_store : Header → Store
new_store header = record {
  header = header;
  saved = record { image = replicate header.pages (replicate 512 0); version = 1 };
  held = new_map header;
}

-- the store is a new one
pub record IsNew {D : Type 0} (header : Header) (kept : Kept D) : Type 0 where
  pub root : roots_in kept ≡ new_roots header
  pub map : kept.held ≡ new_map header
  pub sure : kept.doubt ≡ None

-- the header and body A of a new store are written, and gate B is closed
pub record IsPrepared (header : Header) (blocks : List (List ℕ)) : Type 0 where
  pub has_header : block_at blocks 0 ≡ header_block header
  pub has_body : block_at blocks 1 ≡ body_block (new_body header)
  pub closed : block_at blocks 4 ≡ zero_block
