use Rattle.std.specs.Prelude.{ℕ, ◌+◌, ◌-◌, ◌*◌, ◌==◌, nat_lt, nat_le, nat_eq, Bool, not, ◌&&◌, List, [], ◌∷◌, ◌++◌, length, take, drop, slice_index, codes, unwrap_or, Result}
use Rattle.std.specs.List.{starts_with}
use Rattle.casper_disk.specs.Disk.{block_at}
use Rattle.casper_rec.specs.Values.{values_of}
use Rattle.casper_root.specs.Choice.{is_open, current_slot}
use Rattle.casper_root.specs.Format.{header_fields, body_fields, map_blocks_of}
use Rattle.casper_root.specs.Refusal.{first_refusal}
use Rattle.casper_root.specs.declared.body.Body.{Body}
use Rattle.casper_root.specs.declared.current_root.CurrentRoot.{CurrentRoot}
use Rattle.casper_root.specs.declared.fault.OpenFault.{OpenFault}
use Rattle.casper_root.specs.declared.fault.OpenFault.TheVariants as fault
use Rattle.casper_root.specs.declared.found.FoundBody.{FoundBody}
use Rattle.casper_root.specs.declared.found.Found.{Found}
use Rattle.casper_root.specs.declared.header.Header.{Header}
use Rattle.casper_root.specs.declared.pair.Pair.{Pair}
use Rattle.casper_root.specs.declared.roots.Roots.{Roots}
use Rattle.casper_root.specs.declared.slot.Slot.{Slot}
use Rattle.casper_root.specs.declared.slot.Slot.TheVariants as slot

-- a byte is a decimal digit
abbrev pub is_digit : ℕ → Bool
is_digit byte = nat_le 48 byte && nat_le byte 57

-- a header begins with `CASPER` and two decimal digits
abbrev pub has_name : List ℕ → Bool
has_name block = starts_with nat_eq block (codes "CASPER") && is_digit (slice_index block 6) && is_digit (slice_index block 7)

-- the number that the two digits of a header give
abbrev pub version_of : List ℕ → ℕ
version_of block = 10 * (slice_index block 6 - 48) + (slice_index block 7 - 48)

-- the sizes that a header gives
abbrev pub header_of : List ℕ → Header
header_of block = record { pages = slice_index (values_of header_fields block) 1; frames = slice_index (values_of header_fields block) 2 }

-- the sizes of a store: 1 to 16,384 pages and 2 to 65,536 frames
abbrev pub are_sizes : Header → Bool
are_sizes header = nat_le 1 header.pages && nat_le header.pages 16384 && nat_le 2 header.frames && nat_le header.frames 65536

-- what stands in the block of a body: a sequence number, a count, and 16 frame numbers
abbrev pub body_found : List ℕ → FoundBody
body_found block = record {
  seq = slice_index (values_of body_fields block) 0;
  count = slice_index (values_of body_fields block) 1;
  numbers = drop 2 (values_of body_fields block);
}

-- what stands in the blocks of the two roots
abbrev pub roots_found : List (List ℕ) → Found
roots_found blocks = record {
  gate_a = slice_index (block_at blocks 2) 0;
  gate_b = slice_index (block_at blocks 4) 0;
  body_a = body_found (block_at blocks 1);
  body_b = body_found (block_at blocks 3);
}

-- the gates and the sequence numbers
abbrev pub pair_of : Found → Pair
pair_of found = record { gate_a = found.gate_a; gate_b = found.gate_b; seq_a = found.body_a.seq; seq_b = found.body_b.seq }

-- the slot of the current root, where a gate is open
abbrev pub slot_of : Found → Slot
slot_of found = unwrap_or (current_slot found.gate_a found.gate_b found.body_a.seq found.body_b.seq) slot.A

-- what was found in the body of a slot
abbrev pub body_in : Found → Slot → FoundBody
body_in found slot.A = found.body_a
body_in found slot.B = found.body_b

-- whether the gate of the other slot is closed
abbrev pub is_spare_closed : Found → Slot → Bool
is_spare_closed found slot.A = not (is_open found.gate_b)
is_spare_closed found slot.B = not (is_open found.gate_a)

-- a body of so many map blocks: its sequence number is 1 to 281,474,976,710,655, and its count is theirs
abbrev pub is_body_with : ℕ → FoundBody → Bool
is_body_with maps body = nat_le 1 body.seq && nat_le body.seq 281474976710655 && (body.count == maps)

-- a body of a store of these pages
abbrev pub is_body_of : ℕ → FoundBody → Bool
is_body_of pages body = is_body_with (map_blocks_of pages) body

-- the body that was found
abbrev pub as_body : FoundBody → Body
as_body found = record { seq = found.seq; maps = take found.count found.numbers }

-- the current root, whatever the header is
abbrev pub current_in : Found → CurrentRoot
current_in found = record {
  slot = slot_of found;
  body = as_body (body_in found (slot_of found));
  spare_closed = is_spare_closed found (slot_of found);
}

-- the current root under a header
abbrev pub current_root : Header → Found → Roots
current_root header found = record {
  header = header;
  slot = slot_of found;
  body = as_body (body_in found (slot_of found));
  spare_closed = is_spare_closed found (slot_of found);
}

-- fewer blocks than the fixed ones
abbrev pub count_refusals : ℕ → List (Bool × OpenFault)
count_refusals count = (nat_lt count 5, fault.Short 5 count) ∷ []

-- a header that is none, or one of another version, or of sizes out of range
abbrev pub header_refusals : List ℕ → List (Bool × OpenFault)
header_refusals block =
    (not (has_name block), fault.NotAStore)
    ∷ (not (version_of block == 1), fault.Version (version_of block))
    ∷ (not (are_sizes (header_of block)), fault.BadSize (header_of block).pages (header_of block).frames)
    ∷ []

-- fewer blocks than the frames need
abbrev pub room_refusals : ℕ → Header → List (Bool × OpenFault)
room_refusals count header = (nat_lt count (5 + header.frames), fault.Short (5 + header.frames) count) ∷ []

-- a body that is none of so many map blocks
abbrev pub body_refusals : ℕ → FoundBody → List (Bool × OpenFault)
body_refusals maps body = (not (is_body_with maps body), fault.BadBody body.seq body.count) ∷ []

-- no open gate, or a current root whose body is none of so many map blocks
abbrev pub pair_refusals : ℕ → Found → List (Bool × OpenFault)
pair_refusals maps found =
    (not (is_open found.gate_a) && not (is_open found.gate_b), fault.NoRoot)
    ∷ body_refusals maps (body_in found (slot_of found))

-- the same under a header, which says how many there are
abbrev pub root_refusals : Header → Found → List (Bool × OpenFault)
root_refusals header found = pair_refusals (map_blocks_of header.pages) found

-- all refusals of the blocks of a disk, in their order
abbrev pub refusals : List (List ℕ) → List (Bool × OpenFault)
refusals blocks =
    count_refusals (length blocks)
    ++ header_refusals (block_at blocks 0)
    ++ room_refusals (length blocks) (header_of (block_at blocks 0))
    ++ root_refusals (header_of (block_at blocks 0)) (roots_found blocks)

-- what the blocks of a disk open to: the current root, or the first refusal
unfoldable pub opened : List (List ℕ) → Result Roots OpenFault
opened blocks = first_refusal (refusals blocks) (current_root (header_of (block_at blocks 0)) (roots_found blocks))
