use Rattle.std.specs.Prelude.{◌≡◌, ◌<◌, ◌≤◌, ◌^◌, ℕ, Bool, true, false, List, length, slice_index}
use Rattle.casper_disk.specs.Disk.{block_at}
use Rattle.casper_root.specs.Choice.{is_open, of_slot}
use Rattle.casper_root.specs.Fitting.{Fits}
use Rattle.casper_root.specs.Format.{zero_block, header_block, body_block, open_gate_block, map_blocks_of}
use Rattle.casper_root.specs.Opening.{roots_found}
use Rattle.casper_root.specs.Slots.{body_place, gate_place, other_slot}
use Rattle.casper_root.specs.declared.body.Body.{Body}
use Rattle.casper_root.specs.declared.header.Header.{Header}
use Rattle.casper_root.specs.declared.roots.Roots.{Roots}
use Rattle.casper_root.specs.declared.slot.Slot.{Slot}
use Rattle.casper_root.specs.declared.slot.Slot.TheVariants as slot

-- whether the gate of a slot is open
abbrev pub is_gate_open : List (List ℕ) → Slot → Bool
is_gate_open blocks at = is_open (of_slot at (roots_found blocks).gate_a (roots_found blocks).gate_b)

-- the same root, with the spare gate closed or not
abbrev pub with_spare : Bool → Roots → Roots
with_spare closed roots = record roots { spare_closed = closed }

-- the root in the other slot, whose spare is the root up to now
abbrev pub succeeded_by : Body → Roots → Roots
succeeded_by body roots = record { header = roots.header; slot = other_slot roots.slot; body = body; spare_closed = false }

-- a spare root of this number is not the current one beside a root of that number in this slot: of two equal ones A is current
abbrev pub IsBehind : Slot → ℕ → ℕ → Type 0
IsBehind slot.A spare_seq seq = spare_seq ≤ seq
IsBehind slot.B spare_seq seq = spare_seq < seq

-- the header and a root of a store were written, and its spare gate is closed
pub record IsWritten (blocks : List (List ℕ)) (roots : Roots) : Type 0 where
  pub fits : Fits (length blocks) roots
  pub numbers : (k : ℕ) → slice_index roots.body.maps k < 2 ^ 32
  pub header : block_at blocks 0 ≡ header_block roots.header
  pub body : block_at blocks (body_place roots.slot) ≡ body_block roots.body
  pub gate : block_at blocks (gate_place roots.slot) ≡ open_gate_block
  pub spare_gate : block_at blocks (gate_place (other_slot roots.slot)) ≡ zero_block
  pub spare_closed : roots.spare_closed ≡ true

-- a body is one of a store of these sizes, with a greater number than this one
pub record IsNext (header : Header) (seq : ℕ) (body : Body) : Type 0 where
  pub greater : seq < body.seq
  pub most_seq : body.seq ≤ 281474976710655
  pub maps : length body.maps ≡ map_blocks_of header.pages
  pub numbers : (k : ℕ) → slice_index body.maps k < 2 ^ 32
