use Rattle.std.specs.Prelude.{ℕ, Bool, not, List, Option, slice_index, option_map}
use Rattle.casper_disk.specs.Disk.{block_at}
use Rattle.casper_rec.specs.Values.{value_at}
use Rattle.casper_root.specs.Choice.{is_open, chosen}
use Rattle.casper_root.specs.Slots.{body_place, gate_place, other_slot}
use Rattle.casper_root.specs.declared.slot.Slot.{Slot}
use Rattle.casper_root.specs.declared.slot.Slot.TheVariants as slot
use Rattle.casper_commit.specs.declared.standing.Standing.{Standing}

-- a root: its slot and the block of its body
pub record Root : Type 0 where
  pub slot : Slot
  pub body : List ℕ

-- whether the gate of a slot is open
abbrev pub has_open_gate : List (List ℕ) → Slot → Bool
has_open_gate blocks at = is_open (slice_index (block_at blocks (gate_place at)) 0)

-- the block of the body of a slot
abbrev pub body_at : List (List ℕ) → Slot → List ℕ
body_at blocks at = block_at blocks (body_place at)

-- the sequence number of a body, which stands in the first eight bytes of its block
abbrev pub seq_of : List ℕ → ℕ
seq_of body = value_at body (record { offset = 0; width = 8 })

-- the slot of the current root: its gate is open, and it has the greater sequence number, A where both are equal
abbrev pub slot_in : List (List ℕ) → Option Slot
slot_in blocks =
    chosen (has_open_gate blocks slot.A) (has_open_gate blocks slot.B) (seq_of (body_at blocks slot.A)) (seq_of (body_at blocks slot.B))

-- the current root, whatever the header and the limits of its store are
abbrev pub root_in : List (List ℕ) → Option Root
root_in blocks = option_map (λ at. record { slot = at; body = body_at blocks at }) (slot_in blocks)

-- where it stands, and whether the gate beside it is closed
abbrev pub standing_in : List (List ℕ) → Option Standing
standing_in blocks = option_map (λ at. record { slot = at; spare_closed = not (has_open_gate blocks (other_slot at)) }) (slot_in blocks)
