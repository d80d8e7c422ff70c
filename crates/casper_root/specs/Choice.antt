use Rattle.std.specs.Prelude.{◌≡◌, ◌≤◌, ◌<◌, ◌==◌, nat_lt, ℕ, Bool, true, false, Option, Some, None, if◌then◌else◌}
use Rattle.casper_root.specs.Format.{open_byte}
use Rattle.casper_root.specs.declared.slot.Slot.{Slot}
use Rattle.casper_root.specs.declared.slot.Slot.TheVariants as slot

-- a gate with this first byte is open
abbrev pub is_open : ℕ → Bool
is_open gate = gate == open_byte

-- the slot whose gate is open and which has the greater sequence number, A where both are equal
abbrev pub chosen : Bool → Bool → ℕ → ℕ → Option Slot
chosen false false seq_a seq_b = None
chosen true false seq_a seq_b = Some slot.A
chosen false true seq_a seq_b = Some slot.B
chosen true true seq_a seq_b = if nat_lt seq_a seq_b then Some slot.B else Some slot.A

-- the slot of the current root
abbrev pub current_slot : ℕ → ℕ → ℕ → ℕ → Option Slot
current_slot gate_a gate_b seq_a seq_b = chosen (is_open gate_a) (is_open gate_b) seq_a seq_b

-- the gate or the sequence number of a slot
abbrev pub of_slot : Slot → ℕ → ℕ → ℕ
of_slot slot.A in_a in_b = in_a
of_slot slot.B in_a in_b = in_b

-- the gate of the slot is open, no open gate has a greater sequence number, and B has the greater one where both are open
pub record IsCurrent (gate_a gate_b seq_a seq_b : ℕ) (current : Slot) : Type 0 where
  pub open_now : of_slot current gate_a gate_b ≡ open_byte
  pub greatest : (other : Slot) → of_slot other gate_a gate_b ≡ open_byte → of_slot other seq_a seq_b ≤ of_slot current seq_a seq_b
  pub first_of_equal : current ≡ slot.B → gate_a ≡ open_byte → seq_a < seq_b
