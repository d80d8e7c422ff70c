use Rattle.std.specs.Prelude.{ℕ}
use Rattle.casper_root.specs.declared.slot.Slot.{Slot}
use Rattle.casper_root.specs.declared.slot.Slot.TheVariants as slot

-- the block of a slot's body
abbrev pub body_place : Slot → ℕ
body_place slot.A = 1
body_place slot.B = 3

-- the block of a slot's gate
abbrev pub gate_place : Slot → ℕ
gate_place slot.A = 2
gate_place slot.B = 4

-- the other slot, that of the spare root
abbrev pub other_slot : Slot → Slot
other_slot slot.A = slot.B
other_slot slot.B = slot.A
