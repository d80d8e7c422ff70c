use Rattle.std.proofs.Common.{◌≡◌, ℕ, ◌<◌, ◌≤◌, true, false, List, [], length, get_or-set_same, sym, ◌∙◌, ap, arith}
use Rattle.std.specs.Prelude.{Option, Some, None, slice_set, slice_index, option_map}
use Rattle.std.proofs.lemmas.Option.{none-some}
use Rattle.casper_disk.specs.Disk.{block_at}
use Rattle.casper_root.specs.Choice.{is_open}
use Rattle.casper_root.specs.Format.{zero_block, open_gate_block}
use Rattle.casper_root.specs.Opening.{roots_found}
use Rattle.casper_root.specs.Slots.{body_place, gate_place, other_slot}
use Rattle.casper_root.specs.Spare.{IsBehind}
use Rattle.casper_root.specs.declared.slot.Slot.{Slot}
use Rattle.casper_root.specs.declared.slot.Slot.TheVariants as slot
use Rattle.casper_root.proofs.ChoiceLemmas.{picked_alone, picked_before, behind_picked, open_of_picked}
use Rattle.casper_root.proofs.FormatLemmas.{gates_are_read}
use Rattle.casper_commit.specs.Root.{Root, has_open_gate, body_at, seq_of, slot_in, root_in}

-- a slot with an open gate is the current one beside a closed gate
pub slot_alone : (blocks : List (List ℕ)) (at : Slot) → has_open_gate blocks at ≡ true → has_open_gate blocks (other_slot at) ≡ false → slot_in blocks ≡ Some at
slot_alone blocks slot.A is alone = picked_alone (roots_found blocks) slot.A is alone
slot_alone blocks slot.B is alone = picked_alone (roots_found blocks) slot.B is alone

-- and beside one that is behind
pub slot_before : (blocks : List (List ℕ)) (at : Slot) → has_open_gate blocks at ≡ true
    → IsBehind at (seq_of (body_at blocks (other_slot at))) (seq_of (body_at blocks at)) → slot_in blocks ≡ Some at
slot_before blocks slot.A is behind = picked_before (roots_found blocks) slot.A is behind
slot_before blocks slot.B is behind = picked_before (roots_found blocks) slot.B is behind

-- the gate of the current slot is open
pub slot_is_open : (blocks : List (List ℕ)) (at : Slot) → slot_in blocks ≡ Some at → has_open_gate blocks at ≡ true
slot_is_open blocks slot.A is = open_of_picked (roots_found blocks) slot.A is
slot_is_open blocks slot.B is = open_of_picked (roots_found blocks) slot.B is

-- and an open one beside it is behind
pub other_is_behind : (blocks : List (List ℕ)) (at : Slot) → slot_in blocks ≡ Some at → has_open_gate blocks (other_slot at) ≡ true
    → IsBehind at (seq_of (body_at blocks (other_slot at))) (seq_of (body_at blocks at))
other_is_behind blocks slot.A is both = behind_picked (roots_found blocks) slot.A is both
other_is_behind blocks slot.B is both = behind_picked (roots_found blocks) slot.B is both

-- the current root is the current slot with its body
pub root_of_slot : (blocks : List (List ℕ)) (root : Root) → slot_in blocks ≡ Some root.slot → body_at blocks root.slot ≡ root.body → root_in blocks ≡ Some root
root_of_slot blocks root picks body =
    let found : Slot → Root = λ at. record { slot = at; body = body_at blocks at } in
    let answer : List ℕ → Option Root = λ given. Some (record { slot = root.slot; body = given }) in
    ap (option_map found) picks ∙ ap answer body

-- a slot from which a root was made
slot_of_root : (blocks : List (List ℕ)) (root : Root) (picked : Option Slot) → option_map (λ at. record { slot = at; body = body_at blocks at }) picked ≡ Some root
    → (picked ≡ Some root.slot) × (body_at blocks root.slot ≡ root.body)
slot_of_root blocks root None is = absurd (none-some root is)
slot_of_root blocks root (Some at) is =
    let made : Root = record { slot = at; body = body_at blocks at } in
    let same : made ≡ root = cc in
    let place : at ≡ root.slot = ap (λ (given : Root). given.slot) same in
    let body : body_at blocks at ≡ root.body = ap (λ (given : Root). given.body) same in
    (ap (λ (given : Slot). Some given) place, ap (body_at blocks) (sym place) ∙ body)

pub root_says : (blocks : List (List ℕ)) (root : Root) → root_in blocks ≡ Some root → (slot_in blocks ≡ Some root.slot) × (body_at blocks root.slot ≡ root.body)
root_says blocks root is = slot_of_root blocks root (slot_in blocks) is

-- a block that was written stands there
pub stands_there : (blocks after : List (List ℕ)) (place : ℕ) (block : List ℕ) → place < length blocks → after ≡ slice_set blocks place block → block_at after place ≡ block
stands_there blocks after place block within written = ap (λ (given : List (List ℕ)). block_at given place) written ∙ get_or-set_same blocks place block [] within

-- a gate that was written as open is open
pub gate_opened : (blocks : List (List ℕ)) (at : Slot) → block_at blocks (gate_place at) ≡ open_gate_block → has_open_gate blocks at ≡ true
gate_opened blocks at written = ap (λ (block : List ℕ). is_open (slice_index block 0)) written ∙ gates_are_read.0

-- a gate of zeros is closed
pub gate_closed : (blocks : List (List ℕ)) (at : Slot) → block_at blocks (gate_place at) ≡ zero_block → has_open_gate blocks at ≡ false
gate_closed blocks at zeros = ap (λ (block : List ℕ). is_open (slice_index block 0)) zeros ∙ gates_are_read.1

-- a gate that was written so in its place is open
pub written_gate : (blocks after : List (List ℕ)) (at : Slot) → gate_place at < length blocks → after ≡ slice_set blocks (gate_place at) open_gate_block → has_open_gate after at ≡ true
written_gate blocks after at within written = gate_opened after at (stands_there blocks after (gate_place at) open_gate_block within written)

-- or closed
pub closed_gate : (blocks after : List (List ℕ)) (at : Slot) → gate_place at < length blocks → after ≡ slice_set blocks (gate_place at) zero_block → has_open_gate after at ≡ false
closed_gate blocks after at within written = gate_closed after at (stands_there blocks after (gate_place at) zero_block within written)

-- the gates and the bodies are fixed blocks
pub gate_fixed : (at : Slot) (count : ℕ) → 5 ≤ count → gate_place at < count
gate_fixed slot.A count some = omega arith
gate_fixed slot.B count some = omega arith

pub body_fixed : (at : Slot) (count : ℕ) → 5 ≤ count → body_place at < count
body_fixed slot.A count some = omega arith
body_fixed slot.B count some = omega arith
