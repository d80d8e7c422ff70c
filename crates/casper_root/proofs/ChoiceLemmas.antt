use Rattle.std.proofs.Common.{◌≡◌, ℕ, ◌<◌, ◌≤◌, Bool, true, false, refl, sym, ◌∙◌, ap, inl, inr, arith}
use Rattle.std.specs.Prelude.{Option, Some, nat_lt, not, ◌&&◌, unwrap_or}
use Rattle.std.proofs.lemmas.Bool.{cond-true, cond-false, cases_lt, lt-ltb, le-ltb}
use Rattle.casper_root.specs.Choice.{is_open, chosen, current_slot, of_slot}
use Rattle.casper_root.specs.Opening.{slot_of, body_in}
use Rattle.casper_root.specs.Spare.{IsBehind}
use Rattle.casper_root.specs.Slots.{other_slot}
use Rattle.casper_root.specs.declared.found.Found.{Found}
use Rattle.casper_root.specs.declared.slot.Slot.{Slot}
use Rattle.casper_root.specs.declared.slot.Slot.TheVariants as slot

-- the slot of the current root, where a gate is open
abbrev pub picked : Found → Option Slot
picked found = current_slot found.gate_a found.gate_b found.body_a.seq found.body_b.seq

-- whether the gate of a slot was found open
abbrev pub open_in : Found → Slot → Bool
open_in found at = is_open (of_slot at found.gate_a found.gate_b)

-- of two open gates that of the greater number
greater_of_two : (seq_a seq_b : ℕ) → seq_a < seq_b → chosen true true seq_a seq_b ≡ Some slot.B
greater_of_two seq_a seq_b less = cond-true (nat_lt seq_a seq_b) (Some slot.B) (Some slot.A) (lt-ltb seq_a seq_b less)

-- the first where it is not less
first_of_two : (seq_a seq_b : ℕ) → seq_b ≤ seq_a → chosen true true seq_a seq_b ≡ Some slot.A
first_of_two seq_a seq_b more = cond-false (nat_lt seq_a seq_b) (Some slot.B) (Some slot.A) (le-ltb seq_a seq_b more)

-- the first gate is open, and its number is not less
first_stands : (open_a open_b : Bool) (seq_a seq_b : ℕ) → open_a ≡ true → seq_b ≤ seq_a → chosen open_a open_b seq_a seq_b ≡ Some slot.A
first_stands true true seq_a seq_b is more = first_of_two seq_a seq_b more
first_stands true false seq_a seq_b is more = refl
first_stands false open_b seq_a seq_b is more = cc

-- the second gate is open, and its number is greater
second_stands : (open_a open_b : Bool) (seq_a seq_b : ℕ) → open_b ≡ true → seq_a < seq_b → chosen open_a open_b seq_a seq_b ≡ Some slot.B
second_stands true true seq_a seq_b is less = greater_of_two seq_a seq_b less
second_stands false true seq_a seq_b is less = refl
second_stands open_a false seq_a seq_b is less = cc

-- where the first was chosen of two open ones, its number is not less
first_was : (seq_a seq_b : ℕ) → chosen true true seq_a seq_b ≡ Some slot.A → seq_b ≤ seq_a
first_was seq_a seq_b is = elim (cases_lt seq_a seq_b) [
  | inl less ↦ let greater = greater_of_two seq_a seq_b less in cc
  | inr more ↦ more
]

-- where the second was, its number is greater
second_was : (seq_a seq_b : ℕ) → chosen true true seq_a seq_b ≡ Some slot.B → seq_a < seq_b
second_was seq_a seq_b is = elim (cases_lt seq_a seq_b) [
  | inl less ↦ less
  | inr more ↦ let first = first_of_two seq_a seq_b more in cc
]

-- a gate that was chosen is open
first_open : (open_a open_b : Bool) (seq_a seq_b : ℕ) → chosen open_a open_b seq_a seq_b ≡ Some slot.A → open_a ≡ true
first_open true open_b seq_a seq_b is = refl
first_open false true seq_a seq_b is = cc
first_open false false seq_a seq_b is = cc

second_open : (open_a open_b : Bool) (seq_a seq_b : ℕ) → chosen open_a open_b seq_a seq_b ≡ Some slot.B → open_b ≡ true
second_open open_a true seq_a seq_b is = refl
second_open true false seq_a seq_b is = cc
second_open false false seq_a seq_b is = cc

-- where a gate is open, a slot is chosen
some_chosen : (open_a open_b : Bool) (seq_a seq_b : ℕ) → not open_a && not open_b ≡ false → chosen open_a open_b seq_a seq_b ≡ Some (unwrap_or (chosen open_a open_b seq_a seq_b) slot.A)
some_chosen true false seq_a seq_b some = refl
some_chosen false true seq_a seq_b some = refl
some_chosen false false seq_a seq_b some = cc
some_chosen true true seq_a seq_b some = elim (cases_lt seq_a seq_b) [
  | inl less ↦ let is = greater_of_two seq_a seq_b less in cc
  | inr more ↦ let is = first_of_two seq_a seq_b more in cc
]

-- where a slot is chosen, a gate is open
some_open : (open_a open_b : Bool) (seq_a seq_b : ℕ) (at : Slot) → chosen open_a open_b seq_a seq_b ≡ Some at → not open_a && not open_b ≡ false
some_open true open_b seq_a seq_b at is = refl
some_open false true seq_a seq_b at is = refl
some_open false false seq_a seq_b at is = cc

-- a slot is picked where a gate was found open
pub picked_some : (found : Found) → not (is_open found.gate_a) && not (is_open found.gate_b) ≡ false → picked found ≡ Some (slot_of found)
picked_some found some = some_chosen (is_open found.gate_a) (is_open found.gate_b) found.body_a.seq found.body_b.seq some

-- and only there
pub picked_open : (found : Found) (at : Slot) → picked found ≡ Some at → not (is_open found.gate_a) && not (is_open found.gate_b) ≡ false
picked_open found at is = some_open (is_open found.gate_a) (is_open found.gate_b) found.body_a.seq found.body_b.seq at is

-- the gate of a slot that is picked is open
pub open_of_picked : (found : Found) (at : Slot) → picked found ≡ Some at → open_in found at ≡ true
open_of_picked found slot.A is = first_open (is_open found.gate_a) (is_open found.gate_b) found.body_a.seq found.body_b.seq is
open_of_picked found slot.B is = second_open (is_open found.gate_a) (is_open found.gate_b) found.body_a.seq found.body_b.seq is

-- a slot is picked beside a closed gate
pub picked_alone : (found : Found) (at : Slot) → open_in found at ≡ true → open_in found (other_slot at) ≡ false → picked found ≡ Some at
picked_alone found slot.A is alone = ap (λ a. chosen a (is_open found.gate_b) found.body_a.seq found.body_b.seq) is ∙ ap (λ b. chosen true b found.body_a.seq found.body_b.seq) alone
picked_alone found slot.B is alone = ap (λ b. chosen (is_open found.gate_a) b found.body_a.seq found.body_b.seq) is ∙ ap (λ a. chosen a true found.body_a.seq found.body_b.seq) alone

-- a slot is picked beside one that is behind
pub picked_before : (found : Found) (at : Slot) → open_in found at ≡ true → IsBehind at (body_in found (other_slot at)).seq (body_in found at).seq → picked found ≡ Some at
picked_before found slot.A is behind = first_stands (is_open found.gate_a) (is_open found.gate_b) found.body_a.seq found.body_b.seq is behind
picked_before found slot.B is behind = second_stands (is_open found.gate_a) (is_open found.gate_b) found.body_a.seq found.body_b.seq is behind

-- beside a slot that is picked an open one is behind
pub behind_picked : (found : Found) (at : Slot) → picked found ≡ Some at → open_in found (other_slot at) ≡ true → IsBehind at (body_in found (other_slot at)).seq (body_in found at).seq
behind_picked found slot.A is both =
    first_was found.body_a.seq found.body_b.seq
    (sym (ap (λ a. chosen a (is_open found.gate_b) found.body_a.seq found.body_b.seq) (open_of_picked found slot.A is) ∙ ap (λ b. chosen true b found.body_a.seq found.body_b.seq) both) ∙ is)
behind_picked found slot.B is both =
    second_was found.body_a.seq found.body_b.seq
    (sym (ap (λ a. chosen a (is_open found.gate_b) found.body_a.seq found.body_b.seq) both ∙ ap (λ b. chosen true b found.body_a.seq found.body_b.seq) (open_of_picked found slot.B is)) ∙ is)

-- a lesser number is behind in each slot
pub behind_of_less : (at : Slot) (spare_seq seq : ℕ) → spare_seq < seq → IsBehind at spare_seq seq
behind_of_less slot.A spare_seq seq less = omega arith
behind_of_less slot.B spare_seq seq less = less
