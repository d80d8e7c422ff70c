use Rattle.std.proofs.Common.{◌≡◌, ◌≢◌, ℕ, ◌+◌, ◌*◌, ◌/◌, ◌%◌, ◌^◌, ◌-◌, ◌<◌, ◌≤◌, Bool, true, false, List, length, replicate, get_or, set, refl, sym, ◌∙◌, ap, subst, ⊎_elim, arith}
use Rattle.std.specs.Prelude.{◌==◌, bit_or, bit_and}
use Rattle.std.specs.Int.{w64, bit_at, bit_not, trailing_ones}
use Rattle.std.proofs.lemmas.List.{ext_get_or, length-set, length-replicate, get_or-set_same, get_or-set_other, get_or-replicate, get_or_past}
use Rattle.std.proofs.lemmas.List.FromFn.{length-map-range_with_len, get_or-map-range_with_len}
use Rattle.std.proofs.lemmas.Bool.{cases_lt, cases_eq}
use Rattle.std.proofs.Math.Pow.{pow-lt}
use Rattle.std.proofs.Math.Nat.{mod-eq_of_lt, one-mul}
use Rattle.std.proofs.lemmas.Nat.{or_lt}
use Rattle.std.proofs.lemmas.Nat.Bits.{bit_at-zero, bit_at-lt, bit_at_or, bit_at_ones, bit_at_ones_above, bit_at-trailing_ones, bit_at_set_same, bit_at_set_other, bit_at_clear_same, bit_at_clear_other}
use Rattle.casper_map.specs.Bits.{has_bit, flags_of_bits, is_member, IsLowestClear, IsNextFree}

pub members_long : (words : List ℕ) (size : ℕ) → length (flags_of_bits words size) ≡ size
members_long words size = length-map-range_with_len (has_bit words) 0 size

pub member_at : (words : List ℕ) (size frame : ℕ) → frame < size → is_member (flags_of_bits words size) frame ≡ has_bit words frame
member_at words size frame within = get_or-map-range_with_len (has_bit words) 0 size frame frame false within (omega arith)

-- so many zeros
abbrev pub zeros : ℕ → List ℕ
zeros count = replicate count 0

zero_word : (count at : ℕ) → get_or (zeros count) at 0 ≡ 0
zero_word count at =
    ⊎_elim (λ within. get_or-replicate {A = ℕ} count at 0 0 within)
    (λ past. get_or_past (zeros count) at 0 (omega (arith, length-replicate {A = ℕ} count 0, past))) (cases_lt at count)

-- without a bit a set is empty
pub none_members : (count size : ℕ) → flags_of_bits (zeros count) size ≡ replicate size false
none_members count size =
    let words = zeros count in
    ext_get_or false (flags_of_bits words size) (replicate size false) (members_long words size ∙ sym (length-replicate size false))
    (λ frame within.
    let below : frame < size = omega (arith, members_long words size, within) in
    member_at words size frame below ∙ ap (λ (word : ℕ). bit_at word (frame % 64) == 1) (zero_word count (frame / 64))
    ∙ ap (λ (bit : ℕ). bit == 1) (bit_at-zero (frame % 64)) ∙ sym (get_or-replicate size frame false false below))

-- the set is empty whose words were made so
pub made_empty : (words : List ℕ) (count size : ℕ) → words ≡ zeros count → flags_of_bits words size ≡ replicate size false
made_empty words count size is = ap (λ (list : List ℕ). flags_of_bits list size) is ∙ none_members count size

-- with one word changed, of which the bit of a frame alone changed, the set differs in that frame alone
pub members_set : (words : List ℕ) (size frame word : ℕ) (member : Bool) → frame < size → frame / 64 < length words
    → (bit_at word (frame % 64) == 1) ≡ member
    → ((place : ℕ) → place < 64 → place ≢ frame % 64 → bit_at word place ≡ bit_at (get_or words (frame / 64) 0) place)
    → flags_of_bits (set words (frame / 64) word) size ≡ set (flags_of_bits words size) frame member
members_set words size frame word member below within is others =
    let new = set words (frame / 64) word in
    let old = flags_of_bits words size in
    ext_get_or false (flags_of_bits new size) (set old frame member) (members_long new size ∙ sym (members_long words size) ∙ sym (length-set old frame member))
    (λ at within_at.
    let at_below : at < size = omega (arith, members_long new size, within_at) in
    let old_long : frame < length old = omega (arith, members_long words size) in
    member_at new size at at_below ∙
    ⊎_elim
    (λ (same : at ≡ frame).
    ap (λ (f : ℕ). has_bit new f) same ∙ ap (λ (w : ℕ). bit_at w (frame % 64) == 1) (get_or-set_same words (frame / 64) word 0 within) ∙ is
    ∙ sym (ap (λ (f : ℕ). get_or (set old frame member) f false) same ∙ get_or-set_same old frame member false old_long))
    (λ (other : at ≢ frame).
    let kept : has_bit new at ≡ has_bit words at =
    ⊎_elim
    (λ (there : at / 64 ≡ frame / 64).
    let apart : at % 64 ≢ frame % 64 = omega arith in
    let lower : at % 64 < 64 = omega arith in
    ap (λ (k : ℕ). bit_at (get_or new k 0) (at % 64) == 1) there ∙ ap (λ (w : ℕ). bit_at w (at % 64) == 1) (get_or-set_same words (frame / 64) word 0 within)
    ∙ ap (λ (bit : ℕ). bit == 1) (others (at % 64) lower apart) ∙ ap (λ (k : ℕ). bit_at (get_or words k 0) (at % 64) == 1) (sym there))
    (λ (elsewhere : at / 64 ≢ frame / 64). ap (λ (w : ℕ). bit_at w (at % 64) == 1) (get_or-set_other words (frame / 64) (at / 64) word 0 elsewhere))
    (cases_eq (at / 64) (frame / 64)) in
    kept ∙ sym (member_at words size at at_below) ∙ sym (get_or-set_other old frame at member false other))
    (cases_eq at frame))

pub members_with : (words : List ℕ) (size frame : ℕ) → frame < size → frame / 64 < length words
    → flags_of_bits (set words (frame / 64) (bit_or (get_or words (frame / 64) 0) (1 * 2 ^ (frame % 64) % 2 ^ 64))) size ≡ set (flags_of_bits words size) frame true
members_with words size frame below within =
    let old = get_or words (frame / 64) 0 in
    let lower : frame % 64 < 64 = omega arith in
    members_set words size frame (bit_or old (1 * 2 ^ (frame % 64) % 2 ^ 64)) true below within
    (ap (λ (bit : ℕ). bit == 1) (bit_at_set_same w64 old (frame % 64) lower))
    (λ place place_lower other. bit_at_set_other w64 old (frame % 64) lower place other)

pub members_without : (words : List ℕ) (size frame : ℕ) → frame < size → frame / 64 < length words
    → flags_of_bits (set words (frame / 64) (bit_and (get_or words (frame / 64) 0) (bit_not w64 (1 * 2 ^ (frame % 64) % 2 ^ 64)))) size ≡ set (flags_of_bits words size) frame false
members_without words size frame below within =
    let old = get_or words (frame / 64) 0 in
    let lower : frame % 64 < 64 = omega arith in
    members_set words size frame (bit_and old (bit_not w64 (1 * 2 ^ (frame % 64) % 2 ^ 64))) false below within
    (ap (λ (bit : ℕ). bit == 1) (bit_at_clear_same w64 old (frame % 64) lower))
    (λ place place_lower other. bit_at_clear_other w64 old (frame % 64) lower place place_lower other)

-- a bit of a word whose lowest bits were filled: one of these is set, and each other is as before
filled_low : (word from place : ℕ) → place < from → bit_at (bit_or word (2 ^ from - 1)) place ≡ 1
filled_low word from place low = omega (arith, bit_at_or word (2 ^ from - 1) place, bit_at_ones from place low, bit_at-lt word place)

filled_high : (word from place : ℕ) → from ≤ place → bit_at (bit_or word (2 ^ from - 1)) place ≡ bit_at word place
filled_high word from place high = omega (arith, bit_at_or word (2 ^ from - 1) place, bit_at_ones_above from place high)

-- a shifted one is a power of two
pub shifted_one : (word from : ℕ) → from < 64 → bit_or word (1 * 2 ^ from % 2 ^ 64 - 1) ≡ bit_or word (2 ^ from - 1)
shifted_one word from within =
    let small : 2 ^ from < 2 ^ 64 = pow-lt within in
    ap (λ (power : ℕ). bit_or word (power - 1)) (ap (λ (power : ℕ). power % 2 ^ 64) (one-mul (2 ^ from)) ∙ mod-eq_of_lt small)

pub filled_fits : (word from : ℕ) → word < 2 ^ 64 → from < 64 → bit_or word (1 * 2 ^ from % 2 ^ 64 - 1) < 2 ^ 64
filled_fits word from fits within = or_lt 64 word (1 * 2 ^ from % 2 ^ 64 - 1) fits (omega arith)

-- the lowest clear bit after filled ones
pub clear_found : (word from filled : ℕ) → filled ≡ bit_or word (2 ^ from - 1) → filled < 2 ^ 64 → filled ≢ 2 ^ 64 - 1
    → IsLowestClear word from (trailing_ones w64 filled)
clear_found word from filled is below some =
    let least : filled + 1 < 2 ^ 64 = omega arith in
    let found = bit_at-trailing_ones w64 filled least in
    let place = trailing_ones w64 filled in
    let filled_at : (k : ℕ) → bit_at filled k ≡ bit_at (bit_or word (2 ^ from - 1)) k = λ k. ap (λ (f : ℕ). bit_at f k) is in
    let above : from ≤ place = ⊎_elim
    (λ (low : place < from). absurd (omega (arith, found.1, filled_at place, filled_low word from place low)))
    (λ (high : from ≤ place). high) (cases_lt place from) in
    record {
      above = above;
      within = found.0;
      clear = sym (filled_high word from place above) ∙ sym (filled_at place) ∙ found.1;
      lowest = λ other high lower. sym (filled_high word from other high) ∙ sym (filled_at other) ∙ found.2 other lower;
    }

-- where all bits are set after the lowest were filled, the others were set
pub clear_nowhere : (word from filled place : ℕ) → filled ≡ bit_or word (2 ^ from - 1) → filled ≡ 2 ^ 64 - 1 → from ≤ place → place < 64 → bit_at word place ≡ 1
clear_nowhere word from filled place is full high within =
    sym (filled_high word from place high) ∙ ap (λ (f : ℕ). bit_at f place) (sym is ∙ full) ∙ bit_at_ones 64 place within

-- the place of a frame within its word
in_word : (at place : ℕ) → place < 64 → ((at - at % 64 + place) / 64 ≡ at / 64) × ((at - at % 64 + place) % 64 ≡ place)
in_word at place within = (omega arith, omega arith)

has_bit_in : (words : List ℕ) (at place : ℕ) → place < 64 → has_bit words (at - at % 64 + place) ≡ (bit_at (get_or words (at / 64) 0) place == 1)
has_bit_in words at place within =
    let e = in_word at place within in
    ap (λ (k : ℕ). bit_at (get_or words k 0) ((at - at % 64 + place) % 64) == 1) e.0 ∙ ap (λ (k : ℕ). bit_at (get_or words (at / 64) 0) k == 1) e.1

-- a frame of the word of another is found by its place there
by_place : (at other : ℕ) → at ≤ other → other < at - at % 64 + 64 → (other ≡ at - at % 64 + other % 64) × (at % 64 ≤ other % 64)
by_place at other high low = (omega arith, omega arith)

set_in_word : (words : List ℕ) (at other : ℕ) → at ≤ other → other < at - at % 64 + 64
    → ((place : ℕ) → at % 64 ≤ place → place ≡ other % 64 → bit_at (get_or words (at / 64) 0) place ≡ 1) → has_bit words other ≡ true
set_in_word words at other high low set_there =
    let e = by_place at other high low in
    let lower : other % 64 < 64 = omega arith in
    ap (has_bit words) e.0 ∙ has_bit_in words at (other % 64) lower ∙ ap (λ (bit : ℕ). bit == 1) (set_there (other % 64) e.1 refl)

-- where the word of a place has no clear bit from there on, the set has all its frames from there on
pub word_full : (words : List ℕ) (at : ℕ) → ((place : ℕ) → at % 64 ≤ place → place < 64 → bit_at (get_or words (at / 64) 0) place ≡ 1)
    → (other : ℕ) → at ≤ other → other < at - at % 64 + 64 → has_bit words other ≡ true
word_full words at full other high low =
    let lower : other % 64 < 64 = omega arith in
    set_in_word words at other high low (λ place above is. full place above (subst (λ (k : ℕ). k < 64) (sym is) lower))

-- the frame of the lowest clear bit from a place on
pub word_clear : (words : List ℕ) (at place : ℕ) → IsLowestClear (get_or words (at / 64) 0) (at % 64) place
    → (at ≤ at - at % 64 + place) × (has_bit words (at - at % 64 + place) ≡ false)
    × ((other : ℕ) → at ≤ other → other < at - at % 64 + place → has_bit words other ≡ true)
word_clear words at place found =
    let above = found.above in
    let within = found.within in (
      omega arith,
      (has_bit_in words at place within ∙ ap (λ (bit : ℕ). bit == 1) found.clear),
      (λ other high low.
          let in_it : other < at - at % 64 + 64 = omega arith in
          let e = by_place at other high in_it in
          set_in_word words at other high in_it (λ k k_above is. found.lowest k k_above (omega (arith, e.0)))),
    )

-- what was found in the bits, said of the members
pub next_found : (words : List ℕ) (size from frame : ℕ) (members : List Bool) → flags_of_bits words size ≡ members → from ≤ frame → frame < size
    → has_bit words frame ≡ false → ((other : ℕ) → from ≤ other → other < frame → has_bit words other ≡ true) → IsNextFree members from frame
next_found words size from frame members view above within free lowest =
    subst (λ (set : List Bool). IsNextFree set from frame) view (record {
      above = above;
      within = omega (arith, members_long words size);
      free = member_at words size frame within ∙ free;
      lowest = λ other high low. member_at words size other (omega arith) ∙ lowest other high low;
    })

pub none_found : (words : List ℕ) (size from : ℕ) (members : List Bool) → flags_of_bits words size ≡ members
    → ((other : ℕ) → from ≤ other → other < size → has_bit words other ≡ true)
    → (other : ℕ) → from ≤ other → other < length members → is_member members other ≡ true
none_found words size from members view full =
    subst (λ (set : List Bool). (other : ℕ) → from ≤ other → other < length set → is_member set other ≡ true) view
    (λ other high low.
    let within : other < size = omega (arith, members_long words size, low) in
    member_at words size other within ∙ full other high within)
