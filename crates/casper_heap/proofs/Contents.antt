use Rattle.std.proofs.Common.{◌≡◌, ◌≢◌, ℕ, zero, suc, ◌+◌, ◌*◌, ◌/◌, ◌%◌, ◌^◌, ◌<◌, ◌≤◌, Bool, true, false, cond, List, [], ◌∷◌, map, replicate, length, refl, sym, ◌∙◌, ap, subst, arith, Option, Some, None, bit_and, bit_or}
use Rattle.std.specs.Prelude.{slice_index, slice_set, option_map}
use Rattle.std.specs.List.{range_with_len}
use Rattle.std.specs.Int.{bit_at, bit_not, w64}
use Rattle.std.proofs.Math.Nat.{mod-eq_of_lt, one-mul}
use Rattle.std.proofs.Math.Pow.{pow-lt}
use Rattle.std.proofs.lemmas.Nat.Bits.{bit_at-zero, bit_at_set_same, bit_at_set_other, bit_at_clear_same, bit_at_clear_other}
use Rattle.casper_heap.specs.Objects.{Field, Number, Reference, field_of, field_place, fields_of}
use Rattle.casper_heap.specs.HeapCalls.{with_tag, without_tag}

-- lists made by place are the same where each element is
pub made_same : {X : Type 0} (f g : ℕ → X) (from count : ℕ) → ((k : ℕ) → from ≤ k → k < from + count → f k ≡ g k)
    → map f (range_with_len from count) ≡ map g (range_with_len from count)
made_same f g from zero same = refl
made_same f g from (suc count) same =
    let one = same from (omega arith) (omega arith) in
    let rest = made_same f g (from + 1) count (λ k low high. same k (omega arith) (omega arith)) in
    cc

-- and where one element is another, they differ by that one
pub made_set : {X : Type 0} (f g : ℕ → X) (from count at : ℕ) (x : X) → at < count → g (from + at) ≡ x
    → ((k : ℕ) → from ≤ k → k < from + count → k ≢ from + at → g k ≡ f k)
    → map g (range_with_len from count) ≡ slice_set (map f (range_with_len from count)) at x
made_set f g from zero at x below is same = absurd (omega arith)
made_set f g from (suc count) zero x below is same =
    let e : from + 0 ≡ from = omega arith in
    let one : g from ≡ x = sym (ap g e) ∙ is in
    let rest = made_same g f (from + 1) count (λ k low high. same k (omega arith) (omega arith) (omega arith)) in
    cc
made_set f g from (suc count) (suc at) x below is same =
    let e : from + suc at ≡ from + 1 + at = omega arith in
    let one = same from (omega arith) (omega arith) (omega arith) in
    let rest = made_set f g (from + 1) count at x (omega arith) (sym (ap g e) ∙ is) (λ k low high ne. same k (omega arith) (omega arith) (omega arith)) in
    cc

-- a list of one element again and again
pub made_constant : {X : Type 0} (f : ℕ → X) (x : X) (from count : ℕ) → ((k : ℕ) → from ≤ k → k < from + count → f k ≡ x)
    → map f (range_with_len from count) ≡ replicate count x
made_constant f x from zero same = refl
made_constant f x from (suc count) same =
    let one = same from (omega arith) (omega arith) in
    let rest = made_constant f x (from + 1) count (λ k low high. same k (omega arith) (omega arith)) in
    cc

-- fields by the same tags and words are the same
pub fields_same : (words changed : List ℕ) (place count : ℕ) → 1 ≤ count
    → ((k : ℕ) → place < k → k < place + count + 2 → slice_index changed k ≡ slice_index words k) → fields_of changed place count ≡ fields_of words place count
fields_same words changed place count some same =
    let tags : slice_index changed (place + 1) ≡ slice_index words (place + 1) = same (place + 1) (omega arith) (omega arith) in
    made_same (λ field. field_of (bit_at (slice_index changed (place + 1)) field) (slice_index changed (field_place place field)))
    (λ field. field_of (bit_at (slice_index words (place + 1)) field) (slice_index words (field_place place field))) 0 count
    (λ k _ high.
    ap (λ (tags : ℕ). field_of (bit_at tags k) (slice_index changed (field_place place k))) tags
    ∙ ap (λ (value : ℕ). field_of (bit_at (slice_index words (place + 1)) k) value) (same (field_place place k) (omega arith) (omega arith)))

-- fields of which one, with its tag, was stored
pub fields_stored : (words changed : List ℕ) (place count at : ℕ) (content : Field) → at < count
    → field_of (bit_at (slice_index changed (place + 1)) at) (slice_index changed (field_place place at)) ≡ content
    → ((k : ℕ) → k < count → k ≢ at → bit_at (slice_index changed (place + 1)) k ≡ bit_at (slice_index words (place + 1)) k)
    → ((k : ℕ) → k < count → k ≢ at → slice_index changed (field_place place k) ≡ slice_index words (field_place place k))
    → fields_of changed place count ≡ slice_set (fields_of words place count) at content
fields_stored words changed place count at content below is tags same =
    let e : 0 + at ≡ at = omega arith in
    made_set (λ field. field_of (bit_at (slice_index words (place + 1)) field) (slice_index words (field_place place field)))
    (λ field. field_of (bit_at (slice_index changed (place + 1)) field) (slice_index changed (field_place place field))) 0 count at content below
    (ap (λ (k : ℕ). field_of (bit_at (slice_index changed (place + 1)) k) (slice_index changed (field_place place k))) e ∙ is)
    (λ k _ high ne.
    ap (λ (tag : ℕ). field_of tag (slice_index changed (field_place place k))) (tags k (omega arith) (omega arith))
    ∙ ap (λ (value : ℕ). field_of (bit_at (slice_index words (place + 1)) k) value) (same k (omega arith) (omega arith)))

-- fields of zeros are the number 0
pub fields_zero : (changed : List ℕ) (place count : ℕ) → slice_index changed (place + 1) ≡ 0
    → ((k : ℕ) → k < count → slice_index changed (field_place place k) ≡ 0) → fields_of changed place count ≡ replicate count (Number 0)
fields_zero changed place count tags zeros =
    made_constant (λ field. field_of (bit_at (slice_index changed (place + 1)) field) (slice_index changed (field_place place field))) (Number 0) 0 count
    (λ k _ high.
    ap (λ (tags : ℕ). field_of (bit_at tags k) (slice_index changed (field_place place k))) tags
    ∙ ap (λ (tag : ℕ). field_of tag (slice_index changed (field_place place k))) (bit_at-zero k)
    ∙ ap (λ (value : ℕ). field_of 0 value) (zeros k (omega arith)))

-- what a bit of a tag word is after one was set or cleared
shifted : (at : ℕ) → at < 64 → 1 * 2 ^ at % 2 ^ 64 ≡ 2 ^ at
shifted at below =
    let under : 2 ^ at < 2 ^ 64 = pow-lt below in
    ap (λ (n : ℕ). n % 2 ^ 64) (one-mul (2 ^ at)) ∙ mod-eq_of_lt under

pub tag_set : (tags at : ℕ) → at < 64 → bit_at (with_tag tags at) at ≡ 1
tag_set tags at below = subst (λ (mask : ℕ). bit_at (bit_or tags mask) at ≡ 1) (shifted at below) (bit_at_set_same w64 tags at below)

pub tag_set_other : (tags at k : ℕ) → at < 64 → k ≢ at → bit_at (with_tag tags at) k ≡ bit_at tags k
tag_set_other tags at k below ne = subst (λ (mask : ℕ). bit_at (bit_or tags mask) k ≡ bit_at tags k) (shifted at below) (bit_at_set_other w64 tags at below k ne)

pub tag_clear : (tags at : ℕ) → at < 64 → bit_at (without_tag tags at) at ≡ 0
tag_clear tags at below = subst (λ (mask : ℕ). bit_at (bit_and tags (bit_not w64 mask)) at ≡ 0) (shifted at below) (bit_at_clear_same w64 tags at below)

pub tag_clear_other : (tags at k : ℕ) → at < 64 → k < 64 → k ≢ at → bit_at (without_tag tags at) k ≡ bit_at tags k
tag_clear_other tags at k below also ne =
    subst (λ (mask : ℕ). bit_at (bit_and tags (bit_not w64 mask)) k ≡ bit_at tags k) (shifted at below) (bit_at_clear_other w64 tags at below k also ne)
