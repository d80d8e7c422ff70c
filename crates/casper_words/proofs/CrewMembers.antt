use Rattle.std.proofs.Common.{◌≡◌, ℕ, zero, suc, ◌+◌, ◌-◌, ◌*◌, ◌/◌, ◌%◌, ◌^◌, ◌<◌, ◌≤◌, Bool, true, false, ◌&&◌, ◌||◌, not, eqb, ◌==◌, List, [], ◌∷◌, length, refl, sym, ◌∙◌, ap, inl, inr, subst, arith, bit_and, bit_or, min, max, ◌≢◌, ◌↔◌, Option, Some, None}
use Rattle.std.specs.List.{range_with_len, filter, slice_get}
use Rattle.std.specs.Option.{is_some, IsSome, IsNone, IfSome}
use Rattle.std.specs.Int.{bit_at, w32, trailing_zeros}
use Rattle.std.specs.Int.RustNames.{count_ones}
use Rattle.std.specs.Int.Count.{count_trailing_zeros}
use Rattle.std.proofs.Math.Nat.{mod-eq_of_lt, div-one}
use Rattle.std.proofs.lemmas.Bool.{cond_both, cases_Bool, cases_eq, cases_order, eqb-true, eqb-false, eq-eqb, true≢false, false≢true}
use Rattle.std.specs.Cmp.Lexicographic.{pointwise}
use Rattle.std.proofs.lemmas.Bool.Decides.{same_from_decides}
use Rattle.std.proofs.lemmas.Slice.Eq.{bytes_eq-Decides}
use Rattle.std.proofs.lemmas.Nat.{ones_cat}
use Rattle.std.proofs.lemmas.Nat.Bits.{shr_and_one, bit_at-lt, bit_at_and, bit_at_or, bit_at_not, bit_at_set_same, bit_at_set_other, bit_at_clear_same, bit_at_clear_other, bit_at-trailing_zeros}
use Rattle.casper_words.specs.Crew.{IsClient, clients, has_member, crew_of, IsCrew}
use Rattle.casper_words.specs.CrewBits.{bit_test, members_of_bits, bits_of, bits_of_members, crew_of_counted, bits_from_step, bit_test_at}
use Rattle.casper_words.proofs.CrewLemmas.{has_member_crew_of, crew_of_same, IsCrew_crew_of}

-- what the bits of a number stand for is a crew
pub IsCrew_members_of : (bits : ℕ) → IsCrew (members_of_bits bits)
IsCrew_members_of bits = IsCrew_crew_of (bit_test bits)

pub IsCrew_at : (bits : ℕ) (members : List ℕ) → members_of_bits bits ≡ members → IsCrew members
IsCrew_at bits members is = let P : List ℕ → Type 0 = λ xs. IsCrew xs in subst P is (IsCrew_members_of bits)

-- no bits stand for no members
pub members_of_zero : members_of_bits 0 ≡ []
unfolding crew_of clients
members_of_zero = refl

-- the bit below a client's number says whether it is a member
pub member_from_bit : (bits who : ℕ) → IsClient who → (bit_and (bits / 2 ^ (who - 1)) 1 == 1) ≡ has_member who (members_of_bits bits)
member_from_bit bits who client =
    ap (λ bit. bit == 1) (shr_and_one bits (who - 1)) ∙ sym (has_member_crew_of (bit_test bits) who client)

ones_step : (all high bit : ℕ) → all ≡ high * 2 + bit → bit < 2 → count_ones all ≡ count_ones high + count_ones bit
ones_step all high bit e below = ap count_ones e ∙ ones_cat 1 high bit below

ones_zero : count_ones 0 ≡ 0
unfolding count_ones
ones_zero = refl

ones_one : count_ones 1 ≡ 1
unfolding count_ones
ones_one = refl

length_run : (bits place count : ℕ) → length (filter (bit_test bits) (range_with_len (place + 1) count)) ≡ count_ones (bits / 2 ^ place % 2 ^ count)
length_run bits place zero = let e : bits / 2 ^ place % 1 ≡ 0 = omega arith in sym (ap count_ones e ∙ ones_zero)
length_run bits place (suc count) =
    let rest = filter (bit_test bits) (range_with_len (place + 1 + 1) count) in
    let all = bits / 2 ^ place % 2 ^ suc count in
    let high = bits / 2 ^ (place + 1) % 2 ^ count in
    let run : length rest ≡ count_ones high = length_run bits (place + 1) count in
    let bit = bit_at bits place in
    let step : count_ones all ≡ count_ones high + count_ones bit = ones_step all high bit (bits_from_step bits place count) (bit_at-lt bits place) in
    cond_both (bit_test bits (place + 1)) ((place + 1) ∷ rest) rest (λ members. length members ≡ count_ones all)
    (λ set.
    let one : bit ≡ 1 = eqb-true bit 1 (sym (bit_test_at bits place) ∙ set) in
    let counted : count_ones bit ≡ 1 = ap count_ones one ∙ ones_one in
    omega (arith, run, step, counted))
    (λ unset.
    let other : bit ≡ 1 → ⊥ = eqb-false bit 1 (sym (bit_test_at bits place) ∙ unset) in
    let below : bit < 2 = bit_at-lt bits place in
    let cleared : bit ≡ 0 = omega arith in
    let counted : count_ones bit ≡ 0 = ap count_ones cleared ∙ ones_zero in
    omega (arith, run, step, counted))

length_counted : (bits count : ℕ) → count ≡ 32 → bits < 2 ^ count → length (members_of_bits bits) ≡ count_ones bits
length_counted bits count is below =
    ap length (crew_of_counted (bit_test bits) count is) ∙ length_run bits 0 count
    ∙ ap (λ low. count_ones (low % 2 ^ count)) (div-one bits) ∙ ap count_ones (mod-eq_of_lt below)

-- there are as many members as bits that are set
pub length_members_of : (bits : ℕ) → bits < 2 ^ 32 → length (members_of_bits bits) ≡ count_ones bits
length_members_of bits below = length_counted bits 32 refl below

-- two clients with the same place of their bits are the same
apart_below : (client who : ℕ) → IsClient client → IsClient who → (client == who) ≡ false → client - 1 ≢ who - 1
apart_below client who one other e =
    let apart : client ≡ who → ⊥ = eqb-false client who e in
    let low : 1 ≤ client = one.0 in
    let low_other : 1 ≤ who = other.0 in
    λ same. apart (omega arith)

place_below : (who : ℕ) → IsClient who → who - 1 < 32
place_below who known = let low = known.0 in let high = known.1 in omega arith

or_true : (b : Bool) → (b || true) ≡ true
or_true true = refl
or_true false = refl

or_false : (b : Bool) → (b || false) ≡ b
or_false true = refl
or_false false = refl

and_false : (b : Bool) → (b && false) ≡ false
and_false true = refl
and_false false = refl

and_true : (b : Bool) → (b && true) ≡ b
and_true true = refl
and_true false = refl

-- to set a client's bit adds it
pub members_with : (bits who : ℕ) → IsClient who → members_of_bits (bit_or bits (1 * 2 ^ (who - 1) % 2 ^ 32)) ≡ crew_of (λ client. has_member client (members_of_bits bits) || client == who)
members_with bits who known =
    let set = bit_or bits (1 * 2 ^ (who - 1) % 2 ^ 32) in
    crew_of_same (bit_test set) (λ client. has_member client (members_of_bits bits) || client == who)
    (λ client is_client.
    let was : has_member client (members_of_bits bits) ≡ bit_test bits client = has_member_crew_of (bit_test bits) client is_client in
    elim (cases_Bool (client == who)) [
      | inl here ↦
          let same : client ≡ who = eqb-true client who here in
          let one : bit_at set (client - 1) ≡ 1 =
          ap (λ number. bit_at set (number - 1)) same ∙ bit_at_set_same w32 bits (who - 1) (place_below who known) in
          ap (λ bit. bit == 1) one
          ∙ sym (ap (λ test. has_member client (members_of_bits bits) || test) here ∙ or_true (has_member client (members_of_bits bits)))
      | inr other ↦
          let kept : bit_at set (client - 1) ≡ bit_at bits (client - 1) =
          bit_at_set_other w32 bits (who - 1) (place_below who known) (client - 1) (apart_below client who is_client known other) in
          ap (λ bit. bit == 1) kept ∙ sym was
          ∙ sym (ap (λ test. has_member client (members_of_bits bits) || test) other ∙ or_false (has_member client (members_of_bits bits)))
    ])

-- to clear a client's bit removes it
pub members_without : (bits who : ℕ) → IsClient who → members_of_bits (bit_and bits (2 ^ 32 - 1 - 1 * 2 ^ (who - 1) % 2 ^ 32)) ≡ crew_of (λ client. has_member client (members_of_bits bits) && not (client == who))
members_without bits who known =
    let cleared = bit_and bits (2 ^ 32 - 1 - 1 * 2 ^ (who - 1) % 2 ^ 32) in
    crew_of_same (bit_test cleared) (λ client. has_member client (members_of_bits bits) && not (client == who))
    (λ client is_client.
    let was : has_member client (members_of_bits bits) ≡ bit_test bits client = has_member_crew_of (bit_test bits) client is_client in
    elim (cases_Bool (client == who)) [
      | inl here ↦
          let same : client ≡ who = eqb-true client who here in
          let none : bit_at cleared (client - 1) ≡ 0 =
          ap (λ number. bit_at cleared (number - 1)) same ∙ bit_at_clear_same w32 bits (who - 1) (place_below who known) in
          ap (λ bit. bit == 1) none
          ∙ sym (ap (λ test. has_member client (members_of_bits bits) && not test) here ∙ and_false (has_member client (members_of_bits bits)))
      | inr other ↦
          let kept : bit_at cleared (client - 1) ≡ bit_at bits (client - 1) =
          bit_at_clear_other w32 bits (who - 1) (place_below who known) (client - 1) (place_below client is_client)
          (apart_below client who is_client known other) in
          ap (λ bit. bit == 1) kept ∙ sym was
          ∙ sym (ap (λ test. has_member client (members_of_bits bits) && not test) other ∙ and_true (has_member client (members_of_bits bits)))
    ])

max_test : (left right : ℕ) → left < 2 → right < 2 → (max left right == 1) ≡ ((left == 1) || (right == 1))
max_test left right low high =
    elim (cases_eq left 1) [
      | inl one ↦
          let e : max left right ≡ 1 = omega arith in
          ap (λ bit. bit == 1) e ∙ sym (ap (λ bit. (bit == 1) || (right == 1)) one)
      | inr other ↦
          let none : left ≡ 0 = omega arith in
          let e : max left right ≡ right = omega arith in
          ap (λ bit. bit == 1) e ∙ sym (ap (λ bit. (bit == 1) || (right == 1)) none)
    ]

-- to join the bits joins the members
pub members_union : (left right : ℕ) → members_of_bits (bit_or left right) ≡ crew_of (λ client. has_member client (members_of_bits left) || has_member client (members_of_bits right))
members_union left right =
    crew_of_same (bit_test (bit_or left right)) (λ client. has_member client (members_of_bits left) || has_member client (members_of_bits right))
    (λ client is_client.
    let place = client - 1 in
    let on_left : has_member client (members_of_bits left) ≡ bit_test left client = has_member_crew_of (bit_test left) client is_client in
    let on_right : has_member client (members_of_bits right) ≡ bit_test right client = has_member_crew_of (bit_test right) client is_client in
    ap (λ bit. bit == 1) (bit_at_or left right place)
    ∙ max_test (bit_at left place) (bit_at right place) (bit_at-lt left place) (bit_at-lt right place)
    ∙ sym (ap (λ test. test || has_member client (members_of_bits right)) on_left ∙ ap (λ test. bit_test left client || test) on_right))

min_test : (left right : ℕ) → left < 2 → right < 2 → (min left (1 - right) == 1) ≡ ((left == 1) && not (right == 1))
min_test left right low high =
    elim (cases_eq right 1) [
      | inl one ↦
          let e : min left (1 - right) ≡ 0 = omega arith in
          ap (λ bit. bit == 1) e ∙ sym (ap (λ bit. (left == 1) && not (bit == 1)) one ∙ and_false (left == 1))
      | inr other ↦
          let none : right ≡ 0 = omega arith in
          let e : min left (1 - right) ≡ left = omega arith in
          ap (λ bit. bit == 1) e ∙ sym (ap (λ bit. (left == 1) && not (bit == 1)) none ∙ and_true (left == 1))
    ]

-- to clear the bits of another crew removes its members
pub members_minus : (left right : ℕ) → right < 2 ^ 32 → members_of_bits (bit_and left (2 ^ 32 - 1 - right)) ≡ crew_of (λ client. has_member client (members_of_bits left) && not (has_member client (members_of_bits right)))
members_minus left right below =
    crew_of_same (bit_test (bit_and left (2 ^ 32 - 1 - right))) (λ client. has_member client (members_of_bits left) && not (has_member client (members_of_bits right)))
    (λ client is_client.
    let place = client - 1 in
    let on_left : has_member client (members_of_bits left) ≡ bit_test left client = has_member_crew_of (bit_test left) client is_client in
    let on_right : has_member client (members_of_bits right) ≡ bit_test right client = has_member_crew_of (bit_test right) client is_client in
    ap (λ bit. bit == 1) (bit_at_and left (2 ^ 32 - 1 - right) place ∙ ap (min (bit_at left place)) (bit_at_not w32 right place below (place_below client is_client)))
    ∙ min_test (bit_at left place) (bit_at right place) (bit_at-lt left place) (bit_at-lt right place)
    ∙ sym (ap (λ test. test && not (has_member client (members_of_bits right))) on_left ∙ ap (λ test. bit_test left client && not test) on_right))

-- the first number of a range that passes a test
pub first_of_range : (test : ℕ → Bool) (first count at : ℕ) → at < count → test (first + at) ≡ true → ((i : ℕ) → i < at → test (first + i) ≡ false) → slice_get (filter test (range_with_len first count)) 0 ≡ Some (first + at)
first_of_range test first zero at within found before = absurd (omega arith)
first_of_range test first (suc count) at within found before =
    let rest = filter test (range_with_len (first + 1) count) in
    let from_first : first + 0 ≡ first = omega arith in
    elim (cases_eq at 0) [
      | inl here ↦
          let here_at : first + at ≡ first = omega arith in
          let passes : test first ≡ true = sym (ap test here_at) ∙ found in
          rw (passes, here_at) refl
      | inr later ↦
          let fails : test first ≡ false = sym (ap test from_first) ∙ before 0 (omega arith) in
          let moved : first + 1 + (at - 1) ≡ first + at = omega arith in
          let behind : slice_get rest 0 ≡ Some (first + 1 + (at - 1)) =
          first_of_range test (first + 1) count (at - 1) (omega arith) (ap test moved ∙ found)
          (λ i below. let next : first + 1 + i ≡ first + (i + 1) = omega arith in ap test next ∙ before (i + 1) (omega arith)) in
          rw (fails, ← moved) behind
    ]

bit_test_from : (bits place : ℕ) → bit_test bits (1 + place) ≡ (bit_at bits place == 1)
bit_test_from bits place = let e : 1 + place - 1 ≡ place = omega arith in ap (λ at. bit_at bits at == 1) e

first_counted : (bits count : ℕ) → count ≡ 32 → 0 < bits → bits < 2 ^ 32 → slice_get (members_of_bits bits) 0 ≡ Some (trailing_zeros w32 bits + 1)
first_counted bits count is some_bit below =
    let lowest = bit_at-trailing_zeros w32 bits some_bit below in
    let place = trailing_zeros w32 bits in
    let within : place < 32 = lowest.0 in
    let moved : 1 + place ≡ place + 1 = omega arith in
    ap (λ xs. slice_get xs 0) (crew_of_counted (bit_test bits) count is)
    ∙ first_of_range (bit_test bits) 1 count place (omega arith)
    (bit_test_from bits place ∙ ap (λ bit. bit == 1) lowest.1)
    (λ i before. bit_test_from bits i ∙ ap (λ bit. bit == 1) (lowest.2 i before))
    ∙ ap Some moved

-- the least member is the place of the lowest bit, and one
pub first_of_members : (bits : ℕ) → 0 < bits → bits < 2 ^ 32 → slice_get (members_of_bits bits) 0 ≡ Some (trailing_zeros w32 bits + 1)
first_of_members bits some_bit below = first_counted bits 32 refl some_bit below

trailing_of_zero : trailing_zeros w32 0 ≡ 32
unfolding count_trailing_zeros
trailing_of_zero = refl

-- the client of one more than the lowest place is the first member
pub least_from_place : (bits : ℕ) (members : List ℕ) (result : Option ℕ) → bits < 2 ^ 32 → members_of_bits bits ≡ members → (IsSome result ↔ ((1 ≤ trailing_zeros w32 bits + 1) × (trailing_zeros w32 bits + 1 ≤ 32))) → IfSome result (λ who. who ≡ trailing_zeros w32 bits + 1) → result ≡ slice_get members 0
least_from_place bits members None below is exactly number =
    elim (cases_order 0 bits) [
      | inl zero_bits ↦
          sym (ap (λ xs. slice_get xs 0) (sym is ∙ ap members_of_bits (sym zero_bits) ∙ members_of_zero))
      | inr apart ↦
          let some_bit : 0 < bits = omega arith in
          let within : trailing_zeros w32 bits < 32 = (bit_at-trailing_zeros w32 bits some_bit below).0 in
          absurd (false≢true (exactly.1 (omega arith, omega arith)))
    ]
least_from_place bits members (Some who) below is exactly number =
    elim (cases_order 0 bits) [
      | inl zero_bits ↦
          let place : trailing_zeros w32 bits ≡ 32 = ap (trailing_zeros w32) (sym zero_bits) ∙ trailing_of_zero in
          let within : trailing_zeros w32 bits + 1 ≤ 32 = (exactly.0 refl).1 in
          absurd (omega arith)
      | inr apart ↦
          let some_bit : 0 < bits = omega arith in
          ap Some number ∙ sym (first_of_members bits some_bit below) ∙ ap (λ xs. slice_get xs 0) is
    ]

-- there is no first member exactly where there is none
pub none_from_first : (members : List ℕ) (result : Option ℕ) → result ≡ slice_get members 0 → IsNone result ↔ (members ≡ [])
none_from_first [] result first = (λ _. refl, λ _. ap is_some first)
none_from_first (who ∷ members) result first = (λ missing. absurd (true≢false (sym (ap is_some first) ∙ missing)), λ empty. cc)

-- numbers are equal exactly where the members are
pub same_by_members : (left right : ℕ) (xs ys : List ℕ) → left < 2 ^ 32 → right < 2 ^ 32 → members_of_bits left ≡ xs → members_of_bits right ≡ ys → eqb left right ≡ pointwise eqb xs ys
same_by_members left right xs ys low high on_left on_right =
    same_from_decides (eqb left right) (pointwise eqb xs ys) (
      λ same. sym on_left ∙ ap members_of_bits (eqb-true left right same) ∙ on_right,
      λ same. eq-eqb left right (sym (bits_of_members left low) ∙ ap bits_of (on_left ∙ same ∙ sym on_right) ∙ bits_of_members right high),
    )
    (bytes_eq-Decides xs ys)
