use Rattle.std.specs.Prelude.{◌≡◌, ℕ, zero, suc, ◌+◌, ◌-◌, ◌*◌, ◌/◌, ◌%◌, ◌^◌, ◌<◌, Bool, ◌==◌, List, [], ◌∷◌, filter, refl}
use Rattle.std.specs.Int.{bit_at}
use Rattle.std.specs.List.{range_with_len}
use Rattle.std.proofs.Common.{sym, ◌∙◌, ap, arith, add-one, zero-add}
use Rattle.std.proofs.Math.Nat.{zero-mul, one-mul, mul-one, mod-eq_of_lt}
use Rattle.std.proofs.lemmas.Bool.{cond_both, eqb-true, eqb-false}
use Rattle.std.proofs.lemmas.Nat.{mod-pow-add, shr-shr, pow-add}
use Rattle.std.proofs.lemmas.Nat.Bits.{bit_at-lt}
use Rattle.casper_words.specs.Crew.{clients, crew_of}

-- a client is a member where the bit one below its number is set
abbrev pub bit_test : ℕ → ℕ → Bool
bit_test bits who = bit_at bits (who - 1) == 1

-- the crew that the bits of a number stand for
abbrev pub members_of_bits : ℕ → List ℕ
members_of_bits bits = crew_of (bit_test bits)

-- the number whose bits stand for these members
abbrev pub bits_of : List ℕ → ℕ
bits_of [] = 0
bits_of (who ∷ members) = 2 ^ (who - 1) + bits_of members

-- the numbers of all clients, with their count as a variable
pub clients_counted : (count : ℕ) → count ≡ 32 → clients ≡ range_with_len 1 count
unfolding clients
clients_counted count is = ap (range_with_len 1) (sym is)

-- a crew as a filter, with the count of all clients as a variable
pub crew_of_counted : (test : ℕ → Bool) (count : ℕ) → count ≡ 32 → crew_of test ≡ filter test (range_with_len 1 count)
unfolding crew_of
crew_of_counted test count is = ap (filter test) (clients_counted count is)

-- the bits from a place on are the bits after it and the bit there
pub bits_from_step : (bits place count : ℕ) → bits / 2 ^ place % 2 ^ suc count ≡ bits / 2 ^ (place + 1) % 2 ^ count * 2 + bit_at bits place
bits_from_step bits place count =
    rw (← add-one count)
    (mod-pow-add (bits / 2 ^ place) count 1 ∙ ap (λ high. high % 2 ^ count * 2 + bits / 2 ^ place % 2) (shr-shr bits place 1))

joined : (all high bit power : ℕ) → all ≡ high * 2 + bit → bit * power + high * (power * 2) ≡ all * power
joined all high bit power e = rw e (omega arith)

pub bit_test_at : (bits place : ℕ) → bit_test bits (place + 1) ≡ (bit_at bits place == 1)
bit_test_at bits place = let e : place + 1 - 1 ≡ place = omega arith in ap (λ at. bit_at bits at == 1) e

pub bits_of_run : (bits place count : ℕ) → bits_of (filter (bit_test bits) (range_with_len (place + 1) count)) ≡ bits / 2 ^ place % 2 ^ count * 2 ^ place
bits_of_run bits place zero = let e : bits / 2 ^ place % 1 ≡ 0 = omega arith in rw e (sym (zero-mul (2 ^ place)))
bits_of_run bits place (suc count) =
    let rest = filter (bit_test bits) (range_with_len (place + 1 + 1) count) in
    let e : place + 1 - 1 ≡ place = omega arith in
    let double : 2 ^ (place + 1) ≡ 2 ^ place * 2 = pow-add 2 place 1 in
    let high = bits / 2 ^ (place + 1) % 2 ^ count in
    let run : bits_of rest ≡ high * (2 ^ place * 2) = bits_of_run bits (place + 1) count ∙ ap (λ power. high * power) double in
    let all = bits / 2 ^ place % 2 ^ suc count in
    cond_both (bit_test bits (place + 1)) ((place + 1) ∷ rest) rest (λ members. bits_of members ≡ all * 2 ^ place)
    (λ set.
    let one : bit_at bits place ≡ 1 = eqb-true (bit_at bits place) 1 (sym (bit_test_at bits place) ∙ set) in
    let split : all ≡ high * 2 + 1 = bits_from_step bits place count ∙ ap (λ bit. high * 2 + bit) one in
    let power : 2 ^ (place + 1 - 1) ≡ 2 ^ place = ap (λ at. 2 ^ at) e in
    rw (power, run) (ap (λ first. first + high * (2 ^ place * 2)) (sym (one-mul (2 ^ place))) ∙ joined all high 1 (2 ^ place) split))
    (λ unset.
    let other : bit_at bits place ≡ 1 → ⊥ = eqb-false (bit_at bits place) 1 (sym (bit_test_at bits place) ∙ unset) in
    let below : bit_at bits place < 2 = bit_at-lt bits place in
    let none : bit_at bits place ≡ 0 = omega arith in
    let split : all ≡ high * 2 + 0 = bits_from_step bits place count ∙ ap (λ bit. high * 2 + bit) none in
    run ∙ sym (zero-add (high * (2 ^ place * 2))) ∙ ap (λ first. first + high * (2 ^ place * 2)) (sym (zero-mul (2 ^ place))) ∙ joined all high 0 (2 ^ place) split)

bits_of_counted : (bits count : ℕ) → count ≡ 32 → bits < 2 ^ count → bits_of (members_of_bits bits) ≡ bits
bits_of_counted bits count is below =
    ap bits_of (crew_of_counted (bit_test bits) count is) ∙ bits_of_run bits 0 count
    ∙ (let whole : bits / 1 ≡ bits = omega arith in let same : bits % 2 ^ count ≡ bits = mod-eq_of_lt below in rw (whole, same) (mul-one bits))

-- the number of a crew gives the bits back
pub bits_of_members : (bits : ℕ) → bits < 2 ^ 32 → bits_of (members_of_bits bits) ≡ bits
bits_of_members bits below = bits_of_counted bits 32 refl below
