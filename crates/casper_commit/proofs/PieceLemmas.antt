use Rattle.std.proofs.Common.{◌≡◌, ℕ, ◌+◌, ◌<◌, List, length, ◌∙◌, ap, sym, subst, inl, inr, ⊎_elim, arith}
use Rattle.std.specs.Prelude.{◌==◌, slice_set, false}
use Rattle.std.proofs.lemmas.Bool.Decides.{eqb_tells}
use Rattle.std.proofs.lemmas.Bool.{cases_lt}
use Rattle.casper_disk.specs.Disk.{AgreesBut, block_at}
use Rattle.casper_commit.proofs.RootLemmas.{stands_there}

-- numbers that differ do not pass their test
differ_tells : (one other : ℕ) → (one ≡ other → ⊥) → (one == other) ≡ false
differ_tells one other differ = elim (eqb_tells one other) [
  | inl both ↦ absurd (differ both.1)
  | inr parts ↦ parts.0
]

-- with one more piece written, one more stands in its block
pub one_more : (place : ℕ → ℕ) (is_piece : ℕ → List ℕ → Type 0) (count first : ℕ) (blocks after : List (List ℕ)) (at : ℕ) (block : List ℕ)
    → ((one other : ℕ) → one < count → other < count → place one ≡ place other → one ≡ other)
    → first < count → at ≡ place first → is_piece first block → at < length blocks → after ≡ slice_set blocks at block
    → AgreesBut (λ other. other == at) blocks after
    → ((piece : ℕ) → piece < first → is_piece piece (block_at blocks (place piece)))
    → (piece : ℕ) → piece < first + 1 → is_piece piece (block_at after (place piece))
one_more place is_piece count first blocks after at block apart more is filled within written agrees earlier piece less =
    ⊎_elim
    (λ before. let other : place piece ≡ at → ⊥ = λ same. let twice = apart piece first (omega (arith, before, more)) more (same ∙ is) in omega (arith, twice, before) in
    subst (is_piece piece) (sym (agrees.same (place piece) (differ_tells (place piece) at other))) (earlier piece before))
    (λ past. let last : first ≡ piece = omega (arith, past, less) in
    let there : block ≡ block_at after (place first) = sym (stands_there blocks after at block within written) ∙ ap (block_at after) is in
    subst (λ (number : ℕ). is_piece number (block_at after (place number))) last (subst (is_piece first) there filled))
    (cases_lt piece first)
