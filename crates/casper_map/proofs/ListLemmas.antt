use Rattle.std.proofs.Common.{◌≡◌, ◌≢◌, ℕ, zero, suc, ◌+◌, ◌-◌, ◌/◌, ◌<◌, ◌≤◌, List, [], ◌∷◌, ◌++◌, length, take, map, get_or, refl, sym, ◌∙◌, ap, subst, ⊎_elim, arith}
use Rattle.std.specs.Prelude.{All, Contains, ◌==◌, nat_lt, cond}
use Rattle.std.specs.List.Sorted.{IsStrictlyIncreasing}
use Rattle.std.proofs.lemmas.Bool.{cases_eq, eq-eqb, ne_eqb, le-ltb, cond-true, cond-false}
use Rattle.std.proofs.lemmas.List.{map_more}
use Rattle.std.proofs.lemmas.List.Elements.{All-head, All-tail, All-push, All-weaker, Contains-push}
use Rattle.std.proofs.lemmas.List.Sums.{fold-append}
use Rattle.casper_space.specs.Rising.{with_number, rising}
use Rattle.casper_space.specs.Changes.{blocks_of}

-- a number above all of a list comes after it
pub with_new : (list : List ℕ) (above number : ℕ) → All (λ item. item < above) list → above ≤ number → with_number list number ≡ list ++ number ∷ []
with_new [] above number below high = refl
with_new (first ∷ list) above number below high =
    let head : first < above = All-head (λ item. item < above) first list below in
    let other : first ≢ number = omega arith in
    let rest = with_new list above number (All-tail (λ item. item < above) first list below) high in
    cond-false (first == number) (first ∷ list) (cond (nat_lt number first) (number ∷ first ∷ list) (first ∷ with_number list number)) (ne_eqb first number other)
    ∙ cond-false (nat_lt number first) (number ∷ first ∷ list) (first ∷ with_number list number) (le-ltb number first (omega arith))
    ∙ ap (λ (more : List ℕ). first ∷ more) rest

-- a number of a list that is not its first one is one of the others
later_of : (first number : ℕ) (list : List ℕ) (k : ℕ) → first ≢ number → k < length (first ∷ list) → get_or (first ∷ list) k number ≡ number → Contains list number
later_of first number list zero other within is = absurd (other is)
later_of first number list (suc k) other within is = (k, omega arith, is)

-- a number of a list of which none is above it is there once
pub with_old : (list : List ℕ) (number : ℕ) → All (λ item. item < number + 1) list → Contains list number → with_number list number ≡ list
with_old [] number below there = absurd (omega (arith, there.1))
with_old (first ∷ list) number below there =
    ⊎_elim
    (λ (same : first ≡ number). cond-true (first == number) (first ∷ list) (cond (nat_lt number first) (number ∷ first ∷ list) (first ∷ with_number list number)) (eq-eqb first number same))
    (λ (other : first ≢ number).
    let head : first < number + 1 = All-head (λ item. item < number + 1) first list below in
    let later : Contains list number = later_of first number list there.0 other there.1 there.2 in
    cond-false (first == number) (first ∷ list) (cond (nat_lt number first) (number ∷ first ∷ list) (first ∷ with_number list number)) (ne_eqb first number other)
    ∙ cond-false (nat_lt number first) (number ∷ first ∷ list) (first ∷ with_number list number) (le-ltb number first (omega arith))
    ∙ ap (λ (more : List ℕ). first ∷ more) (with_old list number (All-tail (λ item. item < number + 1) first list below) later))
    (cases_eq first number)

-- the blocks of one page more
pub blocks_more : (pages : List ℕ) (i : ℕ) → i < length pages → blocks_of (take (i + 1) pages) ≡ with_number (blocks_of (take i pages)) (get_or pages i 0 / 1024)
blocks_more pages i within =
    ap rising (map_more (λ page. page / 1024) pages i 0 within)
    ∙ fold-append with_number [] (map (λ page. page / 1024) (take i pages)) (get_or pages i 0 / 1024 ∷ [])

-- what the map blocks that were found keep
pub record FoundBlocks (pages blocks : List ℕ) (i next : ℕ) : Type 0 where
  pub listed : blocks ≡ blocks_of (take i pages)
  pub below : All (λ block. block < next) blocks
  pub first : i ≡ 0 → next ≡ 0
  pub last : 0 < i → (next ≡ get_or pages (i - 1) 0 / 1024 + 1) × Contains blocks (get_or pages (i - 1) 0 / 1024)

pub found_new : (pages blocks : List ℕ) (i next block : ℕ) → i < length pages → FoundBlocks pages blocks i next → block ≡ get_or pages i 0 / 1024 → next ≤ block
    → FoundBlocks pages (blocks ++ block ∷ []) (i + 1) (block + 1)
found_new pages blocks i next block within found is high =
    let e : i + 1 - 1 ≡ i = omega arith in
    record {
      listed = sym (blocks_more pages i within ∙ ap (with_number (blocks_of (take i pages))) (sym is) ∙ ap (λ (list : List ℕ). with_number list block) (sym found.listed) ∙ with_new blocks next block found.below high);
      below = All-push (λ (other : ℕ). other < block + 1) blocks block (All-weaker (λ (other : ℕ). other < next) (λ (other : ℕ). other < block + 1) (λ other low. omega (arith, low, high)) blocks found.below) (omega arith);
      first = λ none. absurd (omega (arith, none));
      last = λ some. subst (λ (k : ℕ). (block + 1 ≡ get_or pages k 0 / 1024 + 1) × Contains (blocks ++ block ∷ []) (get_or pages k 0 / 1024)) (sym e)
          ((ap (λ (b : ℕ). b + 1) is), subst (λ (b : ℕ). Contains (blocks ++ block ∷ []) b) is (Contains-push blocks block));
    }

pub found_old : (pages blocks : List ℕ) (i next block : ℕ) → i < length pages → IsStrictlyIncreasing pages → FoundBlocks pages blocks i next → block ≡ get_or pages i 0 / 1024 → block < next
    → FoundBlocks pages blocks (i + 1) next
found_old pages blocks i next block within rising found is low =
    let some : 0 < i = ⊎_elim (λ (none : i ≡ 0). absurd (omega (arith, found.first none, low))) (λ (other : i ≢ 0). let e : 0 < i = omega arith in e) (cases_eq i 0) in
    let before : i - 1 + 1 ≡ i = omega arith in
    let rises : get_or pages (i - 1) 0 < get_or pages i 0 = subst (λ (k : ℕ). get_or pages (i - 1) 0 < get_or pages k 0) before (rising (i - 1) (omega arith)) in
    let last = found.last some in
    let same : block ≡ get_or pages (i - 1) 0 / 1024 = omega (arith, last.0) in
    let whole : next ≡ block + 1 = omega (arith, last.0) in
    let there : Contains blocks block = subst (λ (b : ℕ). Contains blocks b) (sym same) last.1 in
    let e : i + 1 - 1 ≡ i = omega arith in
    record {
      listed = sym (blocks_more pages i within ∙ ap (with_number (blocks_of (take i pages))) (sym is) ∙ ap (λ (list : List ℕ). with_number list block) (sym found.listed)
          ∙ with_old blocks block (subst (λ (n : ℕ). All (λ other. other < n) blocks) whole found.below) there);
      below = found.below;
      first = λ none. absurd (omega (arith, none));
      last = λ more. subst (λ (k : ℕ). (next ≡ get_or pages k 0 / 1024 + 1) × Contains blocks (get_or pages k 0 / 1024)) (sym e)
          ((whole ∙ ap (λ (b : ℕ). b + 1) is), subst (λ (b : ℕ). Contains blocks b) is there);
    }
