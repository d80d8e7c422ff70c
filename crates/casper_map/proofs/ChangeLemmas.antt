use Rattle.std.proofs.Common.{◌≡◌, ◌≢◌, ℕ, zero, suc, ◌+◌, ◌/◌, ◌<◌, List, [], ◌∷◌, length, map, get_or, set, refl, sym, ◌∙◌, ap, subst, ⊎_elim, inl, inr, arith}
use Rattle.std.specs.Prelude.{◌⊎◌, Option, Some, None, cond, nat_lt, ◌==◌}
use Rattle.std.proofs.lemmas.Bool.{cases_eq, cond_both, eqb-true}
use Rattle.std.proofs.lemmas.List.{length-set, get_or-set_same, get_or-set_other, length-map, get_or-map}
use Rattle.casper_space.specs.Rising.{with_number, with_numbers}
use Rattle.casper_space.specs.Changes.{blocks_of}
use Rattle.casper_map.specs.Faulty.{frame_at}
use Rattle.casper_map.specs.Planned.{with_moves, AreWithin}

-- a place that some move changes, to the frame of that move
pub record IsMoved (first : ℕ) (moves : List (ℕ × ℕ)) (places : List (Option ℕ)) (at : ℕ) : Type 0 where
  pub k : ℕ
  pub within : k < length moves
  pub target : first + (get_or moves k (0, 0)).0 ≡ at
  pub there : frame_at (with_moves first moves places) at ≡ Some (get_or moves k (0, 0)).1

-- a place that no move changes
pub record IsUnmoved (first : ℕ) (moves : List (ℕ × ℕ)) (places : List (Option ℕ)) (at : ℕ) : Type 0 where
  pub others : (k : ℕ) → k < length moves → first + (get_or moves k (0, 0)).0 ≢ at
  pub there : frame_at (with_moves first moves places) at ≡ frame_at places at

unmoved_more : (first : ℕ) (move : ℕ × ℕ) (moves : List (ℕ × ℕ)) (at : ℕ) → first + move.0 ≢ at → ((k : ℕ) → k < length moves → first + (get_or moves k (0, 0)).0 ≢ at)
    → (k : ℕ) → k < length (move ∷ moves) → first + (get_or (move ∷ moves) k (0, 0)).0 ≢ at
unmoved_more first move moves at here others zero low = here
unmoved_more first move moves at here others (suc k) low = others k (omega arith)

-- each place is one of the two
pub moved_or : (first : ℕ) (moves : List (ℕ × ℕ)) (places : List (Option ℕ)) (at : ℕ) → AreWithin first places moves → IsMoved first moves places at ⊎ IsUnmoved first moves places at
moved_or first [] places at within = inr (record { others = λ k low. absurd (omega (arith, low)); there = refl })
moved_or first (move ∷ moves) places at within =
    let next = set places (first + move.0) (Some move.1) in
    let long = length-set places (first + move.0) (Some move.1) in
    let here : first + move.0 < length places = within 0 (0, 0) (omega arith) in
    let later : AreWithin first next moves = (λ k d low. let it : first + (get_or moves k d).0 < length places = within (suc k) d (omega arith) in omega (arith, it, long)) in
    ⊎_elim
    (λ (found : IsMoved first moves next at).
    let found_low = found.within in
    inl (record { k = suc found.k; within = omega (arith, found_low); target = found.target; there = found.there }))
    (λ (none : IsUnmoved first moves next at).
    ⊎_elim
    (λ (same : first + move.0 ≡ at).
    inl (record {
      k = 0;
      within = omega arith;
      target = same;
      there = none.there ∙ ap (frame_at next) (sym same) ∙ get_or-set_same places (first + move.0) (Some move.1) None here;
    }))
    (λ (other : first + move.0 ≢ at).
    let elsewhere : at ≢ first + move.0 = (λ same. other (sym same)) in
    inr (record { others = unmoved_more first move moves at other none.others; there = none.there ∙ get_or-set_other places (first + move.0) at (Some move.1) None elsewhere }))
    (cases_eq (first + move.0) at))
    (moved_or first moves next at later)

-- a number stands in a list
abbrev pub Stands : List ℕ → ℕ → Type 0
Stands list number = (k : ℕ) × (k < length list) × (get_or list k 0 ≡ number)

pub stands_later : (first number : ℕ) (list : List ℕ) → Stands list number → Stands (first ∷ list) number
stands_later first number list found = (suc found.0, omega (arith, found.1), found.2)

stands_first : (first number : ℕ) (list : List ℕ) → first ≡ number → Stands (first ∷ list) number
stands_first first number list is = (0, omega arith, is)

stands_parts : (first : ℕ) (list : List ℕ) (number k : ℕ) → k < length (first ∷ list) → get_or (first ∷ list) k 0 ≡ number → (first ≡ number) ⊎ Stands list number
stands_parts first list number zero low is = inl is
stands_parts first list number (suc k) low is = inr (k, omega arith, is)

-- a number that is put into a list stands in it, and so does what stood in it
with_new_stands : (list : List ℕ) (number : ℕ) → Stands (with_number list number) number
with_new_stands [] number = (0, omega arith, refl)
with_new_stands (first ∷ list) number =
    cond_both (first == number) (first ∷ list) (cond (nat_lt number first) (number ∷ first ∷ list) (first ∷ with_number list number)) (λ (made : List ℕ). Stands made number)
    (λ same. (0, omega arith, eqb-true first number same))
    (λ other. cond_both (nat_lt number first) (number ∷ first ∷ list) (first ∷ with_number list number) (λ (made : List ℕ). Stands made number)
    (λ before. (0, omega arith, refl))
    (λ behind. stands_later first number (with_number list number) (with_new_stands list number)))

with_old_stands : (list : List ℕ) (number other : ℕ) → Stands list other → Stands (with_number list number) other
with_old_stands [] number other found = absurd (omega (arith, found.1))
with_old_stands (first ∷ list) number other found =
    cond_both (first == number) (first ∷ list) (cond (nat_lt number first) (number ∷ first ∷ list) (first ∷ with_number list number)) (λ (made : List ℕ). Stands made other)
    (λ same. found)
    (λ differ. cond_both (nat_lt number first) (number ∷ first ∷ list) (first ∷ with_number list number) (λ (made : List ℕ). Stands made other)
    (λ before. stands_later number other (first ∷ list) found)
    (λ behind. ⊎_elim (λ (here : first ≡ other). stands_first first other (with_number list number) here)
    (λ (rest : Stands list other). stands_later first other (with_number list number) (with_old_stands list number other rest))
    (stands_parts first list other found.0 found.1 found.2)))

with_all_old : (numbers list : List ℕ) (other : ℕ) → Stands list other → Stands (with_numbers list numbers) other
with_all_old [] list other found = found
with_all_old (number ∷ numbers) list other found = with_all_old numbers (with_number list number) other (with_old_stands list number other found)

with_all_new : (numbers list : List ℕ) (k : ℕ) → k < length numbers → Stands (with_numbers list numbers) (get_or numbers k 0)
with_all_new [] list k low = absurd (omega (arith, low))
with_all_new (number ∷ numbers) list zero low = with_all_old numbers (with_number list number) number (with_new_stands list number)
with_all_new (number ∷ numbers) list (suc k) low = with_all_new numbers (with_number list number) k (omega arith)

-- the map block of each of some pages is one of theirs
pub block_stands_in : (pages : List ℕ) (k : ℕ) → k < length pages → Stands (blocks_of pages) (get_or pages k 0 / 1024)
block_stands_in pages k low =
    let blocks = map (λ page. page / 1024) pages in
    subst (λ (block : ℕ). Stands (blocks_of pages) block) (get_or-map (λ page. page / 1024) pages k 0 0 low)
    (with_all_new blocks [] k (omega (arith, length-map pages (λ page. page / 1024), low)))
