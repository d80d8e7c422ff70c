use Rattle.std.proofs.Common.{◌≡◌, ℕ, zero, suc, ◌+◌, ◌*◌, ◌<◌, ◌≤◌, Bool, true, false, cond, List, [], ◌∷◌, length, refl, sym, ◌∙◌, ap, arith, inl, inr}
use Rattle.std.specs.Prelude.{slice_index}
use Rattle.std.proofs.lemmas.Bool.{cases_Bool}
use Rattle.casper_heap.specs.declared.block.HeapBlock.{HeapBlock}
use Rattle.casper_heap.specs.Walk.{has_block, block_at, block_end, blocks_from, blocks_at}
use Rattle.casper_heap.proofs.Tests.{cond_same, Met, met, none_from_end}

-- a walk that may make enough steps meets the same blocks, however many more it might make
pub enough_steps : (words : List ℕ) (end steps more place : ℕ) → end ≤ place + steps → end ≤ place + more
    → blocks_from words end steps place ≡ blocks_from words end more place
enough_steps words end zero zero place enough also = refl
enough_steps words end zero (suc more) place enough also =
    let none : has_block words end place ≡ false = none_from_end words end place (omega arith) in
    sym (ap (λ b. cond b (block_at words place ∷ blocks_from words end more (block_end (block_at words place))) []) none)
enough_steps words end (suc steps) zero place enough also =
    let none : has_block words end place ≡ false = none_from_end words end place (omega arith) in
    ap (λ b. cond b (block_at words place ∷ blocks_from words end steps (block_end (block_at words place))) []) none
enough_steps words end (suc steps) (suc more) place enough also =
    cond_same (has_block words end place) _ _ _ _
    (λ is. ap (λ blocks. block_at words place ∷ blocks)
    (enough_steps words end steps more (block_end (block_at words place)) (omega arith) (omega arith)))
    (λ _. refl)

-- the blocks from a place on: the one that stands there, and those after it
pub blocks_step : (words : List ℕ) (end place : ℕ)
    → blocks_at words end place ≡ cond (has_block words end place) (block_at words place ∷ blocks_at words end (block_end (block_at words place))) []
blocks_step words zero place =
    let none : has_block words zero place ≡ false = none_from_end words zero place (omega arith) in
    sym (ap (λ b. cond b (block_at words place ∷ blocks_at words zero (block_end (block_at words place))) []) none)
blocks_step words (suc end) place =
    cond_same (has_block words (suc end) place) _ _ _ _
    (λ is. ap (λ blocks. block_at words place ∷ blocks)
    (enough_steps words (suc end) end (suc end) (block_end (block_at words place)) (omega arith) (omega arith)))
    (λ _. refl)

module _ (words : List ℕ) (end place : ℕ) where
  pub blocks_stop : has_block words end place ≡ false → blocks_at words end place ≡ []
  blocks_stop none =
      blocks_step words end place
      ∙ ap (λ b. cond b (block_at words place ∷ blocks_at words end (block_end (block_at words place))) []) none

  pub blocks_go : has_block words end place ≡ true
      → blocks_at words end place ≡ block_at words place ∷ blocks_at words end (block_end (block_at words place))
  blocks_go is =
      blocks_step words end place
      ∙ ap (λ b. cond b (block_at words place ∷ blocks_at words end (block_end (block_at words place))) []) is

-- what holds where a walk stops, and holds before a block if it holds after it, holds at each place
module _ (words : List ℕ) (end : ℕ) (P : ℕ → Type 0)
    (stop : (place : ℕ) → has_block words end place ≡ false → P place)
    (go : (place : ℕ) → has_block words end place ≡ true → P (block_end (block_at words place)) → P place) where
  along_steps : (steps place : ℕ) → end ≤ place + steps → P place
  along_steps zero place enough = stop place (none_from_end words end place (omega arith))
  along_steps (suc steps) place enough =
      elim (cases_Bool (has_block words end place)) [
        | inl is ↦ go place is (along_steps steps (block_end (block_at words place)) (omega arith))
        | inr none ↦ stop place none
      ]

  pub along_walk : (place : ℕ) → P place
  along_walk place = along_steps end place (omega arith)
