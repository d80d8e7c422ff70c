use Rattle.std.proofs.Common.{◌≡◌, ◌≢◌, ℕ, zero, suc, ◌+◌, ◌*◌, ◌/◌, ◌%◌, ◌<◌, ◌≤◌, Bool, true, false, cond, ◌&&◌, ◌||◌, not, List, [], ◌∷◌, ◌++◌, length, refl, sym, ◌∙◌, ap, subst, arith, inl, inr, Option, Some, None}
use Rattle.std.specs.Prelude.{◌==◌, slice_index, nat_lt, nat_eq, option_map}
use Rattle.std.specs.List.{find}
use Rattle.std.proofs.lemmas.Bool.{cases_Bool, and_parts, eqb-true}
use Rattle.std.proofs.lemmas.Bool.Decides.{nat_tests}
use Rattle.casper_heap.specs.declared.block.HeapBlock.{HeapBlock}
use Rattle.casper_heap.specs.Walk.{has_block, is_block, block_with, block_at, block_end, blocks_at, fields_in, end_after}
use Rattle.casper_heap.proofs.Tests.{cond_same, mapped, Met, met, none_from_end}
use Rattle.casper_heap.proofs.WalkLemmas.{blocks_step, blocks_stop, blocks_go, along_walk}

-- a walk that has come to the first place meets a block at the second
pub data Reaches (words : List ℕ) (end : ℕ) : ℕ → ℕ → Type 0 where
  here : {place : ℕ} → has_block words end place ≡ true → Reaches words end place place
  later : {at place : ℕ} → has_block words end at ≡ true → Reaches words end (block_end (block_at words at)) place → Reaches words end at place

pub reached_from : {words : List ℕ} {end at place : ℕ} → Reaches words end at place → at ≤ place
reached_from (here is) = omega arith
reached_from (later is behind) = let low = reached_from behind in omega arith

pub reached_block : {words : List ℕ} {end at place : ℕ} → Reaches words end at place → has_block words end place ≡ true
reached_block (here is) = is
reached_block (later is behind) = reached_block behind

-- of two blocks that a walk meets, the earlier ends at or before the later
pub apart : {words : List ℕ} {end at place other : ℕ} → Reaches words end at place → Reaches words end at other → place < other
    → block_end (block_at words place) ≤ other
apart (here is) (here also) below = absurd (omega arith)
apart (here is) (later also behind) below = reached_from behind
apart (later is behind) (here also) below = let low = reached_from behind in absurd (omega arith)
apart (later is behind) (later also rest) below = apart behind rest below

-- what a search among the blocks of a walk finds
pub record Found (words : List ℕ) (end at : ℕ) (test : HeapBlock → Bool) (block : HeapBlock) : Type 0 where
  pub reached : Reaches words end at block.place
  pub is : block ≡ block_at words block.place
  pub passes : test block ≡ true

pub found : (words : List ℕ) (end : ℕ) (test : HeapBlock → Bool) (block : HeapBlock) (at : ℕ) → find test (blocks_at words end at) ≡ Some block
    → Found words end at test block
found words end test block at is =
    along_walk words end (λ at. find test (blocks_at words end at) ≡ Some block → Found words end at test block)
    (λ at none found. let e : find test (blocks_at words end at) ≡ None = ap (find test) (blocks_stop words end at none) in cc)
    (λ at has behind found.
    let this = block_at words at in
    let e : find test (blocks_at words end at) ≡ cond (test this) (Some this) (find test (blocks_at words end (block_end this))) =
    ap (find test) (blocks_go words end at has) in
    elim (cases_Bool (test this)) [
      | inl passes ↦
          let same : Some this ≡ Some block =
          sym (e ∙ ap (λ b. cond b (Some this) (find test (blocks_at words end (block_end this)))) passes) ∙ found in
          let equal : this ≡ block = cc in
          subst (Found words end at test) equal (record { reached = here has; is = refl; passes = passes })
      | inr fails ↦
          let rest : find test (blocks_at words end (block_end this)) ≡ Some block =
          sym (e ∙ ap (λ b. cond b (Some this) (find test (blocks_at words end (block_end this)))) fails) ∙ found in
          let more = behind rest in
          record { reached = later has more.reached; is = more.is; passes = more.passes }
    ])
    at is

-- the same header, and the same blocks after it
pub same_step : (words changed : List ℕ) (end at : ℕ) → slice_index changed at ≡ slice_index words at
    → (has_block words end at ≡ true → blocks_at changed end (block_end (block_at words at)) ≡ blocks_at words end (block_end (block_at words at)))
    → blocks_at changed end at ≡ blocks_at words end at
same_step words changed end at same behind =
    let by : List ℕ → ℕ → List HeapBlock = λ from header.
    cond (nat_lt at end && is_block header at end) (block_with header at ∷ blocks_at from end (block_end (block_with header at))) [] in
    blocks_step changed end at ∙ ap (λ header. by changed header) same
    ∙ cond_same (has_block words end at) _ _ _ _ (λ has. ap (λ blocks. block_at words at ∷ blocks) (behind has)) (λ _. refl)
    ∙ sym (blocks_step words end at)

-- a walk depends on the words from its place on alone
pub same_from : (words changed : List ℕ) (end at : ℕ) → ((place : ℕ) → at ≤ place → slice_index changed place ≡ slice_index words place)
    → blocks_at changed end at ≡ blocks_at words end at
same_from words changed end at =
    along_walk words end
    (λ at. ((place : ℕ) → at ≤ place → slice_index changed place ≡ slice_index words place) → blocks_at changed end at ≡ blocks_at words end at)
    (λ at none same. same_step words changed end at (same at (omega arith)) (λ has. cc))
    (λ at has behind same. same_step words changed end at (same at (omega arith)) (λ _. behind (λ place low. same place (omega arith))))
    at

-- words that are set within a block, after its header, change no walk
pub same_within : (words changed : List ℕ) (end place : ℕ) → ((k : ℕ) → k ≤ place → slice_index changed k ≡ slice_index words k)
    → ((k : ℕ) → block_end (block_at words place) ≤ k → slice_index changed k ≡ slice_index words k)
    → {at : ℕ} → Reaches words end at place → blocks_at changed end at ≡ blocks_at words end at
same_within words changed end place low high (here is) =
    same_step words changed end place (low place (omega arith)) (λ _. same_from words changed end (block_end (block_at words place)) high)
same_within words changed end place low high (later {at} is behind) =
    let from = reached_from behind in
    same_step words changed end at (low at (omega arith)) (λ _. same_within words changed end place low high behind)

-- the live block at a place, where one more block stands before others
pub fields_cons : (block : HeapBlock) (blocks : List HeapBlock) (place : ℕ)
    → fields_in (block ∷ blocks) place ≡ cond (block.live && block.place == place) (Some block.fields) (fields_in blocks place)
fields_cons block blocks place = by_test (block.live && block.place == place)
  where
    by_test : (test : Bool) → option_map (λ (b : HeapBlock). b.fields) (cond test (Some block) (find (λ b. b.live && b.place == place) blocks))
        ≡ cond test (Some block.fields) (fields_in blocks place)
    by_test true = refl
    by_test false = refl

pub none_if : (choice : Option ℕ) → ((n : ℕ) → choice ≡ Some n → ⊥) → choice ≡ None
none_if None never = refl
none_if (Some n) never = absurd (never n refl)

-- a walk meets nothing before the place that it has come to
pub none_below : (words : List ℕ) (end at place : ℕ) → place < at → fields_in (blocks_at words end at) place ≡ None
none_below words end at place below =
    none_if (fields_in (blocks_at words end at) place)
    (λ n is.
    let test : HeapBlock → Bool = λ block. block.live && block.place == place in
    let hit = mapped (λ (block : HeapBlock). block.fields) (find test (blocks_at words end at)) n is in
    let block : HeapBlock = hit.0 in
    let so = found words end test block at hit.1 in
    let from : at ≤ block.place = reached_from so.reached in
    let same : block.place ≡ place = eqb-true block.place place (and_parts block.live (block.place == place) so.passes).1 in
    omega arith)

pub has_by : (words : List ℕ) (end place : ℕ) → place < end → 1 ≤ slice_index words place % 256 → slice_index words place % 256 ≤ 64
    → slice_index words place / 256 ≤ 1 → place + slice_index words place % 256 + 2 ≤ end → has_block words end place ≡ true
has_by words end place below some few kind ends = grind (arith, nat_tests)

pub cond_swap : {X : Type 0} (one other : Bool) (x y z : X) → (one ≡ true → other ≡ false) → cond one x (cond other y z) ≡ cond other y (cond one x z)
cond_swap true true x y z never = let e = never refl in cc
cond_swap true false x y z never = refl
cond_swap false true x y z never = refl
cond_swap false false x y z never = refl

pub eq_flip : (a b : ℕ) → (a == b) ≡ (b == a)
eq_flip a b = grind (arith, nat_tests)

-- one more block before those that a walk meets, by the header that stands there
pub fields_go : (words : List ℕ) (end at place : ℕ) → has_block words end at ≡ true
    → fields_in (blocks_at words end at) place
    ≡ cond ((slice_index words at / 256 == 1) && at == place) (Some (slice_index words at % 256)) (fields_in (blocks_at words end (block_end (block_at words at))) place)
fields_go words end at place has =
    ap (λ (blocks : List HeapBlock). fields_in blocks place) (blocks_go words end at has)
    ∙ fields_cons (block_at words at) (blocks_at words end (block_end (block_at words at))) place

pub and_false_right : (b : Bool) → (b && false) ≡ false
and_false_right true = refl
and_false_right false = refl

pub and_true_right : (b : Bool) → (b && true) ≡ b
and_true_right true = refl
and_true_right false = refl
