use Rattle.std.proofs.Common.{◌≡◌, ◌≢◌, ℕ, zero, suc, ◌+◌, ◌*◌, ◌/◌, ◌%◌, ◌<◌, ◌≤◌, Bool, true, false, cond, ◌&&◌, not, List, [], ◌∷◌, ◌++◌, length, refl, sym, ◌∙◌, ap, subst, arith, inl, inr, Option, Some, None}
use Rattle.std.specs.Prelude.{◌==◌, slice_index, nat_lt, nat_eq, option_map}
use Rattle.std.proofs.lemmas.Bool.{cases_Bool, and_parts, eqb-true, eqb-false, eq-eqb}
use Rattle.std.proofs.lemmas.Bool.Decides.{nat_tests}
use Rattle.casper_heap.specs.declared.block.HeapBlock.{HeapBlock}
use Rattle.casper_heap.specs.Walk.{has_block, is_block, block_at, block_end, blocks_at, fields_in, end_after}
use Rattle.casper_heap.proofs.Tests.{Met, met, none_from_end}
use Rattle.casper_heap.proofs.WalkLemmas.{blocks_stop, blocks_go, along_walk}
use Rattle.casper_heap.proofs.Reaching.{Reaches, here, later, reached_from, reached_block, same_from, fields_go, none_below, has_by, cond_swap, eq_flip, and_false_right, and_true_right}

-- the live blocks of a walk, after the header of one block was written anew with as many fields: others stay, and this one is
-- live by its new header
module _ (words changed : List ℕ) (end place count kind : ℕ) (was : slice_index words place % 256 ≡ count)
    (is : slice_index changed place % 256 ≡ count) (kind_is : slice_index changed place / 256 ≡ kind) (small : kind ≤ 1)
    (low : (k : ℕ) → k < place → slice_index changed k ≡ slice_index words k)
    (high : (k : ℕ) → place + count + 2 ≤ k → slice_index changed k ≡ slice_index words k) where
  pub reheaded : (other : ℕ) {at : ℕ} → Reaches words end at place
      → fields_in (blocks_at changed end at) other
      ≡ cond (other == place) (cond (kind == 1) (Some count) None) (fields_in (blocks_at words end at) other)
  reheaded other (here has) =
      let facts : Met words end place = met words end place has in
      let next = place + count + 2 in
      let behind : block_end (block_at words place) ≡ next = ap (λ n. place + n + 2) was in
      let also : block_end (block_at changed place) ≡ next = ap (λ n. place + n + 2) is in
      let stands : has_block changed end place ≡ true =
      has_by changed end place facts.before (omega (arith, facts.some, was, is)) (omega (arith, facts.few, was, is)) (omega arith)
      (omega (arith, facts.ends, was, is)) in
      let rest : blocks_at changed end next ≡ blocks_at words end next = same_from words changed end next high in
      let one : fields_in (blocks_at changed end place) other
      ≡ cond ((kind == 1) && place == other) (Some count) (fields_in (blocks_at words end next) other) =
      fields_go changed end place other stands
      ∙ ap (λ (k : ℕ). cond ((k == 1) && place == other) (Some (slice_index changed place % 256)) (fields_in (blocks_at changed end (block_end (block_at changed place))) other)) kind_is
      ∙ ap (λ (n : ℕ). cond ((kind == 1) && place == other) (Some n) (fields_in (blocks_at changed end (place + n + 2)) other)) is
      ∙ ap (λ (blocks : List HeapBlock). cond ((kind == 1) && place == other) (Some count) (fields_in blocks other)) rest in
      let two : fields_in (blocks_at words end place) other
      ≡ cond ((slice_index words place / 256 == 1) && place == other) (Some (slice_index words place % 256)) (fields_in (blocks_at words end next) other) =
      fields_go words end place other has
      ∙ ap (λ (at : ℕ). cond ((slice_index words place / 256 == 1) && place == other) (Some (slice_index words place % 256)) (fields_in (blocks_at words end at) other)) behind in
      elim (cases_Bool (other == place)) [
        | inl same ↦
            let equal : other ≡ place = eqb-true other place same in
            let flip : (place == other) ≡ true = eq_flip place other ∙ same in
            let none : fields_in (blocks_at words end next) other ≡ None = none_below words end next other (omega arith) in
            one ∙ ap (λ (test : Bool). cond ((kind == 1) && test) (Some count) (fields_in (blocks_at words end next) other)) flip
            ∙ ap (λ (test : Bool). cond test (Some count) (fields_in (blocks_at words end next) other)) (and_true_right (kind == 1))
            ∙ ap (λ (choice : Option ℕ). cond (kind == 1) (Some count) choice) none
            ∙ sym (ap (λ (test : Bool). cond test (cond (kind == 1) (Some count) None) (fields_in (blocks_at words end place) other)) same)
        | inr apart ↦
            let flip : (place == other) ≡ false = eq_flip place other ∙ apart in
            one ∙ ap (λ (test : Bool). cond ((kind == 1) && test) (Some count) (fields_in (blocks_at words end next) other)) flip
            ∙ ap (λ (test : Bool). cond test (Some count) (fields_in (blocks_at words end next) other)) (and_false_right (kind == 1))
            ∙ sym (two ∙ ap (λ (test : Bool). cond ((slice_index words place / 256 == 1) && test) (Some (slice_index words place % 256)) (fields_in (blocks_at words end next) other)) flip
            ∙ ap (λ (test : Bool). cond test (Some (slice_index words place % 256)) (fields_in (blocks_at words end next) other)) (and_false_right (slice_index words place / 256 == 1)))
            ∙ sym (ap (λ (test : Bool). cond test (cond (kind == 1) (Some count) None) (fields_in (blocks_at words end place) other)) apart)
      ]
  reheaded other (later {at} has behind) =
      let from = reached_from behind in
      let header : slice_index changed at ≡ slice_index words at = low at (omega arith) in
      let stands : has_block changed end at ≡ true = ap (λ (h : ℕ). nat_lt at end && is_block h at end) header ∙ has in
      let test : Bool = (slice_index words at / 256 == 1) && at == other in
      fields_go changed end at other stands
      ∙ ap (λ (h : ℕ). cond ((h / 256 == 1) && at == other) (Some (h % 256)) (fields_in (blocks_at changed end (at + h % 256 + 2)) other)) header
      ∙ ap (λ (choice : Option ℕ). cond test (Some (slice_index words at % 256)) choice) (reheaded other behind)
      ∙ cond_swap test (other == place) (Some (slice_index words at % 256)) (cond (kind == 1) (Some count) None)
      (fields_in (blocks_at words end (block_end (block_at words at))) other)
      (λ met_here.
      let equal : at ≡ other = eqb-true at other (and_parts (slice_index words at / 256 == 1) (at == other) met_here).1 in
      let ne : other ≢ place = omega arith in
      grind (arith, nat_tests))
      ∙ ap (λ (choice : Option ℕ). cond (other == place) (cond (kind == 1) (Some count) None) choice) (sym (fields_go words end at other has))
