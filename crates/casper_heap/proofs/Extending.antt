use Rattle.std.proofs.Common.{◌≡◌, ◌≢◌, ℕ, zero, suc, ◌+◌, ◌/◌, ◌%◌, ◌<◌, ◌≤◌, Bool, true, false, cond, ◌&&◌, List, [], ◌∷◌, refl, sym, ◌∙◌, ap, subst, arith, inl, inr, Option, Some, None}
use Rattle.std.specs.Prelude.{◌==◌, slice_index, nat_lt, nat_eq}
use Rattle.std.proofs.lemmas.Bool.{and_parts, eqb-true}
use Rattle.std.proofs.lemmas.Bool.Decides.{nat_tests}
use Rattle.casper_heap.specs.declared.block.HeapBlock.{HeapBlock}
use Rattle.casper_heap.specs.Walk.{has_block, is_block, block_at, block_end, blocks_at, fields_in, end_after}
use Rattle.casper_heap.proofs.Tests.{Met, met, none_from_end}
use Rattle.casper_heap.proofs.WalkLemmas.{blocks_stop, blocks_go, along_walk}
use Rattle.casper_heap.proofs.Reaching.{Reaches, here, later, fields_go, has_by, cond_swap, eq_flip}

-- a walk ends at or after the place that it has come to
pub end_after_low : (words : List ℕ) (end at : ℕ) → at ≤ end_after at (blocks_at words end at)
end_after_low words end at =
    along_walk words end (λ at. at ≤ end_after at (blocks_at words end at))
    (λ at none. let e : end_after at (blocks_at words end at) ≡ at = ap (end_after at) (blocks_stop words end at none) in omega arith)
    (λ at has behind.
    let e : end_after at (blocks_at words end at) ≡ end_after (block_end (block_at words at)) (blocks_at words end (block_end (block_at words at))) =
    ap (end_after at) (blocks_go words end at has) in
    omega (arith, e, behind))
    at

-- each block that it meets ends there or before
pub reached_ends : {words : List ℕ} {end at place : ℕ} → Reaches words end at place → block_end (block_at words place) ≤ end_after at (blocks_at words end at)
reached_ends {words} {end} {at} (here has) =
    let e : end_after at (blocks_at words end at) ≡ end_after (block_end (block_at words at)) (blocks_at words end (block_end (block_at words at))) =
    ap (end_after at) (blocks_go words end at has) in
    let low = end_after_low words end (block_end (block_at words at)) in
    omega (arith, e, low)
reached_ends {words} {end} {at} (later has behind) =
    let e : end_after at (blocks_at words end at) ≡ end_after (block_end (block_at words at)) (blocks_at words end (block_end (block_at words at))) =
    ap (end_after at) (blocks_go words end at has) in
    let ends = reached_ends behind in
    omega (arith, e, ends)

-- the live blocks of a walk, after one more live block was written where the walk had stopped
module _ (words changed : List ℕ) (end stop count : ℕ) (some : 1 ≤ count) (few : count ≤ 64)
    (is : slice_index changed stop % 256 ≡ count) (live : slice_index changed stop / 256 ≡ 1)
    (low : (k : ℕ) → 1 ≤ k → k < stop → slice_index changed k ≡ slice_index words k) where
  last_one : (other : ℕ) → fields_in (blocks_at changed (stop + count + 2) stop) other ≡ cond (other == stop) (Some count) None
  last_one other =
      let last = stop + count + 2 in
      let stands : has_block changed last stop ≡ true =
      has_by changed last stop (omega arith) (omega (arith, some, is)) (omega (arith, few, is)) (omega (arith, live)) (omega (arith, is)) in
      let behind : blocks_at changed last last ≡ [] = blocks_stop changed last last (none_from_end changed last last (omega arith)) in
      fields_go changed last stop other stands
      ∙ ap (λ (k : ℕ). cond ((k == 1) && stop == other) (Some (slice_index changed stop % 256)) (fields_in (blocks_at changed last (block_end (block_at changed stop))) other)) live
      ∙ ap (λ (n : ℕ). cond (stop == other) (Some n) (fields_in (blocks_at changed last (stop + n + 2)) other)) is
      ∙ ap (λ (blocks : List HeapBlock). cond (stop == other) (Some count) (fields_in blocks other)) behind
      ∙ ap (λ (test : Bool). cond test (Some count) None) (eq_flip stop other)

  pub extended : (other at : ℕ) → 1 ≤ at → end_after at (blocks_at words end at) ≡ stop
      → fields_in (blocks_at changed (stop + count + 2) at) other ≡ cond (other == stop) (Some count) (fields_in (blocks_at words end at) other)
  extended other at =
      let last = stop + count + 2 in
      along_walk words end
      (λ at. 1 ≤ at → end_after at (blocks_at words end at) ≡ stop
      → fields_in (blocks_at changed last at) other ≡ cond (other == stop) (Some count) (fields_in (blocks_at words end at) other))
      (λ at none from stops.
      let empty : blocks_at words end at ≡ [] = blocks_stop words end at none in
      let same : at ≡ stop = sym (ap (end_after at) empty) ∙ stops in
      ap (λ (from : ℕ). fields_in (blocks_at changed last from) other) same ∙ last_one other
      ∙ sym (ap (λ (blocks : List HeapBlock). cond (other == stop) (Some count) (fields_in blocks other)) empty))
      (λ at has behind from stops.
      let facts : Met words end at = met words end at has in
      let next = block_end (block_at words at) in
      let e : end_after at (blocks_at words end at) ≡ end_after next (blocks_at words end next) = ap (end_after at) (blocks_go words end at has) in
      let there : end_after next (blocks_at words end next) ≡ stop = sym e ∙ stops in
      let under : next ≤ end_after next (blocks_at words end next) = end_after_low words end next in
      let before : next ≤ stop = omega (arith, there, under) in
      let header : slice_index changed at ≡ slice_index words at = low at from (omega (arith, before)) in
      let stands : has_block changed last at ≡ true =
      has_by changed last at (omega (arith, before)) (omega (arith, facts.some, header)) (omega (arith, facts.few, header))
      (omega (arith, facts.kind, header)) (omega (arith, before, header)) in
      let test : Bool = (slice_index words at / 256 == 1) && at == other in
      fields_go changed last at other stands
      ∙ ap (λ (h : ℕ). cond ((h / 256 == 1) && at == other) (Some (h % 256)) (fields_in (blocks_at changed last (at + h % 256 + 2)) other)) header
      ∙ ap (λ (choice : Option ℕ). cond test (Some (slice_index words at % 256)) choice) (behind (omega arith) there)
      ∙ cond_swap test (other == stop) (Some (slice_index words at % 256)) (Some count) (fields_in (blocks_at words end next) other)
      (λ met_here.
      let equal : at ≡ other = eqb-true at other (and_parts (slice_index words at / 256 == 1) (at == other) met_here).1 in
      let ne : other ≢ stop = omega (arith, before) in
      grind (arith, nat_tests))
      ∙ ap (λ (choice : Option ℕ). cond (other == stop) (Some count) choice) (sym (fields_go words end at other has)))
      at
