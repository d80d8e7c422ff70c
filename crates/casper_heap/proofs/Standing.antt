use Rattle.std.proofs.Common.{◌≡◌, ◌≢◌, ℕ, ◌+◌, ◌/◌, ◌%◌, ◌<◌, ◌≤◌, Bool, true, false, cond, ◌&&◌, ◌==◌, List, [], ◌∷◌, refl, sym, ◌∙◌, ap, subst, arith, Option, Some, None}
use Rattle.std.specs.Prelude.{slice_index, nat_lt, nat_eq, option_map}
use Rattle.std.specs.List.{find}
use Rattle.std.specs.Option.{IfSome}
use Rattle.std.proofs.lemmas.Bool.{and_parts, eqb-true}
use Rattle.casper_heap.specs.declared.block.HeapBlock.{HeapBlock}
use Rattle.casper_heap.specs.Walk.{end_of, used_end, block_at, block_end, blocks_at, blocks_of, fields_in, first_free}
use Rattle.casper_heap.specs.Objects.{count_at}
use Rattle.casper_heap.proofs.Tests.{Met, met, mapped}
use Rattle.casper_heap.proofs.Reaching.{Reaches, Found, found, reached_from, reached_block}

pub end_low : (words : List ℕ) → 1 ≤ used_end words
end_low words = omega arith

pub end_most : (words : List ℕ) → used_end words ≤ 512
end_most words = omega arith

-- a block of so many fields stands at a place of a page
pub record Stands (words : List ℕ) (place count kind : ℕ) : Type 0 where
  pub reached : Reaches words (used_end words) 1 place
  pub fields : slice_index words place % 256 ≡ count
  pub live : slice_index words place / 256 ≡ kind
  pub some : 1 ≤ count
  pub few : count ≤ 64
  pub low : 1 ≤ place
  pub ends : place + count + 2 ≤ 512

pub stands_at : (words : List ℕ) (place count kind : ℕ) → Reaches words (used_end words) 1 place → slice_index words place % 256 ≡ count
    → slice_index words place / 256 ≡ kind → Stands words place count kind
stands_at words place count kind reached fields live =
    let facts : Met words (used_end words) place = met words (used_end words) place (reached_block reached) in
    let from : 1 ≤ place = reached_from reached in
    let most : used_end words ≤ 512 = end_most words in
    record {
      reached = reached;
      fields = fields;
      live = live;
      some = omega (arith, facts.some, fields);
      few = omega (arith, facts.few, fields);
      low = from;
      ends = omega (arith, facts.ends, fields, most);
    }

-- an object is a live block that stands at its place
pub object_stands : (words : List ℕ) (place count : ℕ) → count_at words place ≡ Some count → Stands words place count 1
unfolding blocks_of
object_stands words place count is =
    let test : HeapBlock → Bool = λ block. block.live && block.place == place in
    let hit = mapped (λ (block : HeapBlock). block.fields) (find test (blocks_at words (used_end words) 1)) count is in
    let block : HeapBlock = hit.0 in
    let at = found words (used_end words) test block 1 hit.1 in
    let parts = and_parts block.live (block.place == place) at.passes in
    let same : block.place ≡ place = eqb-true block.place place parts.1 in
    let header : slice_index words block.place % 256 ≡ count = sym (ap (λ (b : HeapBlock). b.fields) at.is) ∙ hit.2 in
    let live : slice_index words block.place / 256 ≡ 1 =
    eqb-true (slice_index words block.place / 256) 1 (sym (ap (λ (b : HeapBlock). b.live) at.is) ∙ parts.0) in
    stands_at words place count 1 (subst (Reaches words (used_end words) 1) same at.reached)
    (sym (ap (λ at. slice_index words at % 256) same) ∙ header) (sym (ap (λ at. slice_index words at / 256) same) ∙ live)

-- so it has few fields, and lies within its page
pub count_within : (words : List ℕ) (place : ℕ) (count : Option ℕ) → count ≡ count_at words place → IfSome count (λ count. (count ≤ 64) × (place + count + 2 ≤ 512))
count_within words place None is = tt
count_within words place (Some count) is =
    let so = object_stands words place count (sym is) in
    (so.few, so.ends)

pub count_below : (words : List ℕ) (place : ℕ) (count : Option ℕ) → count ≡ count_at words place → IfSome count (λ _. place < 512)
count_below words place None is = tt
count_below words place (Some count) is =
    let so = object_stands words place count (sym is) in
    let ends : place + count + 2 ≤ 512 = so.ends in
    omega arith
