use Rattle.std.proofs.Common.{◌≡◌, ℕ, zero, suc, ◌+◌, ◌/◌, ◌%◌, ◌<◌, ◌≤◌, Bool, true, false, cond, ◌&&◌, refl, arith}
use Rattle.std.specs.Prelude.{nat_lt, nat_le, List, slice_index, Option, Some, None, option_map, Result, Ok, Err}
use Rattle.std.proofs.lemmas.Bool.{and_parts}
use Rattle.std.proofs.lemmas.Bool.Decides.{nat_tests}
use Rattle.casper_heap.specs.Walk.{is_header, is_block, has_block, block_at, block_end}

-- two choices by one test are the same where the parts are
pub cond_same : {X : Type 0} (test : Bool) (x y x' y' : X) → (test ≡ true → x ≡ x') → (test ≡ false → y ≡ y') → cond test x y ≡ cond test x' y'
cond_same true x y x' y' here there = here refl
cond_same false x y x' y' here there = there refl

-- what is known of a block that a walk meets
pub record Met (words : List ℕ) (end place : ℕ) : Type 0 where
  pub before : place < end
  pub some : 1 ≤ slice_index words place % 256
  pub few : slice_index words place % 256 ≤ 64
  pub kind : slice_index words place / 256 ≤ 1
  pub ends : block_end (block_at words place) ≤ end

pub met : (words : List ℕ) (end place : ℕ) → has_block words end place ≡ true → Met words end place
met words end place is = record {
  before = grind (arith, nat_tests);
  some = grind (arith, nat_tests);
  few = grind (arith, nat_tests);
  kind = grind (arith, nat_tests);
  ends = grind (arith, nat_tests);
}

pub none_from_end : (words : List ℕ) (end place : ℕ) → end ≤ place → has_block words end place ≡ false
none_from_end words end place past = grind (arith, nat_tests)

-- what an answer by a test says of the test
pub some_by_test : {X : Type 0} (test : Bool) (x y : X) → cond test (Some x) None ≡ Some y → (test ≡ true) × (x ≡ y)
some_by_test true x y is = (refl, cc)
some_by_test false x y is = cc

pub none_by_test : {X : Type 0} (test : Bool) (x : X) → cond test (Some x) None ≡ None → test ≡ false
none_by_test true x is = cc
none_by_test false x is = refl

pub ok_by_test : {X E : Type 0} (test : Bool) (x y : X) (fault : E) → cond test (Ok x) (Err fault) ≡ Ok y → (test ≡ true) × (x ≡ y)
ok_by_test true x y fault is = (refl, cc)
ok_by_test false x y fault is = cc

pub err_by_test : {X E : Type 0} (test : Bool) (x : X) (fault other : E) → cond test (Ok x) (Err fault) ≡ Err other → (test ≡ false) × (fault ≡ other)
err_by_test true x fault other is = cc
err_by_test false x fault other is = (refl, cc)

-- what a choice was mapped from
pub mapped : {X Y : Type 0} (f : X → Y) (choice : Option X) (y : Y) → option_map f choice ≡ Some y → (x : X) × (choice ≡ Some x) × (f x ≡ y)
mapped f None y is = cc
mapped f (Some x) y is = (x, refl, cc)
