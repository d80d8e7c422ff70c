use Rattle.std.proofs.Common.{◌≡◌, ◌<◌, ℕ, List, [], ◌∷◌, Bool, true, false, cond, Option, Some, IsSome, refl, sym, subst, arith}
use Rattle.std.specs.Prelude.{◌==◌, nat_lt, All}
use Rattle.std.proofs.lemmas.Bool.Decides.{nat_tests}
use Rattle.std.proofs.lemmas.List.Elements.{All-head, All-tail, All-same}
use Rattle.casper_words.specs.declared.page.Right.{Right}
use Rattle.casper_words.specs.declared.page.Want.{Want}
use Rattle.casper_shell.specs.Holding.{Allows, Holds, reading, writing, in_order, writing_and_reading}

module _ (P : Want → Type 0) where
  -- what holds of all wants holds of the first
  of_first : {wants : List Want} (want : Want) (following : List Want) → wants ≡ want ∷ following → All P wants → P want
  of_first {wants} want following is all = All-head P want following (All-same P (want ∷ following) wants (sym is) all)

  in_either_order : (first : Bool) (one other : Want) → All P (cond first (one ∷ other ∷ []) (other ∷ one ∷ [])) → P one × P other
  in_either_order true one other all = (All-head P one (other ∷ []) all, All-head P other [] (All-tail P one (other ∷ []) all))
  in_either_order false one other all = (All-head P one [] (All-tail P other (one ∷ []) all), All-head P other (one ∷ []) all)

  by_test : (same : Bool) (page other : ℕ) → (same ≡ true → P (writing page) → P (reading other))
      → All P (cond same (writing page ∷ []) (in_order (writing page) (reading other))) → P (writing page) × P (reading other)
  by_test true page other is all = let first = All-head P (writing page) [] all in (first, is refl first)
  by_test false page other is all = in_either_order (nat_lt page other) (writing page) (reading other) all

  -- what holds of a page for writing and a page for reading holds of both
  of_both : {wants : List Want} (page other : ℕ) → wants ≡ writing_and_reading page other → (page ≡ other → P (writing page) → P (reading other))
      → All P wants → P (writing page) × P (reading other)
  of_both {wants} page other is same all =
      by_test (page == other) page other (λ test. same (grind (arith, nat_tests))) (All-same P (writing_and_reading page other) wants (sym is) all)

module _ (right : ℕ → Option Right) where
  -- the first page is held
  pub first_held : {wants : List Want} (want : Want) → wants ≡ want ∷ [] → Holds right wants → Allows (right want.page) want.right
  first_held want is held = of_first (λ want. Allows (right want.page) want.right) want [] is held

  read_too : (page other : ℕ) → page ≡ other → right page ≡ Some Right.Write → IsSome (right other)
  read_too page other same written = subst (λ (at : ℕ). IsSome (right at)) same (subst (λ (found : Option Right). IsSome found) (sym written) refl)

  -- both pages are held
  pub both_held : {wants : List Want} (page other : ℕ) → wants ≡ writing_and_reading page other → Holds right wants
      → (right page ≡ Some Right.Write) × IsSome (right other)
  both_held page other is held = of_both (λ want. Allows (right want.page) want.right) page other is (read_too page other) held

module _ (pages : ℕ) where
  -- the first page is within a store
  pub first_within : {wants : List Want} (want : Want) → wants ≡ want ∷ [] → All (λ want. want.page < pages) wants → want.page < pages
  first_within want is within = of_first (λ want. want.page < pages) want [] is within

  -- both pages are
  pub both_within : {wants : List Want} (page other : ℕ) → wants ≡ writing_and_reading page other → All (λ want. want.page < pages) wants
      → (page < pages) × (other < pages)
  both_within page other is within =
      of_both (λ want. want.page < pages) page other is (λ same below. subst (λ (at : ℕ). at < pages) same below) within
