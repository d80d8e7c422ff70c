use Rattle.std.proofs.Common.{◌≡◌, ◌<◌, ◌≤◌, ◌+◌, ◌==◌, ℕ, suc, List, [], ◌∷◌, ◌++◌, Bool, true, false, cond, ◌||◌, map, filter, length, take, refl, ap, true≢false, arith}
use Rattle.std.specs.Prelude.{Option, None, Some, filter_map, reverse}
use Rattle.std.specs.List.{count_by, list_any, cons_option}
use Rattle.std.proofs.lemmas.Bool.{eqb-true}
use Rattle.std.proofs.lemmas.List.Sums.{sum_by-cons, sum_by-append, sum_by-take-le}
use Rattle.std.proofs.lemmas.List.Sorted.{sum_by-IsPermutation, IsPermutation-reverse}
use Rattle.casper_words.specs.Wants.{PagesRise, PagesRiseAbove}
use Rattle.casper_words.specs.declared.page.Want.{Want}
use Rattle.casper_model.specs.Held.{is_of}
use Rattle.casper_caches.specs.HeldPages.{HoldsEachOnce}

-- How often a test passes in a list.

-- one where it passes, and none where it does not
abbrev one_if : Bool → ℕ
one_if b = cond b 1 0

passes_once : (b : Bool) → b ≡ true → one_if b ≡ 1
passes_once b is = ap one_if is

passes_never : (b : Bool) → b ≡ false → one_if b ≡ 0
passes_never b is = ap one_if is

module _ {X : Type 0} (p : X → Bool) where
  pub count_cons : (x : X) (xs : List X) → count_by p (x ∷ xs) ≡ cond (p x) 1 0 + count_by p xs
  count_cons x xs = sum_by-cons (λ (y : X). cond (p y) 1 0) x xs

  pub count_append : (xs ys : List X) → count_by p (xs ++ ys) ≡ count_by p xs + count_by p ys
  count_append xs ys = sum_by-append (λ (y : X). cond (p y) 1 0) xs ys

  pub count_take : (count : ℕ) (xs : List X) → count_by p (take count xs) ≤ count_by p xs
  count_take count xs = sum_by-take-le (λ (y : X). cond (p y) 1 0) xs count

  pub count_reverse : (xs : List X) → count_by p (reverse xs) ≡ count_by p xs
  count_reverse xs = sum_by-IsPermutation (λ (y : X). cond (p y) 1 0) xs (reverse xs) (IsPermutation-reverse xs)

  filter_by : (x : X) (xs kept : List X) → count_by p kept ≤ count_by p xs → (keep : Bool) → count_by p (cond keep (x ∷ kept) kept) ≤ count_by p (x ∷ xs)
  filter_by x xs kept rest true = let e = count_cons x xs in let g = count_cons x kept in omega (arith, e, g, rest)
  filter_by x xs kept rest false = let e = count_cons x xs in omega (arith, e, rest)

  pub count_filter : (keep : X → Bool) (xs : List X) → count_by p (filter keep xs) ≤ count_by p xs
  count_filter keep [] = omega arith
  count_filter keep (x ∷ xs) = filter_by x xs (filter keep xs) (count_filter keep xs) (keep x)

  pub count_map : (f : X → X) → ((x : X) → p (f x) ≡ p x) → (xs : List X) → count_by p (map f xs) ≡ count_by p xs
  count_map f same [] = refl
  count_map f same (x ∷ xs) =
      let here = ap one_if (same x) in
      let rest = count_map f same xs in
      let e = count_cons x xs in
      let g = count_cons (f x) (map f xs) in
      omega (arith, e, g, here, rest)

  kept_by : (keep : X → Option X) → ((x left : X) → keep x ≡ Some left → p left ≡ p x) → (x : X) (xs kept : List X) → count_by p kept ≤ count_by p xs
      → (one : Option X) → keep x ≡ one → count_by p (cons_option one kept) ≤ count_by p (x ∷ xs)
  kept_by keep same x xs kept rest None is = let e = count_cons x xs in omega (arith, e, rest)
  kept_by keep same x xs kept rest (Some left) is =
      let here = ap one_if (same x left is) in
      let e = count_cons x xs in
      let g = count_cons left kept in
      omega (arith, e, g, here, rest)

  pub count_kept : (keep : X → Option X) → ((x left : X) → keep x ≡ Some left → p left ≡ p x) → (xs : List X) → count_by p (filter_map keep xs) ≤ count_by p xs
  count_kept keep same [] = omega arith
  count_kept keep same (x ∷ xs) = kept_by keep same x xs (filter_map keep xs) (count_kept keep same xs) (keep x) refl

  none_by : (x : X) (xs : List X) → (list_any p xs ≡ false → count_by p xs ≡ 0) → (first : Bool) → p x ≡ first → (first || list_any p xs) ≡ false
      → count_by p (x ∷ xs) ≡ 0
  none_by x xs rest true is found = absurd (true≢false found)
  none_by x xs rest false is none =
      let e = count_cons x xs in let here = passes_never (p x) is in let later = rest none in omega (arith, e, here, later)

  pub count_none : (xs : List X) → list_any p xs ≡ false → count_by p xs ≡ 0
  count_none [] none = refl
  count_none (x ∷ xs) none = none_by x xs (λ later. count_none xs later) (p x) refl none

  out_by : (x : X) (kept : List X) → count_by p kept ≡ 0 → (keep passes : Bool) → (p x ≡ true → keep ≡ false) → p x ≡ passes → count_by p (cond keep (x ∷ kept) kept) ≡ 0
  out_by x kept rest false passes out e = rest
  out_by x kept rest true false out e = let g = count_cons x kept in let here = passes_never (p x) e in omega (arith, g, here, rest)
  out_by x kept rest true true out e = absurd (true≢false (out e))

  -- what a filter lets out is counted no more
  pub count_filtered_out : (keep : X → Bool) → ((x : X) → p x ≡ true → keep x ≡ false) → (xs : List X) → count_by p (filter keep xs) ≡ 0
  count_filtered_out keep out [] = refl
  count_filtered_out keep out (x ∷ xs) = out_by x (filter keep xs) (count_filtered_out keep out xs) (keep x) (p x) (out x) refl

length_by : {Y : Type 0} (count : ℕ) (kept : List Y) → length kept ≤ count → (one : Option Y) → length (cons_option one kept) ≤ suc count
length_by count kept rest None = omega (arith, rest)
length_by count kept rest (Some left) = omega (arith, rest)

pub length_kept : {X Y : Type 0} (keep : X → Option Y) (xs : List X) → length (filter_map keep xs) ≤ length xs
length_kept keep [] = omega arith
length_kept keep (x ∷ xs) = length_by (length xs) (filter_map keep xs) (length_kept keep xs) (keep x)

-- pages that rise stand once each
below_by : (page : ℕ) (want : Want) (wants : List Want) → page < want.page → (page ≤ want.page → count_by (is_of page) wants ≡ 0)
    → (same : Bool) → (want.page == page) ≡ same → count_by (is_of page) (want ∷ wants) ≡ 0
below_by page want wants above rest true is = let e = eqb-true want.page page is in absurd (omega (arith, e, above))
below_by page want wants above rest false is =
    let here = passes_never (is_of page want) is in
    let e = count_cons (is_of page) want wants in
    let lower : page ≤ want.page = omega (arith, above) in
    let later = rest lower in
    omega (arith, e, here, later)

none_below : (low page : ℕ) (wants : List Want) → PagesRiseAbove low wants → page ≤ low → count_by (is_of page) wants ≡ 0
none_below low page [] rise below = refl
none_below low page (want ∷ wants) rise below =
    let above = rise.0 in
    let higher : page < want.page = omega (arith, above, below) in
    below_by page want wants higher (λ lower. none_below want.page page wants rise.1 lower) (want.page == page) refl

once_by : (page : ℕ) (want : Want) (wants : List Want) → PagesRiseAbove want.page wants → count_by (is_of page) wants ≤ 1
    → (same : Bool) → (want.page == page) ≡ same → count_by (is_of page) (want ∷ wants) ≤ 1
once_by page want wants rise rest true is =
    let here = passes_once (is_of page want) is in
    let e = count_cons (is_of page) want wants in
    let equal = eqb-true want.page page is in
    let lower : page ≤ want.page = omega (arith, equal) in
    let later = none_below want.page page wants rise lower in
    omega (arith, e, here, later)
once_by page want wants rise rest false is =
    let here = passes_never (is_of page want) is in
    let e = count_cons (is_of page) want wants in
    omega (arith, e, here, rest)

above_once : (low : ℕ) (wants : List Want) → PagesRiseAbove low wants → HoldsEachOnce wants
above_once low [] rise page = omega arith
above_once low (want ∷ wants) rise page = once_by page want wants rise.1 (above_once want.page wants rise.1 page) (want.page == page) refl

pub wants_once : (wants : List Want) → PagesRise wants → HoldsEachOnce wants
wants_once [] rise page = omega arith
wants_once (want ∷ wants) rise page = once_by page want wants rise (above_once want.page wants rise page) (want.page == page) refl
