use Rattle.std.proofs.Common.{◌≡◌, ◌≢◌, ◌⊎◌, ◌<◌, ◌≤◌, ℕ, zero, suc, List, [], ◌∷◌, Bool, true, false, ◌==◌, ◌||◌, cond, nat_eq, refl, sym, ap, ap₂, ◌∙◌, ⊎_elim, inl, inr, true≢false, arith}
use Rattle.std.specs.Prelude.{nat_lt}
use Rattle.std.specs.List.{IsDistinct, AllByRecursion, AllPairs}
use Rattle.std.specs.List.Sorted.{IsStrictlyIncreasing}
use Rattle.std.proofs.lemmas.List.Kept.{AllPairs-from_increasing}
use Rattle.std.proofs.lemmas.Cmp.{nat_eq_equiv}
use Rattle.std.proofs.lemmas.List.Elements.{recursion_from_All}
use Rattle.std.proofs.lemmas.Bool.{cond_both, cases_eq, or_left, eqb-true, eqb-false, ne_eqb, ltb-true, ltb-false, cases_lt}
use Rattle.casper_space.specs.Rising.{with_number, with_numbers, rising}
use Rattle.casper_assoc.specs.Written.{is_listed}

-- A rising list has each of its numbers once, and those that it was made of.

-- each number is below those after it
abbrev pub Rises : List ℕ → Type 0
Rises [] = Unit {0}
Rises (first ∷ rest) = AllByRecursion (λ one. first < one) rest × Rises rest

-- a list with one number more, by where the number goes
with_cases : (P : List ℕ → Type 0) (first : ℕ) (rest : List ℕ) (number : ℕ) → (first ≡ number → P (first ∷ rest)) → (number < first → P (number ∷ first ∷ rest))
    → (first < number → P (first ∷ with_number rest number)) → P (with_number (first ∷ rest) number)
with_cases P first rest number same below above =
    cond_both (first == number) (first ∷ rest) (cond (nat_lt number first) (number ∷ first ∷ rest) (first ∷ with_number rest number)) P
    (λ is. same (eqb-true first number is))
    (λ apart.
    cond_both (nat_lt number first) (number ∷ first ∷ rest) (first ∷ with_number rest number) P
    (λ is. below (ltb-true number first is))
    (λ over. above (grind (arith, eqb-false first number apart, ltb-false number first over))))

above_with : (list : List ℕ) (low number : ℕ) → AllByRecursion (λ one. low < one) list → low < number → AllByRecursion (λ one. low < one) (with_number list number)
above_with [] low number all new = (new, tt)
above_with (first ∷ rest) low number all new =
    with_cases (λ list. AllByRecursion (λ one. low < one) list) first rest number (λ same. all) (λ below. (new, all))
    (λ above. (all.0, above_with rest low number all.1 new))

above_less : (list : List ℕ) (low high : ℕ) → low < high → AllByRecursion (λ one. high < one) list → AllByRecursion (λ one. low < one) list
above_less [] low high less all = tt
above_less (first ∷ rest) low high less all = (omega (arith, less, all.0), above_less rest low high less all.1)

rises_with : (list : List ℕ) (number : ℕ) → Rises list → Rises (with_number list number)
rises_with [] number rises = (tt, tt)
rises_with (first ∷ rest) number rises =
    with_cases Rises first rest number (λ same. rises)
    (λ below. ((below, above_less rest number first below rises.0), rises))
    (λ above. (above_with rest first number rises.0 above, rises_with rest number rises.1))

rises_with_all : (numbers list : List ℕ) → Rises list → Rises (with_numbers list numbers)
rises_with_all [] list rises = rises
rises_with_all (number ∷ numbers) list rises = rises_with_all numbers (with_number list number) (rises_with list number rises)

apart_from : (first : ℕ) (rest : List ℕ) → AllByRecursion (λ one. first < one) rest → AllByRecursion (λ one. nat_eq first one ≡ false) rest
apart_from first [] all = tt
apart_from first (one ∷ rest) all = (ne_eqb first one (λ same. omega (arith, same, all.0)), apart_from first rest all.1)

distinct_of_rising : (list : List ℕ) → Rises list → IsDistinct nat_eq list
unfolding IsDistinct
distinct_of_rising [] rises = tt
distinct_of_rising (first ∷ rest) rises = (apart_from first rest rises.0, distinct_of_rising rest rises.1)

-- no two numbers of a rising list are the same
pub rising_is_distinct : (numbers : List ℕ) → IsDistinct nat_eq (rising numbers)
rising_is_distinct numbers = distinct_of_rising (rising numbers) (rises_with_all numbers [] tt)

twice : (x y : Bool) → (x || y) ≡ (x || (x || y))
twice true y = refl
twice false y = refl

swapped : (x y z : Bool) → (x || (y || z)) ≡ (y || (x || z))
swapped true true z = refl
swapped true false z = refl
swapped false true z = refl
swapped false false z = refl

moved : (x y z : Bool) → (x || (y || z)) ≡ ((y || x) || z)
moved true true z = refl
moved true false z = refl
moved false true z = refl
moved false false z = refl

listed_with : (list : List ℕ) (number page : ℕ) → is_listed page (with_number list number) ≡ ((page == number) || is_listed page list)
listed_with [] number page = refl
listed_with (first ∷ rest) number page =
    with_cases (λ list. is_listed page list ≡ ((page == number) || ((page == first) || is_listed page rest))) first rest number
    (λ same. twice (page == first) (is_listed page rest) ∙ ap (λ (at : ℕ). (page == at) || ((page == first) || is_listed page rest)) same)
    (λ below. refl)
    (λ above. ap (λ (b : Bool). (page == first) || b) (listed_with rest number page) ∙ swapped (page == first) (page == number) (is_listed page rest))

listed_with_all : (numbers list : List ℕ) (page : ℕ) → is_listed page (with_numbers list numbers) ≡ (is_listed page numbers || is_listed page list)
listed_with_all [] list page = refl
listed_with_all (number ∷ numbers) list page =
    listed_with_all numbers (with_number list number) page
    ∙ ap (λ (b : Bool). is_listed page numbers || b) (listed_with list number page)
    ∙ moved (is_listed page numbers) (page == number) (is_listed page list)

or_false : (x : Bool) → (x || false) ≡ x
or_false true = refl
or_false false = refl

-- a rising list has the numbers that it was made of
pub rising_lists : (numbers : List ℕ) (page : ℕ) → is_listed page (rising numbers) ≡ is_listed page numbers
rising_lists numbers page = listed_with_all numbers [] page ∙ or_false (is_listed page numbers)

-- the numbers of a list by place rise by recursion too
rises_from_pairs : (list : List ℕ) → AllPairs (λ x y. x < y) list → Rises list
rises_from_pairs [] pairs = tt
rises_from_pairs (first ∷ rest) pairs = (
  recursion_from_All (λ one. first < one) rest (λ k d within. pairs zero (suc k) d (omega arith) (omega (arith, within))),
  rises_from_pairs rest (λ i j d before within. pairs (suc i) (suc j) d (omega (arith, before)) (omega (arith, within))),
)

not_listed : (list : List ℕ) (low : ℕ) → AllByRecursion (λ one. low < one) list → is_listed low list ≡ false
not_listed [] low all = refl
not_listed (first ∷ rest) low all =
    ap (λ (b : Bool). b || is_listed low rest) (ne_eqb low first (λ same. omega (arith, same, all.0))) ∙ not_listed rest low all.1

sides : (first second : ℕ) → first ≢ second → (first < second) ⊎ (second < first)
sides first second apart = ⊎_elim (λ (below : first < second). inl below) (λ (over : second ≤ first). inr (grind (arith, over, apart))) (cases_lt first second)

-- of two rising lists with the same numbers, the least are the same
least_is : (first second : ℕ) (rest others : List ℕ) → Rises (first ∷ rest) → Rises (second ∷ others)
    → is_listed first (first ∷ rest) ≡ is_listed first (second ∷ others) → is_listed second (first ∷ rest) ≡ is_listed second (second ∷ others)
    → first ≡ second
least_is first second rest others rises above here there =
    ⊎_elim
    (λ (same : first ≡ second). same)
    (λ (apart : first ≢ second). absurd (⊎_elim
    (λ (below : first < second).
    true≢false (sym (or_left (first == first) (is_listed first rest) (nat_eq_equiv.refl first)) ∙ here
    ∙ not_listed (second ∷ others) first (below, above_less others first second below above.0)))
    (λ (over : second < first).
    true≢false (sym (or_left (second == second) (is_listed second others) (nat_eq_equiv.refl second)) ∙ sym there
    ∙ not_listed (first ∷ rest) second (over, above_less rest second first over rises.0)))
    (sides first second apart)))
    (cases_eq first second)

-- rising lists with the same numbers are the same
same_rising : (list other : List ℕ) → Rises list → Rises other → ((page : ℕ) → is_listed page list ≡ is_listed page other) → list ≡ other
same_rising [] [] rises above same = refl
same_rising [] (second ∷ others) rises above same =
    absurd (true≢false (sym (or_left (second == second) (is_listed second others) (nat_eq_equiv.refl second)) ∙ sym (same second)))
same_rising (first ∷ rest) [] rises above same =
    absurd (true≢false (sym (or_left (first == first) (is_listed first rest) (nat_eq_equiv.refl first)) ∙ same first))
same_rising (first ∷ rest) (second ∷ others) rises above same =
    let least = least_is first second rest others rises above (same first) (same second) in
    ap₂ (λ (x : ℕ) (xs : List ℕ). x ∷ xs) least (same_rising rest others rises.1 above.1 (λ page. without page least))
  where
    without : (page : ℕ) → first ≡ second → is_listed page rest ≡ is_listed page others
    without page least =
        ⊎_elim
        (λ (at : page ≡ first).
        ap (λ (p : ℕ). is_listed p rest) at ∙ not_listed rest first rises.0
        ∙ sym (ap (λ (p : ℕ). is_listed p others) (at ∙ least) ∙ not_listed others second above.0))
        (λ (other : page ≢ first).
        ap (λ (b : Bool). b || is_listed page rest) (sym (ne_eqb page first other)) ∙ same page
        ∙ ap (λ (b : Bool). b || is_listed page others) (ne_eqb page second (λ at. other (at ∙ sym least))))
        (cases_eq page first)

-- a rising list is that of its numbers
pub rising_is_one : (list numbers : List ℕ) → IsStrictlyIncreasing list → ((page : ℕ) → is_listed page list ≡ is_listed page (rising numbers))
    → list ≡ rising numbers
rising_is_one list numbers rises same =
    same_rising list (rising numbers) (rises_from_pairs list (AllPairs-from_increasing list rises)) (rises_with_all numbers [] tt) same
