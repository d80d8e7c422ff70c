use Rattle.std.proofs.Common.{◌≡◌, ℕ, zero, suc, ◌+◌, ◌<◌, ◌≤◌, Bool, true, false, ltb, List, [], ◌∷◌, length, get_or, refl, sym, subst, arith, ◌↔◌, IsTrue}
use Rattle.std.specs.List.{AllPairs, IsAllAdjacentAnswer}
use Rattle.std.proofs.lemmas.Bool.{ltb-true, ltb-false, false≢true}
use Rattle.casper_words.specs.declared.page.Want.{Want}
use Rattle.casper_words.specs.Wants.{PagesRise, PagesRiseAbove}

-- each want's page is below the next one's
abbrev pub EachBelowNext : List Want → Type 0
EachBelowNext wants = (k : ℕ) (d : Want) → suc k < length wants → (get_or wants k d).page < (get_or wants (suc k) d).page

rise_above : (want : Want) (wants : List Want) → EachBelowNext (want ∷ wants) → PagesRiseAbove want.page wants
rise_above want [] each = tt
rise_above want (next ∷ wants) each =
    (each 0 want (omega arith), rise_above next wants (λ k d within. each (suc k) d (omega arith)))

-- a list whose wants are each below the next rises
pub rise_from_each : (wants : List Want) → EachBelowNext wants → PagesRise wants
rise_from_each [] each = tt
rise_from_each (want ∷ wants) each = rise_above want wants each

each_from_above : (want : Want) (wants : List Want) → PagesRiseAbove want.page wants → EachBelowNext (want ∷ wants)
each_from_above want [] rise k d within = absurd (omega arith)
each_from_above want (next ∷ wants) rise zero d within = rise.0
each_from_above want (next ∷ wants) rise (suc k) d within = each_from_above next wants rise.1 k d (omega arith)

-- in a list that rises each want is below the next
pub each_from_rise : (wants : List Want) → PagesRise wants → EachBelowNext wants
each_from_rise [] rise k d within = absurd (omega arith)
each_from_rise (want ∷ wants) rise k d within = each_from_above want wants rise k d within

-- what `is_sorted_by` answers for the pages of a list
pub rise_answer : (wants : List Want) (result : Bool) → IsAllAdjacentAnswer (λ x y b. b ≡ ltb x.page y.page) wants result → IsTrue result ↔ PagesRise wants
rise_answer wants true answer = (
  λ _. rise_from_each wants (λ k d within.
      let next : k + 1 ≡ suc k = omega arith in
      let test : true ≡ ltb (get_or wants k d).page (get_or wants (k + 1) d).page = answer k d (omega arith) in
      let P : ℕ → Type 0 = λ n. (get_or wants k d).page < (get_or wants n d).page in
      subst P next (ltb-true (get_or wants k d).page (get_or wants (k + 1) d).page (sym test))),
  λ _. refl,
)
rise_answer wants false answer = (
  λ found. absurd (false≢true found),
  λ rise.
      let at : ℕ = answer.0 in
      let next : at + 1 ≡ suc at = omega arith in
      let within : at + 1 < length wants = answer.1 in
      elim wants as (λ xs. at + 1 < length xs → PagesRise xs → ((d : Want) → false ≡ ltb (get_or xs at d).page (get_or xs (at + 1) d).page) → false ≡ true) [
        | [] ↦ λ short held test. absurd (omega arith)
        | want ∷ rest ↦ λ short held test.
            let below : (get_or (want ∷ rest) at want).page < (get_or (want ∷ rest) (suc at) want).page = each_from_rise (want ∷ rest) held at want (omega arith) in
            let P : ℕ → Type 0 = λ n. (get_or (want ∷ rest) at want).page < (get_or (want ∷ rest) n want).page in
            let low = subst P (sym next) below in
            let high : (get_or (want ∷ rest) (at + 1) want).page ≤ (get_or (want ∷ rest) at want).page =
            ltb-false (get_or (want ∷ rest) at want).page (get_or (want ∷ rest) (at + 1) want).page (sym (test want)) in
            absurd (omega (arith, low, high))
      ] within rise answer.2,
)

lower_behind : (want : Want) (wants : List Want) → PagesRiseAbove want.page wants → (k : ℕ) (d : Want) → k < length wants → want.page < (get_or wants k d).page
lower_behind want [] rise k d within = absurd (omega arith)
lower_behind want (next ∷ wants) rise zero d within = rise.0
lower_behind want (next ∷ wants) rise (suc k) d within =
    let behind : next.page < (get_or wants k d).page = lower_behind next wants rise.1 k d (omega arith) in
    let first : want.page < next.page = rise.0 in
    omega arith

pairs_above : (want : Want) (wants : List Want) → PagesRiseAbove want.page wants → (i j : ℕ) (d : Want) → i < j → j < length (want ∷ wants) → (get_or (want ∷ wants) i d).page < (get_or (want ∷ wants) j d).page
pairs_above want wants rise i zero d below within = absurd (omega arith)
pairs_above want wants rise zero (suc j) d below within = lower_behind want wants rise j d (omega arith)
pairs_above want [] rise (suc i) (suc j) d below within = absurd (omega arith)
pairs_above want (next ∷ wants) rise (suc i) (suc j) d below within = pairs_above next wants rise.1 i j d (omega arith) (omega arith)

-- of any two wants of a list that rises, the earlier has the lower page
pub pairs_from_rise : (wants : List Want) → PagesRise wants → AllPairs (λ earlier later. earlier.page < later.page) wants
pairs_from_rise [] rise i j d below within = absurd (omega arith)
pairs_from_rise (want ∷ wants) rise i j d below within = pairs_above want wants rise i j d below within
