use Rattle.std.proofs.Common.{◌≡◌, ◌⊎◌, ℕ, List, [], ◌∷◌, ◌++◌, Bool, true, false, cond, not, ◌&&◌, ◌||◌, length, take, map, reverse, filter, refl, sym, ap, ◌∙◌, subst, inl, inr, ⊎_elim, ◌-◌}
use Rattle.std.specs.List.{list_any}
use Rattle.std.proofs.lemmas.Bool.{or_cases, or_left, or_right, and_parts, and_from, eqb-true, eq-eqb, true≢false, cond-false, not_from_false}
use Rattle.std.proofs.lemmas.List.{reverse-append}
use Rattle.std.proofs.lemmas.List.Folds.{list_any-append}
use Rattle.casper_words.specs.declared.page.Right.{Right}
use Rattle.casper_words.specs.declared.page.Right.TheVariants as may
use Rattle.casper_words.specs.declared.page.Want.{Want}
use Rattle.casper_model.specs.Held.{is_of, covers, holds, allows, missing_of, with_first, granted_right, with_granted}
use Rattle.casper_model.specs.Rights.{AllowTheSame}
use Rattle.casper_model.proofs.HeldRights.{passes, allows_covered, any_in_append, any_in_filter, any_in_take, any_in_map}

any_in_reverse : {X : Type 0} (test : X → Bool) (xs : List X) → list_any test (reverse xs) ≡ true → list_any test xs ≡ true
any_in_reverse test [] found = found
any_in_reverse {X} test (x ∷ xs) found =
    let split : list_any test (reverse xs ++ x ∷ []) ≡ true = ap (list_any test) (sym (reverse-append (x ∷ []) xs)) ∙ found in
    ⊎_elim
    (λ later. or_right (test x) (list_any test xs) (any_in_reverse test xs later))
    (λ first. or_left (test x) (list_any test xs) (⊎_elim (λ is. is) (λ none. absurd (true≢false (sym none))) (or_cases (test x) false first)))
    (any_in_append test (reverse xs) (x ∷ []) split)

-- to write covers every right
covers_all : (right : Right) → covers may.Write right ≡ true
covers_all right = refl

-- what one granted want allows, the page allowed before, or the want was missing
granted_want : (held : List Want) (page : ℕ) (right : Right) (want : Want) → passes page right (granted_right held want) ≡ true
    → (allows held page right ≡ true) ⊎ ((not (allows held want.page want.right) && passes page right want) ≡ true)
granted_want held page right want both = written (allows held want.page may.Write) refl
  where
    same : want.page ≡ page
    same = eqb-true want.page page (and_parts (is_of page want) (covers (granted_right held want).right right) both).0

    covered : covers (cond (allows held want.page may.Write) may.Write want.right) right ≡ true
    covered = (and_parts (is_of page want) (covers (granted_right held want).right right) both).1

    missing : (before : Bool) → allows held want.page want.right ≡ before → covers want.right right ≡ true
        → (allows held page right ≡ true) ⊎ ((not (allows held want.page want.right) && passes page right want) ≡ true)
    missing true e over = inl (subst (λ at. allows held at right ≡ true) same (allows_covered held want.page want.right right over e))
    missing false e over =
        inr (and_from (not (allows held want.page want.right)) (passes page right want) (not_from_false (allows held want.page want.right) e)
        (and_from (is_of page want) (covers want.right right) (eq-eqb want.page page same) over))

    written : (before : Bool) → allows held want.page may.Write ≡ before
        → (allows held page right ≡ true) ⊎ ((not (allows held want.page want.right) && passes page right want) ≡ true)
    written true e = inl (subst (λ at. allows held at right ≡ true) same (allows_covered held want.page may.Write right (covers_all right) e))
    written false e =
        missing (allows held want.page want.right) refl
        (subst (λ now. covers now right ≡ true) (cond-false (allows held want.page may.Write) may.Write want.right e) covered)

granted_wants : (held : List Want) (page : ℕ) (right : Right) (wants : List Want) → list_any (λ want. passes page right (granted_right held want)) wants ≡ true
    → (allows held page right ≡ true) ⊎ (list_any (passes page right) (missing_of held wants) ≡ true)
granted_wants held page right [] found = absurd (true≢false (sym found))
granted_wants held page right (want ∷ wants) found =
    ⊎_elim
    (λ first. ⊎_elim inl (λ missed. inr (here (not (allows held want.page want.right)) missed)) (granted_want held page right want first))
    (λ later. ⊎_elim inl (λ missed. inr (there (not (allows held want.page want.right)) missed)) (granted_wants held page right wants later))
    (or_cases (passes page right (granted_right held want)) (list_any (λ one. passes page right (granted_right held one)) wants) found)
  where
    here : (kept : Bool) → (kept && passes page right want) ≡ true
        → list_any (passes page right) (cond kept (want ∷ missing_of held wants) (missing_of held wants)) ≡ true
    here true passed = or_left (passes page right want) (list_any (passes page right) (missing_of held wants)) passed
    here false passed = absurd (true≢false (sym passed))

    there : (kept : Bool) → list_any (passes page right) (missing_of held wants) ≡ true
        → list_any (passes page right) (cond kept (want ∷ missing_of held wants) (missing_of held wants)) ≡ true
    there true passed = or_right (passes page right want) (list_any (passes page right) (missing_of held wants)) passed
    there false passed = passed

-- what is held once wants were granted was held before, or is one of the missing wants
pub granted_allow : (capacity : ℕ) (wants held : List Want) (page : ℕ) (right : Right) → allows (with_granted capacity wants held) page right ≡ true
    → (allows held page right ≡ true) ⊎ (list_any (passes page right) (missing_of held wants) ≡ true)
granted_allow capacity wants held page right found =
    ⊎_elim
    (λ front.
    granted_wants held page right wants
    (sym (any_in_map (passes page right) (granted_right held) wants) ∙ any_in_reverse (passes page right) (map (granted_right held) wants) front))
    (λ back. inl (any_in_filter (passes page right) (λ want. not (holds wants want.page)) held (any_in_take (passes page right) (capacity - length wants) others back)))
    (any_in_append (passes page right) (reverse (map (granted_right held) wants)) (take (capacity - length wants) others) found)
  where
    others : List Want
    others = filter (λ want. not (holds wants want.page)) held

or_swap : (a b c : Bool) → (a || (b || c)) ≡ (b || (a || c))
or_swap true true c = refl
or_swap true false c = refl
or_swap false b c = refl

any_split : {X : Type 0} (test keep : X → Bool) (xs : List X) → (list_any test (filter keep xs) || list_any test (filter (λ x. not (keep x)) xs)) ≡ list_any test xs
any_split test keep [] = refl
any_split {X} test keep (x ∷ xs) = step (keep x) (any_split test keep xs)
  where
    kept : Bool
    kept = list_any test (filter keep xs)

    others : Bool
    others = list_any test (filter (λ x. not (keep x)) xs)

    or_assoc : (a b c : Bool) → ((a || b) || c) ≡ (a || (b || c))
    or_assoc true b c = refl
    or_assoc false b c = refl

    step : (is : Bool) → (kept || others) ≡ list_any test xs
        → (list_any test (cond is (x ∷ filter keep xs) (filter keep xs)) || list_any test (cond (not is) (x ∷ filter (λ x. not (keep x)) xs) (filter (λ x. not (keep x)) xs)))
        ≡ (test x || list_any test xs)
    step true same = or_assoc (test x) kept others ∙ ap (λ rest. test x || rest) same
    step false same = or_swap kept (test x) others ∙ ap (λ rest. test x || rest) same

-- a page brought to the front changes no right
pub first_allows_the_same : (page : ℕ) (held : List Want) → AllowTheSame (with_first page held) held
first_allows_the_same page held at right =
    list_any-append (passes at right) (filter (is_of page) held) (filter (λ want. not (is_of page want)) held) ∙ any_split (passes at right) (is_of page) held
