use Rattle.std.proofs.Common.{◌≡◌, ◌⊎◌, ℕ, zero, suc, List, [], ◌∷◌, ◌++◌, Bool, true, false, cond, ◌&&◌, ◌||◌, take, map, filter, refl, sym, ap, ◌∙◌, subst, ⊎_elim}
use Rattle.std.specs.Prelude.{Option, None, Some, filter_map}
use Rattle.std.specs.List.{list_any, cons_option}
use Rattle.std.proofs.lemmas.Bool.{or_cases, or_left, or_right, and_parts, and_from, true≢false}
use Rattle.std.proofs.lemmas.List.Folds.{list_any-append}
use Rattle.casper_trail.proofs.Rounds.{list_any_implies}
use Rattle.casper_words.specs.declared.page.Right.{Right}
use Rattle.casper_words.specs.declared.page.Right.TheVariants as may
use Rattle.casper_words.specs.declared.page.Want.{Want}
use Rattle.casper_model.specs.Held.{is_of, covers, allows, lowered}

-- one list of held pages allows no more than another
abbrev pub AllowsNoMore : List Want → List Want → Type 0
AllowsNoMore less more = (page : ℕ) (right : Right) → allows less page right ≡ true → allows more page right ≡ true

-- the test that `allows` makes of one held page
abbrev pub passes : ℕ → Right → Want → Bool
passes page right want = is_of page want && covers want.right right

-- a right to write covers what any right covers, and each right covers the right to read
pub covers_read : (right : Right) → covers right may.Read ≡ true
covers_read may.Read = refl
covers_read may.Write = refl

pub covers_more : (low right wanted : Right) → covers right low ≡ true → covers low wanted ≡ true → covers right wanted ≡ true
covers_more may.Read may.Read wanted over under = under
covers_more may.Read may.Write wanted over under = refl
covers_more may.Write may.Read wanted over under = absurd (true≢false (sym over))
covers_more may.Write may.Write wanted over under = refl

-- what is held with a right is held with each right that this one covers
pub allows_covered : (held : List Want) (page : ℕ) (right wanted : Right) → covers right wanted ≡ true → allows held page right ≡ true → allows held page wanted ≡ true
allows_covered held page right wanted covered =
    list_any_implies (passes page right) (passes page wanted)
    (λ want both.
    let parts = and_parts (is_of page want) (covers want.right right) both in
    and_from (is_of page want) (covers want.right wanted) parts.0 (covers_more right want.right wanted parts.1 covered))
    held

-- a test that each part of a list fails, the list fails
pub any_in_append : {X : Type 0} (test : X → Bool) (xs ys : List X) → list_any test (xs ++ ys) ≡ true → (list_any test xs ≡ true) ⊎ (list_any test ys ≡ true)
any_in_append test xs ys found = or_cases (list_any test xs) (list_any test ys) (sym (list_any-append test xs ys) ∙ found)

pub any_in_filter : {X : Type 0} (test keep : X → Bool) (xs : List X) → list_any test (filter keep xs) ≡ true → list_any test xs ≡ true
any_in_filter test keep [] found = found
any_in_filter {X} test keep (x ∷ xs) found = step (keep x) (any_in_filter test keep xs) found
  where
    step : (kept : Bool) → (list_any test (filter keep xs) ≡ true → list_any test xs ≡ true)
        → list_any test (cond kept (x ∷ filter keep xs) (filter keep xs)) ≡ true → list_any test (x ∷ xs) ≡ true
    step true more found =
        ⊎_elim (λ first. or_left (test x) (list_any test xs) first) (λ later. or_right (test x) (list_any test xs) (more later))
        (or_cases (test x) (list_any test (filter keep xs)) found)
    step false more found = or_right (test x) (list_any test xs) (more found)

-- what passes two tests, one of which a filter keeps
pub any_kept : {X : Type 0} (test keep : X → Bool) (xs : List X) → list_any (λ x. keep x && test x) xs ≡ true → list_any test (filter keep xs) ≡ true
any_kept test keep [] found = found
any_kept {X} test keep (x ∷ xs) found = step (keep x) (any_kept test keep xs) found
  where
    step : (kept : Bool) → (list_any (λ x. keep x && test x) xs ≡ true → list_any test (filter keep xs) ≡ true)
        → ((kept && test x) || list_any (λ x. keep x && test x) xs) ≡ true → list_any test (cond kept (x ∷ filter keep xs) (filter keep xs)) ≡ true
    step true more found =
        ⊎_elim (λ first. or_left (test x) (list_any test (filter keep xs)) first) (λ later. or_right (test x) (list_any test (filter keep xs)) (more later))
        (or_cases (test x) (list_any (λ x. keep x && test x) xs) found)
    step false more found = more found

pub any_in_take : {X : Type 0} (test : X → Bool) (count : ℕ) (xs : List X) → list_any test (take count xs) ≡ true → list_any test xs ≡ true
any_in_take test zero xs found = absurd (true≢false (sym found))
any_in_take test (suc count) [] found = found
any_in_take test (suc count) (x ∷ xs) found =
    ⊎_elim (λ first. or_left (test x) (list_any test xs) first) (λ later. or_right (test x) (list_any test xs) (any_in_take test count xs later))
    (or_cases (test x) (list_any test (take count xs)) found)

pub any_in_map : {X Y : Type 0} (test : Y → Bool) (f : X → Y) (xs : List X) → list_any test (map f xs) ≡ list_any (λ x. test (f x)) xs
any_in_map test f [] = refl
any_in_map test f (x ∷ xs) = ap (λ found. test (f x) || found) (any_in_map test f xs)

-- what fails each page of a list kept for reading, or not at all
any_in_kept : (test : Want → Bool) (keep : Want → Option Want) → ((want left : Want) → keep want ≡ Some left → test left ≡ true → test want ≡ true)
    → (held : List Want) → list_any test (filter_map keep held) ≡ true → list_any test held ≡ true
any_in_kept test keep fewer [] found = found
any_in_kept test keep fewer (want ∷ held) found = step (keep want) (fewer want) (any_in_kept test keep fewer held) found
  where
    step : (left : Option Want) → ((one : Want) → left ≡ Some one → test one ≡ true → test want ≡ true)
        → (list_any test (filter_map keep held) ≡ true → list_any test held ≡ true)
        → list_any test (cons_option left (filter_map keep held)) ≡ true → list_any test (want ∷ held) ≡ true
    step None first more found = or_right (test want) (list_any test held) (more found)
    step (Some one) first more found =
        ⊎_elim (λ now. or_left (test want) (list_any test held) (first one refl now)) (λ later. or_right (test want) (list_any test held) (more later))
        (or_cases (test one) (list_any test (filter_map keep held)) found)

-- a page kept for reading allows no more
pub passes_lowered : (page : ℕ) (right : Right) (want : Want) → passes page right (lowered want) ≡ true → passes page right want ≡ true
passes_lowered page right want both =
    let parts = and_parts (is_of page want) (covers may.Read right) both in
    and_from (is_of page want) (covers want.right right) parts.0 (covers_more may.Read want.right right (covers_read want.right) parts.1)

pub lowered_allow_no_more : (held : List Want) → AllowsNoMore (map lowered held) held
lowered_allow_no_more held page right found =
    list_any_implies (λ want. passes page right (lowered want)) (passes page right) (passes_lowered page right) held
    (sym (any_in_map (passes page right) lowered held) ∙ found)

-- the pages that are kept where each is kept as it is, for reading, or not at all
pub kept_allow_no_more : (keep : Want → Option Want) → ((want left : Want) → keep want ≡ Some left → (left ≡ want) ⊎ (left ≡ lowered want))
    → (held : List Want) → AllowsNoMore (filter_map keep held) held
kept_allow_no_more keep less held page right =
    any_in_kept (passes page right) keep
    (λ want left kept found.
    ⊎_elim (λ same. subst (λ one. passes page right one ≡ true) same found)
    (λ low. passes_lowered page right want (subst (λ one. passes page right one ≡ true) low found))
    (less want left kept))
    held
