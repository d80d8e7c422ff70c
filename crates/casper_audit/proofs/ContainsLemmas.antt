use Rattle.std.proofs.Common.{◌≡◌, ◌<◌, ℕ, zero, suc, arith, Bool, true, false, cond, List, [], ◌∷◌, ◌++◌, length, filter, slice_index_or, Contains, ap, sym, subst, ◌∙◌, refl}
use Rattle.casper_trail.proofs.LinkLists.{contains_there}

-- what a list has, it has with one more
pub contains_more : {X : Type 0} (xs : List X) (last x : X) → Contains xs x → Contains (xs ++ last ∷ []) x
contains_more {X} xs last x inside = by_place xs inside.0 inside.1 inside.2
  where
    by_place : (list : List X) (k : ℕ) → k < length list → slice_index_or list k x ≡ x → Contains (list ++ last ∷ []) x
    by_place [] k below is = absurd (omega (arith, below))
    by_place (first ∷ rest) zero below is = (zero, omega arith, is)
    by_place (first ∷ rest) (suc k) below is = contains_there first (rest ++ last ∷ []) x (by_place rest k (omega (arith, below)) is)

pub contains_last : {X : Type 0} (xs : List X) (last : X) → Contains (xs ++ last ∷ []) last
contains_last [] last = (zero, omega arith, refl)
contains_last (first ∷ xs) last = contains_there first (xs ++ last ∷ []) last (contains_last xs last)

-- what passes a test is among those that pass it, and these are of the list
either_way : {X : Type 0} (first : X) (xs : List X) (x : X) → Contains xs x → (b : Bool) → Contains (cond b (first ∷ xs) xs) x
either_way first xs x inside true = contains_there first xs x inside
either_way first xs x inside false = inside

pass_by_place : {X : Type 0} (test : X → Bool) (xs : List X) (x : X) (k : ℕ) → k < length xs → slice_index_or xs k x ≡ x → test x ≡ true → Contains (filter test xs) x
pass_by_place test [] x k below is passes = absurd (omega (arith, below))
pass_by_place test (first ∷ xs) x zero below is passes =
    subst (λ (b : Bool). Contains (cond b (first ∷ filter test xs) (filter test xs)) x) (sym (ap test is ∙ passes)) (zero, omega arith, is)
pass_by_place test (first ∷ xs) x (suc k) below is passes =
    either_way first (filter test xs) x (pass_by_place test xs x k (omega (arith, below)) is passes) (test first)

pub contains_pass : {X : Type 0} (test : X → Bool) (xs : List X) (x : X) → Contains xs x → test x ≡ true → Contains (filter test xs) x
contains_pass test xs x inside passes = pass_by_place test xs x inside.0 inside.1 inside.2 passes

kept_front : {X : Type 0} (test : X → Bool) (first : X) (xs : List X) (x : X) → (Contains (filter test xs) x → Contains xs x × (test x ≡ true))
    → (b : Bool) → test first ≡ b → Contains (cond b (first ∷ filter test xs) (filter test xs)) x → Contains (first ∷ xs) x × (test x ≡ true)
kept_front test first xs x later false e inside = let rest = later inside in (contains_there first xs x rest.0, rest.1)
kept_front {X} test first xs x later true e inside = at_place inside.0 inside.1 inside.2
  where
    at_place : (k : ℕ) → k < length (first ∷ filter test xs) → slice_index_or (first ∷ filter test xs) k x ≡ x → Contains (first ∷ xs) x × (test x ≡ true)
    at_place zero below is = ((zero, omega arith, is), ap test (sym is) ∙ e)
    at_place (suc k) below is = let rest : Contains xs x × (test x ≡ true) = later (k, omega (arith, below), is) in (contains_there first xs x rest.0, rest.1)

pub contains_kept : {X : Type 0} (test : X → Bool) (xs : List X) (x : X) → Contains (filter test xs) x → Contains xs x × (test x ≡ true)
contains_kept test [] x inside = absurd (omega (arith, inside.1))
contains_kept test (first ∷ xs) x inside = kept_front test first xs x (contains_kept test xs x) (test first) refl inside
