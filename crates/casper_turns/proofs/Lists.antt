use Rattle.std.proofs.Common.{◌≡◌, zero, List, [], ◌∷◌, Bool, true, false, cond, map, filter, Contains, refl, sym, ap, ◌∙◌, subst, ⊎_elim, arith, true≢false}
use Rattle.std.specs.Prelude.{Option, None, Some, is_some}
use Rattle.std.specs.List.{list_any, find}
use Rattle.std.proofs.lemmas.Bool.{cond_both, cond-false, cases_Bool, or_cases, or_left, or_right, false_from_ne_true}
use Rattle.casper_trail.proofs.LinkLists.{contains_there}
use Rattle.casper_model.proofs.Entries.{contains_cases}

pub nothing_in : {X : Type 0} (x : X) → Contains [] x → ⊥
nothing_in x inside = omega (arith, inside.1)

pub contains_here : {X : Type 0} (x : X) (xs : List X) → Contains (x ∷ xs) x
contains_here x xs = (zero, omega arith, refl)

pub contains_map : {X Y : Type 0} (f : X → Y) (xs : List X) (y : Y) → Contains (map f xs) y → (x : X) × Contains xs x × (f x ≡ y)
contains_map f [] y inside = absurd (nothing_in y inside)
contains_map f (x ∷ xs) y inside =
    ⊎_elim (λ is. (x, contains_here x xs, is)) (λ later. let found = contains_map f xs y later in (found.0, contains_there x xs found.0 found.1, found.2))
    (contains_cases (f x) (map f xs) y inside)

pub contains_mapped : {X Y : Type 0} (f : X → Y) (xs : List X) (x : X) → Contains xs x → Contains (map f xs) (f x)
contains_mapped f [] x inside = absurd (nothing_in x inside)
contains_mapped {X} {Y} f (first ∷ xs) x inside =
    ⊎_elim (λ (is : first ≡ x). subst (λ (one : X). Contains (map f (first ∷ xs)) (f one)) is (contains_here (f first) (map f xs)))
    (λ later. contains_there (f first) (map f xs) (f x) (contains_mapped f xs x later)) (contains_cases first xs x inside)

pub contains_filter : {X : Type 0} (p : X → Bool) (xs : List X) (x : X) → Contains (filter p xs) x → Contains xs x × (p x ≡ true)
contains_filter p [] x inside = absurd (nothing_in x inside)
contains_filter {X} p (first ∷ xs) x inside' =
    cond_both (p first) (first ∷ filter p xs) (filter p xs) (λ (list : List X). Contains list x → Contains (first ∷ xs) x × (p x ≡ true))
    (λ yes inside.
    ⊎_elim (λ (is : first ≡ x). (subst (λ (one : X). Contains (first ∷ xs) one) is (contains_here first xs), subst (λ (one : X). p one ≡ true) is yes))
    (λ later. let found = contains_filter p xs x later in (contains_there first xs x found.0, found.1))
    (contains_cases first (filter p xs) x inside))
    (λ no inside. let found = contains_filter p xs x inside in (contains_there first xs x found.0, found.1))
    inside'

pub contains_filtered : {X : Type 0} (p : X → Bool) (xs : List X) (x : X) → Contains xs x → p x ≡ true → Contains (filter p xs) x
contains_filtered p [] x inside passes = absurd (nothing_in x inside)
contains_filtered {X} p (first ∷ xs) x inside passes =
    cond_both (p first) (first ∷ filter p xs) (filter p xs) (λ (list : List X). Contains list x)
    (λ yes.
    ⊎_elim (λ (is : first ≡ x). subst (λ (one : X). Contains (first ∷ filter p xs) one) is (contains_here first (filter p xs)))
    (λ later. contains_there first (filter p xs) x (contains_filtered p xs x later passes)) (contains_cases first xs x inside))
    (λ no.
    ⊎_elim (λ (is : first ≡ x). absurd (true≢false (sym passes ∙ sym (ap p is) ∙ no))) (λ later. contains_filtered p xs x later passes)
    (contains_cases first xs x inside))

-- a filter that nothing passes, and one after another that keeps all that passes
pub filter_nothing : {X : Type 0} (test : X → Bool) (xs : List X) → ((x : X) → Contains xs x → test x ≡ true → ⊥) → filter test xs ≡ []
filter_nothing test [] fails = refl
filter_nothing test (x ∷ xs) fails =
    cond-false (test x) (x ∷ filter test xs) (filter test xs) (false_from_ne_true (test x) (fails x (contains_here x xs)))
    ∙ filter_nothing test xs (λ one inside. fails one (contains_there x xs one inside))

pub filter_filtered : {X : Type 0} (test keep : X → Bool) (xs : List X) → ((x : X) → test x ≡ true → keep x ≡ true) → filter test (filter keep xs) ≡ filter test xs
filter_filtered test keep [] kept = refl
filter_filtered test keep (x ∷ xs) kept =
    cond_both (keep x) (x ∷ filter keep xs) (filter keep xs) (λ list. filter test list ≡ filter test (x ∷ xs))
    (λ is. ap (λ rest. cond (test x) (x ∷ rest) rest) (filter_filtered test keep xs kept))
    (λ out.
    filter_filtered test keep xs kept
    ∙ sym (cond-false (test x) (x ∷ filter test xs) (filter test xs) (false_from_ne_true (test x) (λ passes. true≢false (sym (kept x passes) ∙ out)))))

-- functions that agree on the elements
pub map_alike : {X Y : Type 0} (f g : X → Y) (xs : List X) → ((x : X) → Contains xs x → f x ≡ g x) → map f xs ≡ map g xs
map_alike f g [] alike = refl
map_alike f g (x ∷ xs) alike =
    ap (λ first. first ∷ map f xs) (alike x (contains_here x xs)) ∙ ap (λ rest. g x ∷ rest) (map_alike f g xs (λ one inside. alike one (contains_there x xs one inside)))

-- a test of the elements
pub any_found : {X : Type 0} (p : X → Bool) (xs : List X) → list_any p xs ≡ true → (x : X) × Contains xs x × (p x ≡ true)
any_found p [] found = absurd (true≢false (sym found))
any_found p (x ∷ xs) found =
    ⊎_elim (λ here. (x, contains_here x xs, here)) (λ later. let one = any_found p xs later in (one.0, contains_there x xs one.0 one.1, one.2))
    (or_cases (p x) (list_any p xs) found)

pub any_of : {X : Type 0} (p : X → Bool) (xs : List X) (x : X) → Contains xs x → p x ≡ true → list_any p xs ≡ true
any_of p [] x inside passes = absurd (nothing_in x inside)
any_of p (first ∷ xs) x inside passes =
    ⊎_elim (λ is. or_left (p first) (list_any p xs) (ap p is ∙ passes)) (λ later. or_right (p first) (list_any p xs) (any_of p xs x later passes))
    (contains_cases first xs x inside)

pub none_passes : {X : Type 0} (p : X → Bool) (xs : List X) (x : X) → list_any p xs ≡ false → Contains xs x → p x ≡ false
none_passes p xs x none inside = false_from_ne_true (p x) (λ passes. true≢false (sym (any_of p xs x inside passes) ∙ none))

pub any_none : {X : Type 0} (p : X → Bool) (xs : List X) → ((x : X) → Contains xs x → p x ≡ true → ⊥) → list_any p xs ≡ false
any_none p xs fails = false_from_ne_true (list_any p xs) (λ found. let one = any_found p xs found in fails one.0 one.1 one.2)

pub same_any : {X Y : Type 0} (p : X → Bool) (xs : List X) (q : Y → Bool) (ys : List Y) → (list_any p xs ≡ true → list_any q ys ≡ true)
    → (list_any q ys ≡ true → list_any p xs ≡ true) → list_any p xs ≡ list_any q ys
same_any p xs q ys there back =
    ⊎_elim (λ is. is ∙ sym (there is))
    (λ is_not. is_not ∙ sym (false_from_ne_true (list_any q ys) (λ found. true≢false (sym (back found) ∙ is_not))))
    (cases_Bool (list_any p xs))

-- the first element that passes
pub find_found : {X : Type 0} (p : X → Bool) (xs : List X) (x : X) → find p xs ≡ Some x → Contains xs x × (p x ≡ true)
find_found p [] x found = absurd (true≢false (sym (ap is_some found)))
find_found {X} p (first ∷ xs) x found =
    cond_both (p first) (Some first) (find p xs) (λ (one : Option X). one ≡ Some x → Contains (first ∷ xs) x × (p x ≡ true))
    (λ yes is.
    let same : first ≡ x = ap (λ (one : Option X). elim one as (λ _. X) [ None ↦ x | Some y ↦ y ]) is in
    (subst (λ (one : X). Contains (first ∷ xs) one) same (contains_here first xs), subst (λ (one : X). p one ≡ true) same yes))
    (λ no is. let later = find_found p xs x is in (contains_there first xs x later.0, later.1))
    found

pub find_none : {X : Type 0} (p : X → Bool) (xs : List X) → find p xs ≡ None → (x : X) → Contains xs x → p x ≡ true → ⊥
find_none p [] none x inside passes = nothing_in x inside
find_none {X} p (first ∷ xs) none x inside passes =
    cond_both (p first) (Some first) (find p xs) (λ (one : Option X). one ≡ None → ⊥)
    (λ yes is. true≢false (ap is_some is))
    (λ no is.
    ⊎_elim (λ (same : first ≡ x). true≢false (sym passes ∙ sym (ap p same) ∙ no)) (λ later. find_none p xs is x later passes) (contains_cases first xs x inside))
    none

pub find_some : {X : Type 0} (p : X → Bool) (xs : List X) (x : X) → Contains xs x → p x ≡ true → is_some (find p xs) ≡ true
find_some {X} p xs x inside passes = by_found (find p xs) refl
  where
    by_found : (one : Option X) → find p xs ≡ one → is_some one ≡ true
    by_found (Some y) e = refl
    by_found None e = absurd (find_none p xs e x inside passes)

pub not_some : {X : Type 0} (one : X) → None ≡ Some one → ⊥
not_some one is = true≢false (sym (ap is_some is))
