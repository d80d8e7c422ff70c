use Rattle.std.proofs.Common.{◌≡◌, ℕ, zero, suc, List, [], ◌∷◌, ◌++◌, Bool, true, false, cond, not, ◌||◌, map, filter, length, take, Contains, refl, sym, ap, ◌∙◌, subst, ⊎_elim, true≢false, arith}
use Rattle.std.specs.Prelude.{Option, None, Some, is_some, find, filter_map, reverse}
use Rattle.std.specs.List.{list_any, cons_option}
use Rattle.std.proofs.lemmas.Bool.{or_cases, or_left, or_right, eqb-true, eq-eqb, not-true}
use Rattle.std.proofs.lemmas.List.{map-append, reverse-append}
use Rattle.std.proofs.lemmas.List.Elements.{filter-append}
use Rattle.std.proofs.lemmas.List.Sums.{length-filter}
use Rattle.casper_words.specs.declared.page.Want.{Want}
use Rattle.casper_trail.proofs.LinkLists.{contains_there}
use Rattle.casper_model.specs.Held.{is_of, lowered, holds, with_first, granted_right}
use Rattle.casper_model.proofs.Entries.{contains_cases}
use Rattle.casper_turns.proofs.Lists.{nothing_in, contains_here, contains_filter, filter_nothing, filter_filtered, find_found, any_of, any_none}
use Rattle.casper_caches.specs.CacheLaws.{pages_of, others}
use Rattle.casper_caches.proofs.Counts.{count_none, count_reverse, count_map}

-- Lists of held pages.

pub map_reversed : {X Y : Type 0} (f : X → Y) (xs : List X) → map f (reverse xs) ≡ reverse (map f xs)
map_reversed f [] = refl
map_reversed f (x ∷ xs) =
    ap (map f) (reverse-append (x ∷ []) xs) ∙ map-append f (reverse xs) (x ∷ []) ∙ ap (λ list. list ++ f x ∷ []) (map_reversed f xs)
    ∙ sym (reverse-append (f x ∷ []) (map f xs))

pub pages_granted : (held wants : List Want) → pages_of (map (granted_right held) wants) ≡ pages_of wants
pages_granted held [] = refl
pages_granted held (want ∷ wants) = ap (λ list. want.page ∷ list) (pages_granted held wants)

pub pages_lowered : (held : List Want) → pages_of (map lowered held) ≡ pages_of held
pages_lowered [] = refl
pages_lowered (want ∷ held) = ap (λ list. want.page ∷ list) (pages_lowered held)

-- a list that all pass is left by a filter
pub filter_all : {X : Type 0} (p : X → Bool) (xs : List X) → ((x : X) → Contains xs x → p x ≡ true) → filter p xs ≡ xs
filter_all p [] all = refl
filter_all p (x ∷ xs) all =
    ap (λ one. cond one (x ∷ filter p xs) (filter p xs)) (all x (contains_here x xs))
    ∙ ap (λ list. x ∷ list) (filter_all p xs (λ y inside. all y (contains_there x xs y inside)))

pub contains_take : {X : Type 0} (count : ℕ) (xs : List X) (x : X) → Contains (take count xs) x → Contains xs x
contains_take zero xs x inside = absurd (nothing_in x inside)
contains_take (suc count) [] x inside = inside
contains_take (suc count) (first ∷ xs) x inside =
    ⊎_elim (λ same. subst (Contains (first ∷ xs)) same (contains_here first xs)) (λ later. contains_there first xs x (contains_take count xs x later))
    (contains_cases first (take count xs) x inside)

-- what is taken of a filtered list passes
pub filter_taken : {X : Type 0} (p : X → Bool) (count : ℕ) (xs : List X) → filter p (take count (filter p xs)) ≡ take count (filter p xs)
filter_taken p count xs = filter_all p (take count (filter p xs)) (λ x inside. (contains_filter p xs x (contains_take count (filter p xs) x inside)).1)

empty_list : {X : Type 0} (xs : List X) → length xs ≡ 0 → xs ≡ []
empty_list [] none = refl
empty_list (x ∷ xs) none = absurd (omega (arith, none))

-- none of the wanted pages is another
pub wanted_in_front : (held wants : List Want) → others wants (reverse (map (granted_right held) wants)) ≡ []
wanted_in_front held wants =
    empty_list (others wants (reverse (map (granted_right held) wants)))
    (length-filter other (reverse (map (granted_right held) wants)) ∙ count_reverse other (map (granted_right held) wants)
    ∙ count_map other (granted_right held) (λ want. refl) wants
    ∙ count_none other wants (any_none other wants (λ want inside passes.
    true≢false (sym (any_of (is_of want.page) wants want inside (eq-eqb want.page want.page refl)) ∙ not-true (holds wants want.page) passes))))
  where
    other : Want → Bool
    other want = not (holds wants want.page)

-- a page that is used comes first
first_by : (page : ℕ) (want : Want) (rest back : List Want) (here : Bool) → is_of page want ≡ here
    → (here ≡ false → take 1 (pages_of (rest ++ back)) ≡ page ∷ [])
    → take 1 (pages_of (cond here (want ∷ rest) rest ++ back)) ≡ page ∷ []
first_by page want rest back true is later = ap (λ number. number ∷ []) (eqb-true want.page page is)
first_by page want rest back false is later = later refl

pub used_first : (page : ℕ) (held back : List Want) → holds held page ≡ true → take 1 (pages_of (filter (is_of page) held ++ back)) ≡ page ∷ []
used_first page [] back found = absurd (true≢false (sym found))
used_first page (want ∷ held) back found =
    first_by page want (filter (is_of page) held) back (is_of page want) refl
    (λ other. used_first page held back (sym (ap (λ one. one || holds held page) other) ∙ found))

pub others_stay : (page : ℕ) (held : List Want) → filter (λ want. not (is_of page want)) (with_first page held) ≡ filter (λ want. not (is_of page want)) held
others_stay page held =
    filter-append (λ (want : Want). not (is_of page want)) (filter (is_of page) held) (filter (λ (want : Want). not (is_of page want)) held)
    ∙ ap (λ list. list ++ filter (λ (want : Want). not (is_of page want)) (filter (λ (want : Want). not (is_of page want)) held))
    (filter_nothing (λ (want : Want). not (is_of page want)) (filter (is_of page) held)
    (λ want inside away. true≢false (sym (contains_filter (is_of page) held want inside).1 ∙ not-true (is_of page want) away)))
    ∙ filter_filtered (λ (want : Want). not (is_of page want)) (λ (want : Want). not (is_of page want)) held (λ want is. is)

-- what is kept stands in its order
kept_by : (keep : Want → Option Want) (want : Want) (held kept : List Want) → pages_of kept ≡ pages_of held
    → (left : Option Want) → ((one : Want) → left ≡ Some one → one.page ≡ want.page)
    → pages_of (cons_option left kept) ≡ pages_of (cond (is_some left) (want ∷ held) held)
kept_by keep want held kept rest None same = rest
kept_by keep want held kept rest (Some left) same = ap (λ number. number ∷ pages_of kept) (same left refl) ∙ ap (λ list. want.page ∷ list) rest

pub kept_in_order : (keep : Want → Option Want) → ((want left : Want) → keep want ≡ Some left → left.page ≡ want.page) → (held : List Want)
    → pages_of (filter_map keep held) ≡ pages_of (filter (λ want. is_some (keep want)) held)
kept_in_order keep same [] = refl
kept_in_order keep same (want ∷ held) =
    kept_by keep want (filter (λ (one : Want). is_some (keep one)) held) (filter_map keep held) (kept_in_order keep same held) (keep want) (same want)

-- what is kept of a page that passes passes
keeps_by : (keep : Want → Option Want) (goal : Want → Bool) (want : Want) (kept : List Want) → list_any goal kept ≡ true → (left : Option Want)
    → list_any goal (cons_option left kept) ≡ true
keeps_by keep goal want kept found None = found
keeps_by keep goal want kept found (Some left) = or_right (goal left) (list_any goal kept) found

pub keeps_passing : (keep : Want → Option Want) (test goal : Want → Bool)
    → ((want : Want) → test want ≡ true → (left : Want) × (keep want ≡ Some left) × (goal left ≡ true)) → (held : List Want) → list_any test held ≡ true
    → list_any goal (filter_map keep held) ≡ true
keeps_passing keep test goal keeps [] found = absurd (true≢false (sym found))
keeps_passing keep test goal keeps (want ∷ held) found =
    ⊎_elim
    (λ here.
    let one = keeps want here in
    subst (λ left. list_any goal (cons_option left (filter_map keep held)) ≡ true) (sym one.1) (or_left (goal one.0) (list_any goal (filter_map keep held)) one.2))
    (λ later. keeps_by keep goal want (filter_map keep held) (keeps_passing keep test goal keeps held later) (keep want))
    (or_cases (test want) (list_any test held) found)

pub find_nothing : {X : Type 0} (p : X → Bool) (xs : List X) → ((x : X) → Contains xs x → p x ≡ true → ⊥) → find p xs ≡ None
find_nothing {X} p xs none = by_found (find p xs) refl
  where
    by_found : (found : Option X) → find p xs ≡ found → find p xs ≡ None
    by_found None is = is
    by_found (Some x) is = let there = find_found p xs x is in absurd (none x there.0 there.1)
