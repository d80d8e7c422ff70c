use Rattle.std.proofs.Common.{◌≡◌, ℕ, zero, suc, ◌+◌, List, [], ◌∷◌, ◌++◌, take, drop, reverse, map, refl, ap, subst, arith, ◌∙◌}
use Rattle.std.proofs.lemmas.List.{map-append, reverse-append}
use Rattle.casper_cache.specs.declared.held.Held.{Held}
use Rattle.casper_cache.specs.declared.leaf.Leaf.{Leaf}
use Rattle.casper_cache.specs.Leaves.{held_of, shown}

one_more : (count : ℕ) → suc count ≡ count + 1
one_more count = omega arith

-- the first item after so many is the next
next : (count : ℕ) (items : List ℕ) (item : ℕ) (rest : List ℕ) → item ∷ rest ≡ drop count items →
    (take (suc count) items ≡ take count items ++ item ∷ []) × (rest ≡ drop (suc count) items)
next zero [] item rest here = cc
next (suc count) [] item rest here = cc
next zero (first ∷ items) item rest here = (let same : first ≡ item = cc in ap (λ i. i ∷ []) same, cc)
next (suc count) (first ∷ items) item rest here =
    let later = next count items item rest here in (ap (λ l. first ∷ l) later.0, later.1)

pub next-taken : (count : ℕ) (items : List ℕ) (item : ℕ) (rest : List ℕ) → item ∷ rest ≡ drop count items →
    (take (count + 1) items ≡ take count items ++ item ∷ []) × (rest ≡ drop (count + 1) items)
next-taken count items item rest here =
    subst (λ n. (take n items ≡ take count items ++ item ∷ []) × (rest ≡ drop n items)) (one_more count) (next count items item rest here)

-- where no item is left, all are taken
none : (count : ℕ) (items : List ℕ) → [] ≡ drop count items →
    (take (suc count) items ≡ take count items) × ([] ≡ drop (suc count) items)
none zero [] is = (refl, refl)
none (suc count) [] is = (refl, refl)
none zero (first ∷ items) is = cc
none (suc count) (first ∷ items) is = let later = none count items is in (ap (λ l. first ∷ l) later.0, later.1)

pub none-taken : (count : ℕ) (items : List ℕ) → [] ≡ drop count items →
    (take (count + 1) items ≡ take count items) × ([] ≡ drop (count + 1) items)
none-taken count items is =
    subst (λ n. (take n items ≡ take count items) × ([] ≡ drop n items)) (one_more count) (none count items is)

-- the pages of these entries, the last first
abbrev pub pages_back : List (ℕ × Leaf) → List ℕ
pages_back entries = reverse (map (λ (entry : Held). entry.page) (shown entries))

-- one entry more at the end is the first from the back
pub pages_back-more : (entries : List (ℕ × Leaf)) (entry : ℕ × Leaf) → pages_back (entries ++ entry ∷ []) ≡ entry.0 ∷ pages_back entries
pages_back-more entries entry =
    ap (λ l. reverse (map (λ (e : Held). e.page) l)) (map-append held_of entries (entry ∷ [])) ∙
    ap reverse (map-append (λ (e : Held). e.page) (shown entries) (held_of entry ∷ [])) ∙
    reverse-append (map (λ (e : Held). e.page) (shown entries)) (entry.0 ∷ [])
