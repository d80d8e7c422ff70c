use Rattle.std.proofs.Common.{◌+◌, ◌<◌, ◌≤◌, ℕ, List, [], length, get_or, sym, subst, ⊎_elim, arith}
use Rattle.std.specs.List.Sorted.{IsStrictlyIncreasing}
use Rattle.std.specs.Prelude.{All}
use Rattle.std.proofs.lemmas.Bool.{eqb-true}
use Rattle.std.proofs.lemmas.Bool.Decides.{eqb_tells}
use Rattle.std.proofs.lemmas.List.{get_or-map, get_or_default, length-map}
use Rattle.casper_disk.specs.Vault.{as_changes}
use Rattle.casper_space.specs.Changes.{pages_of}
use Rattle.casper_stable.proofs.VaultLemmas.{pages_same}

-- the page of a change
abbrev pub page_at : List (ℕ × List ℕ) → ℕ → ℕ
page_at changes at = (get_or {A = ℕ × List ℕ} changes at (0, [])).0

-- the first so many pages rise, and are below these numbers
pub record AreRising (changes : List (ℕ × List ℕ)) (pages count least : ℕ) : Type 0 where
  pub within : (k : ℕ) → k < count → page_at changes k < pages
  pub low : (k : ℕ) → k < count → page_at changes k < least
  pub rising : (k : ℕ) → k + 1 < count → page_at changes k < page_at changes (k + 1)

-- one page more
pub rising_on : (changes : List (ℕ × List ℕ)) (pages count least : ℕ) → AreRising changes pages count least → least ≤ page_at changes count
    → page_at changes count < pages → AreRising changes pages (count + 1) (page_at changes count + 1)
rising_on changes pages count least so high early = record {
  within = λ k below. ⊎_elim (λ same. subst (λ (at : ℕ). page_at changes at < pages) (sym (eqb-true _ _ same.0)) early)
      (λ other. so.within k (omega (arith, below, other.1))) (eqb_tells k count);
  low = λ k below. ⊎_elim (λ same. subst (λ (at : ℕ). page_at changes at < page_at changes count + 1) (sym (eqb-true _ _ same.0)) (omega arith))
      (λ other. let under = so.low k (omega (arith, below, other.1)) in omega (arith, under, high)) (eqb_tells k count);
  rising = λ k below. ⊎_elim
      (λ same. let under = so.low k (omega (arith, eqb-true _ _ same.0)) in
      subst (λ (at : ℕ). page_at changes k < page_at changes at) (sym (eqb-true _ _ same.0)) (omega (arith, under, high)))
      (λ other. so.rising k (omega (arith, below, other.1))) (eqb_tells (k + 1) count);
}

-- all pages
pub all_rise : (changes : List (ℕ × List ℕ)) (pages count least : ℕ) → AreRising changes pages count least → length changes ≤ count
    → IsStrictlyIncreasing (pages_of (as_changes changes))
all_rise changes pages count least so all =
    subst IsStrictlyIncreasing (sym (pages_same changes))
    (λ k below.
    let long = length-map changes (λ (change : ℕ × List ℕ). change.0) in
    let one = get_or-map (λ (change : ℕ × List ℕ). change.0) changes k (0, []) 0 (omega (arith, below, long)) in
    let next = get_or-map (λ (change : ℕ × List ℕ). change.0) changes (k + 1) (0, []) 0 (omega (arith, below, long)) in
    let up = so.rising k (omega (arith, below, long, all)) in
    omega (arith, one, next, up))

-- are within the store
pub all_within : (changes : List (ℕ × List ℕ)) (pages count least : ℕ) → AreRising changes pages count least → length changes ≤ count
    → All (λ change. change.0 < pages) changes
all_within changes pages count least so all k d below =
    subst (λ (change : ℕ × List ℕ). change.0 < pages) (get_or_default changes k (0, []) d below) (so.within k (omega (arith, below, all)))
