use Rattle.std.proofs.Common.{◌≡◌, ℕ, zero, suc, ◌-◌, ◌≤◌, Bool, true, false, cond, nat_eq, List, [], ◌∷◌, length, take, Some, None, IsSome, refl, sym, ap, ◌∙◌, subst, arith, take_all, length-take}
use Rattle.std.specs.List.{AllByRecursion, IsDistinct}
use Rattle.std.specs.Map.{lookup, remove_entry, keys_of}
use Rattle.std.proofs.lemmas.Bool.{eqb-true}
use Rattle.std.proofs.lemmas.List.{take-map}
use Rattle.casper_frames.specs.Keeping.{Keeping, frame_of, others, kept_with, IsSound}

-- a test is true or false
absent-tail : {X : Type 0} (test : ℕ → Bool) (entry : ℕ × X) (rest : List (ℕ × X)) → lookup test (entry ∷ rest) ≡ None →
    (test entry.0 ≡ false) × (lookup test rest ≡ None)
absent-tail test entry rest none =
    (elim (test entry.0) as (λ b. test entry.0 ≡ b → cond b (Some entry.1) (lookup test rest) ≡ None → (test entry.0 ≡ false) × (lookup test rest ≡ None)) [
      | true ↦ λ _ h. cc
      | false ↦ λ is h. (is, h)
    ]) refl none

-- where a key is not there, all others are all
pub remove-absent : {X : Type 0} (test : ℕ → Bool) (es : List (ℕ × X)) → lookup test es ≡ None → remove_entry test es ≡ es
remove-absent test [] none = refl
remove-absent test (entry ∷ rest) none =
    let parts = absent-tail test entry rest none in
    rw parts.0 (ap (λ l. entry ∷ l) (remove-absent test rest parts.1))

-- where it is there, one is gone
pub length-removed : {X : Type 0} (test : ℕ → Bool) (es : List (ℕ × X)) → IsSome (lookup test es) → suc (length (remove_entry test es)) ≡ length es
length-removed test [] is = cc
length-removed test (entry ∷ rest) is =
    (elim (test entry.0) as (λ b. IsSome (cond b (Some entry.1) (lookup test rest)) → suc (length (cond b rest (entry ∷ remove_entry test rest))) ≡ suc (length rest)) [
      | true ↦ λ _. refl
      | false ↦ λ h. ap suc (length-removed test rest h)
    ]) is

length-remove : {X : Type 0} (test : ℕ → Bool) (es : List (ℕ × X)) → length (remove_entry test es) ≤ length es
length-remove test [] = omega arith
length-remove test (entry ∷ rest) =
    let later = length-remove test rest in
    (elim (test entry.0) as (λ b. length (cond b rest (entry ∷ remove_entry test rest)) ≤ suc (length rest)) [
      | true ↦ omega arith
      | false ↦ omega (arith, later)
    ])

module _ (P : ℕ → Type 0) where
  all-remove : {X : Type 0} (test : ℕ → Bool) (es : List (ℕ × X)) → AllByRecursion P (keys_of es) → AllByRecursion P (keys_of (remove_entry test es))
  all-remove test [] all = tt
  all-remove test (entry ∷ rest) all =
      (elim (test entry.0) as (λ b. AllByRecursion P (keys_of (cond b rest (entry ∷ remove_entry test rest)))) [
        | true ↦ all.1
        | false ↦ (all.0, all-remove test rest all.1)
      ])

  all-take : (count : ℕ) (keys : List ℕ) → AllByRecursion P keys → AllByRecursion P (take count keys)
  all-take zero keys all = tt
  all-take (suc count) [] all = tt
  all-take (suc count) (key ∷ rest) all = (all.0, all-take count rest all.1)

distinct-remove : {X : Type 0} (test : ℕ → Bool) (es : List (ℕ × X)) → IsDistinct nat_eq (keys_of es) → IsDistinct nat_eq (keys_of (remove_entry test es))
unfolding IsDistinct
distinct-remove test [] distinct = tt
distinct-remove test (entry ∷ rest) distinct =
    (elim (test entry.0) as (λ b. IsDistinct nat_eq (keys_of (cond b rest (entry ∷ remove_entry test rest)))) [
      | true ↦ distinct.1
      | false ↦ (all-remove (λ y. nat_eq entry.0 y ≡ false) test rest distinct.0, distinct-remove test rest distinct.1)
    ])

distinct-take : (count : ℕ) (keys : List ℕ) → IsDistinct nat_eq keys → IsDistinct nat_eq (take count keys)
unfolding IsDistinct
distinct-take zero keys distinct = tt
distinct-take (suc count) [] distinct = tt
distinct-take (suc count) (key ∷ rest) distinct = (all-take (λ y. nat_eq key y ≡ false) count rest distinct.0, distinct-take count rest distinct.1)

-- no other is the page
others-differ : {X : Type 0} (page : ℕ) (es : List (ℕ × X)) → IsDistinct nat_eq (keys_of es) →
    AllByRecursion (λ y. nat_eq page y ≡ false) (keys_of (remove_entry (nat_eq page) es))
unfolding IsDistinct
others-differ page [] distinct = tt
others-differ page (entry ∷ rest) distinct =
    (elim (nat_eq page entry.0) as (λ b. nat_eq page entry.0 ≡ b →
    AllByRecursion (λ y. nat_eq page y ≡ false) (keys_of (cond b rest (entry ∷ remove_entry (nat_eq page) rest)))) [
      | true ↦ λ is. subst (λ q. AllByRecursion (λ y. nat_eq q y ≡ false) (keys_of rest)) (sym (eqb-true page entry.0 is)) distinct.0
      | false ↦ λ is. (is, others-differ page rest distinct.1)
    ]) refl

-- without a page, all that is kept is sound
pub sound-others : (page : ℕ) (keeping : Keeping) → IsSound keeping → IsSound (record keeping { kept = others page keeping.kept })
sound-others page keeping sound = record {
  distinct = distinct-remove (nat_eq page) keeping.kept sound.distinct;
  few = omega (arith, length-remove (nat_eq page) keeping.kept, sound.few);
  least = sound.least;
}

-- and so it is with one more
pub sound-kept_with : (page : ℕ) (frame : List ℕ) (keeping : Keeping) → IsSound keeping → IsSound (record keeping { kept = kept_with page frame keeping })
unfolding IsDistinct
sound-kept_with page frame keeping sound = record {
  distinct =
      subst (IsDistinct nat_eq) (take-map (λ (entry : ℕ × List ℕ). entry.0) keeping.bound ((page, frame) ∷ others page keeping.kept))
      (distinct-take keeping.bound (page ∷ keys_of (others page keeping.kept))
      (others-differ page keeping.kept sound.distinct, distinct-remove (nat_eq page) keeping.kept sound.distinct));
  few = omega (arith, length-take keeping.bound ((page, frame) ∷ others page keeping.kept));
  least = sound.least;
}

-- a page that is kept takes its new frame
pub kept_with-again : (page : ℕ) (frame : List ℕ) (keeping : Keeping) → IsSound keeping → IsSome (frame_of page keeping.kept) →
    kept_with page frame keeping ≡ (page, frame) ∷ others page keeping.kept
kept_with-again page frame keeping sound is =
    take_all keeping.bound ((page, frame) ∷ others page keeping.kept)
    (omega (arith, length-removed (nat_eq page) keeping.kept is, sound.few))

-- a new page stands before those that still fit
pub kept_with-new : (page : ℕ) (frame : List ℕ) (keeping : Keeping) → IsSound keeping → frame_of page keeping.kept ≡ None →
    kept_with page frame keeping ≡ (page, frame) ∷ take (keeping.bound - 1) keeping.kept
kept_with-new page frame keeping sound none =
    let same : others page keeping.kept ≡ keeping.kept = remove-absent (nat_eq page) keeping.kept none in
    let one : keeping.bound ≡ suc (keeping.bound - 1) = omega (arith, sound.least) in
    ap (λ n. take n ((page, frame) ∷ others page keeping.kept)) one ∙ ap (λ l. (page, frame) ∷ take (keeping.bound - 1) l) same
