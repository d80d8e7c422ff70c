use Rattle.std.proofs.Common.{◌≡◌, ◌≢◌, ℕ, zero, suc, ◌-◌, ◌≤◌, true, false, cond, nat_eq, eq-eqb, List, [], ◌∷◌, length, take, get_or, slice_get, Some, None, IsSome, option_map, refl, sym, ap, ◌∙◌, subst, arith, take_all, true≢false, inl, inr}
use Rattle.std.specs.Cmp.{nat_eq_equiv}
use Rattle.std.specs.List.{AllByRecursion, IsDistinct}
use Rattle.std.specs.Map.{keys_of}
use Rattle.std.proofs.lemmas.Bool.{eqb-true, ne_eqb, cases_eq}
use Rattle.std.proofs.lemmas.Map.{lookup-remove_entry}
use Rattle.std.proofs.lemmas.Option.{slice_get-get_or}
use Rattle.casper_frames.specs.Keeping.{Keeping, frame_of, others, oldest, kept_with, IsSound}
use Rattle.casper_frames.specs.Changes.{IsDropped, KeptHasItsFrame, DroppedIsGone, OthersStay, OthersAreTheRest}
use Rattle.casper_frames.proofs.KeepingLemmas.{kept_with-again, kept_with-new}

pub kept_has_its_frame : KeptHasItsFrame
kept_has_its_frame page frame keeping sound =
    let one : keeping.bound ≡ suc (keeping.bound - 1) = omega (arith, sound.least) in
    ap (λ n. frame_of page (take n ((page, frame) ∷ others page keeping.kept))) one ∙
    ap (λ b. cond b (Some frame) (frame_of page (take (keeping.bound - 1) (others page keeping.kept)))) (eq-eqb page page refl)

pub others_are_the_rest : OthersAreTheRest
others_are_the_rest page other keeping sound =
    lookup-remove_entry nat_eq_equiv (nat_eq page) (λ x y is. ap (λ p. nat_eq p y) (eqb-true page x is)) other keeping.kept sound.distinct

-- a page behind another
behind : (page other : ℕ) (frame : List ℕ) (rest : List (ℕ × List ℕ)) → other ≢ page → frame_of other ((page, frame) ∷ rest) ≡ frame_of other rest
behind page other frame rest differs = ap (λ b. cond b (Some frame) (frame_of other rest)) (ne_eqb other page differs)

-- all but the last entry, where the last is not of the page
before_last : (page : ℕ) (kept : List (ℕ × List ℕ)) (place : ℕ) (entry : ℕ × List ℕ) → slice_get kept place ≡ Some entry →
    length kept ≡ suc place → entry.0 ≢ page → frame_of page (take place kept) ≡ frame_of page kept
before_last page [] place entry at long differs = cc
before_last page (x ∷ []) zero entry at long differs =
    let same : x ≡ entry = cc in
    let other : x.0 ≢ page = subst (λ (e : ℕ × List ℕ). e.0 ≢ page) (sym same) differs in
    sym (behind x.0 page x.1 [] (λ e. other (sym e)))
before_last page (x ∷ y ∷ rest) zero entry at long differs = absurd (omega (arith, long))
before_last page (x ∷ rest) (suc place) entry at long differs =
    ap (λ o. cond (nat_eq page x.0) (Some x.1) o) (before_last page rest place entry at (omega (arith, long)) differs)

-- what holds of all keys holds of the key at a place
all_at : (P : ℕ → Type 0) (kept : List (ℕ × List ℕ)) (place : ℕ) (entry : ℕ × List ℕ) → AllByRecursion P (keys_of kept) →
    slice_get kept place ≡ Some entry → P entry.0
all_at P [] place entry all at = cc
all_at P (x ∷ rest) zero entry all at = let same : x ≡ entry = cc in subst (λ (e : ℕ × List ℕ). P e.0) same all.0
all_at P (x ∷ rest) (suc place) entry all at = all_at P rest place entry all.1 at

-- no entry before a place is of its page
none_before : (kept : List (ℕ × List ℕ)) (place : ℕ) (entry : ℕ × List ℕ) → IsDistinct nat_eq (keys_of kept) →
    slice_get kept place ≡ Some entry → frame_of entry.0 (take place kept) ≡ None
unfolding IsDistinct
none_before [] place entry distinct at = cc
none_before (x ∷ rest) zero entry distinct at = refl
none_before (x ∷ rest) (suc place) entry distinct at =
    let apart : nat_eq x.0 entry.0 ≡ false = all_at (λ y. nat_eq x.0 y ≡ false) rest place entry distinct.0 at in
    behind x.0 entry.0 x.1 (take place rest) (λ same. true≢false (sym (eq-eqb x.0 entry.0 (sym same)) ∙ apart)) ∙
    none_before rest place entry distinct.1 at

-- the last entry, where there is one
last_entry : (keeping : Keeping) → IsSound keeping → length keeping.kept ≡ keeping.bound →
    (entry : ℕ × List ℕ) × (slice_get keeping.kept (keeping.bound - 1) ≡ Some entry) × (oldest keeping.kept ≡ Some entry.0)
last_entry keeping sound full =
    let at = slice_get-get_or keeping.kept (keeping.bound - 1) (0, []) (omega (arith, sound.least, full)) in (
      get_or keeping.kept (keeping.bound - 1) (0, []),
      at,
      ap (λ n. option_map (λ (entry : ℕ × List ℕ). entry.0) (slice_get keeping.kept (n - 1))) full ∙
          ap (option_map (λ (entry : ℕ × List ℕ). entry.0)) at,
    )

-- two values that are there
same_some : (a b : ℕ) → Some a ≡ Some b → a ≡ b
same_some a b same = cc

pub dropped_is_gone : DroppedIsGone
dropped_is_gone page other frame keeping sound dropped =
    let end = last_entry keeping sound dropped.full in
    let is : end.0.0 ≡ other = same_some end.0.0 other (sym end.2 ∙ dropped.last) in
    let gone : frame_of other (take (keeping.bound - 1) keeping.kept) ≡ None =
    subst (λ q. frame_of q (take (keeping.bound - 1) keeping.kept) ≡ None) is
    (none_before keeping.kept (keeping.bound - 1) end.0 sound.distinct end.1) in
    let there : frame_of other keeping.kept ≡ None → ⊥ = λ none. found_at other keeping.kept (keeping.bound - 1) end.0 end.1 is none in
    ap (frame_of other) (kept_with-new page frame keeping sound dropped.new) ∙
    behind page other frame (take (keeping.bound - 1) keeping.kept)
    (λ same. there (subst (λ q. frame_of q keeping.kept ≡ None) (sym same) dropped.new)) ∙
    gone
  where
    found_at : (q : ℕ) (kept : List (ℕ × List ℕ)) (place : ℕ) (entry : ℕ × List ℕ) → slice_get kept place ≡ Some entry → entry.0 ≡ q →
        frame_of q kept ≡ None → ⊥
    found_at q [] place entry at is none = cc
    found_at q (x ∷ rest) zero entry at is none =
        let same : x ≡ entry = cc in
        let here : nat_eq q x.0 ≡ true = eq-eqb q x.0 (sym (ap (λ (e : ℕ × List ℕ). e.0) same ∙ is)) in
        (elim (nat_eq q x.0) as (λ b. b ≡ true → cond b (Some x.1) (frame_of q rest) ≡ None → ⊥) [ true ↦ λ _ h. cc | false ↦ λ e _. cc ]) here none
    found_at q (x ∷ rest) (suc place) entry at is none =
        (elim (nat_eq q x.0) as (λ b. cond b (Some x.1) (frame_of q rest) ≡ None → ⊥) [
          | true ↦ λ h. cc
          | false ↦ λ h. found_at q rest place entry at is h
        ]) none

-- a new page leaves the others but the one that it drops
new_leaves : (page other : ℕ) (frame : List ℕ) (keeping : Keeping) → IsSound keeping → (IsDropped page other keeping → ⊥) →
    frame_of page keeping.kept ≡ None → frame_of other (take (keeping.bound - 1) keeping.kept) ≡ frame_of other keeping.kept
new_leaves page other frame keeping sound stays none = elim (cases_eq (length keeping.kept) keeping.bound) [
  | inl full ↦
      let end = last_entry keeping sound full in
      before_last other keeping.kept (keeping.bound - 1) end.0 end.1 (omega (arith, sound.least, full))
      (λ is. stays (record { new = none; full = full; last = end.2 ∙ ap Some is }))
  | inr less ↦
      let fits : length keeping.kept ≤ keeping.bound - 1 = omega (arith, sound.least, sound.few, less) in
      ap (frame_of other) (take_all (keeping.bound - 1) keeping.kept fits)
]

pub others_stay : OthersStay
others_stay page other frame keeping sound differs stays =
    (elim (frame_of page keeping.kept) as (λ o. frame_of page keeping.kept ≡ o → frame_of other (kept_with page frame keeping) ≡ frame_of other keeping.kept) [
      | None ↦ λ none.
          ap (frame_of other) (kept_with-new page frame keeping sound none) ∙
          behind page other frame (take (keeping.bound - 1) keeping.kept) differs ∙
          new_leaves page other frame keeping sound stays none
      | Some was ↦ λ is.
          ap (frame_of other) (kept_with-again page frame keeping sound (subst IsSome (sym is) refl)) ∙
          behind page other frame (others page keeping.kept) differs ∙
          others_are_the_rest page other keeping sound ∙
          ap (λ b. cond b None (frame_of other keeping.kept)) (ne_eqb page other (λ same. differs (sym same)))
    ]) refl
