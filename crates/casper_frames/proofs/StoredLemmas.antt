use Rattle.std.proofs.Common.{◌≡◌, ◌≢◌, ℕ, zero, suc, Bool, true, false, cond, List, [], ◌∷◌, take, Option, Some, None, IsSome, slice_get, refl, sym, ap, ◌∙◌, subst}
use Rattle.std.specs.Option.{unwrap_or, option_map}
use Rattle.std.specs.Map.{lookup, remove_entry}
use Rattle.std.proofs.lemmas.Map.Made.{lookup-map_values}
use Rattle.std.proofs.lemmas.List.{take-map}
use Rattle.slab.specs.Slab.{Slab, get, Updates}
use Rattle.casper_frames.specs.Stored.{frame_at, shown, AreStored, IsFree, AreApart}

-- what is there is itself
unwrapped : {X : Type 0} (o : Option X) (other : X) → IsSome o → o ≡ Some (unwrap_or o other)
unwrapped None other is = cc
unwrapped (Some x) other is = refl

-- nothing is not there
pub not_there : {X : Type 0} (o : Option X) → o ≡ None → IsSome o → ⊥
not_there None none is = cc
not_there (Some x) none is = cc

-- a page that the index does not name has no frame
pub shown-absent : (frames : Slab (List ℕ)) (test : ℕ → Bool) (index : List (ℕ × ℕ)) →
    lookup test index ≡ None → lookup test (shown frames index) ≡ None
shown-absent frames test index none =
    lookup-map_values (frame_at frames) test index ∙ ap (option_map (frame_at frames)) none

-- where a page has no frame, the index does not name it
pub absent-shown : (frames : Slab (List ℕ)) (test : ℕ → Bool) (index : List (ℕ × ℕ)) →
    lookup test (shown frames index) ≡ None → lookup test index ≡ None
absent-shown frames test index none =
    (elim (lookup test index) as (λ o. option_map (frame_at frames) o ≡ None → o ≡ None) [ None ↦ λ _. refl | Some key ↦ λ h. cc ])
    (sym (lookup-map_values (frame_at frames) test index) ∙ none)

-- under a key that the index names there is a frame
pub stored-at : (frames : Slab (List ℕ)) (test : ℕ → Bool) (index : List (ℕ × ℕ)) (key : ℕ) →
    AreStored frames index → lookup test index ≡ Some key → IsSome (get frames key)
stored-at frames test [] key stored found = cc
stored-at frames test (entry ∷ rest) key stored found =
    (elim (test entry.0) as (λ b. cond b (Some entry.1) (lookup test rest) ≡ Some key → IsSome (get frames key)) [
      | true ↦ λ h. let same : entry.1 ≡ key = cc in subst (λ k. IsSome (get frames k)) same stored.0
      | false ↦ λ h. stored-at frames test rest key stored.1 h
    ]) found

-- and that is the page's frame
pub shown-at : (frames : Slab (List ℕ)) (test : ℕ → Bool) (index : List (ℕ × ℕ)) (key : ℕ) →
    AreStored frames index → lookup test index ≡ Some key → get frames key ≡ lookup test (shown frames index)
shown-at frames test index key stored found =
    unwrapped (get frames key) [] (stored-at frames test index key stored found) ∙
    sym (lookup-map_values (frame_at frames) test index ∙ ap (option_map (frame_at frames)) found)

-- a change under a key that the index does not name is not seen
pub shown-updates : (old new : Slab (List ℕ)) (key : ℕ) (slot : Option (List ℕ)) (index : List (ℕ × ℕ)) →
    Updates old new key slot → IsFree key index → shown new index ≡ shown old index
shown-updates old new key slot [] updates free = refl
shown-updates old new key slot (entry ∷ rest) updates free =
    let same : frame_at new entry.1 ≡ frame_at old entry.1 = ap (λ o. unwrap_or o []) (updates.others entry.1 free.0) in
    let later : shown new rest ≡ shown old rest = shown-updates old new key slot rest updates free.1 in
    λ i. (entry.0, same i) ∷ later i

pub stored-updates : (old new : Slab (List ℕ)) (key : ℕ) (slot : Option (List ℕ)) (index : List (ℕ × ℕ)) →
    Updates old new key slot → IsFree key index → AreStored old index → AreStored new index
stored-updates old new key slot [] updates free stored = tt
stored-updates old new key slot (entry ∷ rest) updates free stored =
    (subst IsSome (sym (updates.others entry.1 free.0)) stored.0, stored-updates old new key slot rest updates free.1 stored.1)

-- the frame that was put under a key
pub frame_at-updates : (old new : Slab (List ℕ)) (key : ℕ) (frame : List ℕ) → Updates old new key (Some frame) → frame_at new key ≡ frame
frame_at-updates old new key frame updates = ap (λ o. unwrap_or o []) updates.changed

pub stored_at-updates : (old new : Slab (List ℕ)) (key : ℕ) (frame : List ℕ) → Updates old new key (Some frame) → IsSome (get new key)
stored_at-updates old new key frame updates = subst IsSome (sym updates.changed) refl

-- the index does not name a key with no frame
pub free-vacant : (frames : Slab (List ℕ)) (key : ℕ) (index : List (ℕ × ℕ)) →
    AreStored frames index → get frames key ≡ None → IsFree key index
free-vacant frames key [] stored none = tt
free-vacant frames key (entry ∷ rest) stored none =
    (λ same. not_there (get frames entry.1) (ap (get frames) same ∙ none) stored.0, free-vacant frames key rest stored.1 none)

-- an index without a page
pub shown-remove : (frames : Slab (List ℕ)) (test : ℕ → Bool) (index : List (ℕ × ℕ)) →
    shown frames (remove_entry test index) ≡ remove_entry test (shown frames index)
shown-remove frames test [] = refl
shown-remove frames test (entry ∷ rest) =
    (elim (test entry.0) as (λ b. shown frames (cond b rest (entry ∷ remove_entry test rest)) ≡
    cond b (shown frames rest) ((entry.0, frame_at frames entry.1) ∷ remove_entry test (shown frames rest))) [
      | true ↦ refl
      | false ↦ ap (λ l. (entry.0, frame_at frames entry.1) ∷ l) (shown-remove frames test rest)
    ])

pub free-remove : (test : ℕ → Bool) (key : ℕ) (index : List (ℕ × ℕ)) → IsFree key index → IsFree key (remove_entry test index)
free-remove test key [] free = tt
free-remove test key (entry ∷ rest) free =
    (elim (test entry.0) as (λ b. IsFree key (cond b rest (entry ∷ remove_entry test rest))) [
      | true ↦ free.1
      | false ↦ (free.0, free-remove test key rest free.1)
    ])

pub stored-remove : (frames : Slab (List ℕ)) (test : ℕ → Bool) (index : List (ℕ × ℕ)) →
    AreStored frames index → AreStored frames (remove_entry test index)
stored-remove frames test [] stored = tt
stored-remove frames test (entry ∷ rest) stored =
    (elim (test entry.0) as (λ b. AreStored frames (cond b rest (entry ∷ remove_entry test rest))) [
      | true ↦ stored.1
      | false ↦ (stored.0, stored-remove frames test rest stored.1)
    ])

pub apart-remove : (test : ℕ → Bool) (index : List (ℕ × ℕ)) → AreApart index → AreApart (remove_entry test index)
apart-remove test [] apart = tt
apart-remove test (entry ∷ rest) apart =
    (elim (test entry.0) as (λ b. AreApart (cond b rest (entry ∷ remove_entry test rest))) [
      | true ↦ apart.1
      | false ↦ (free-remove test entry.1 rest apart.0, apart-remove test rest apart.1)
    ])

-- a key that is free is not found
not_free : (test : ℕ → Bool) (index : List (ℕ × ℕ)) (key : ℕ) → IsFree key index → lookup test index ≡ Some key → ⊥
not_free test [] key free found = cc
not_free test (entry ∷ rest) key free found =
    (elim (test entry.0) as (λ b. cond b (Some entry.1) (lookup test rest) ≡ Some key → ⊥) [
      | true ↦ λ h. let same : entry.1 ≡ key = cc in free.0 same
      | false ↦ λ h. not_free test rest key free.1 h
    ]) found

-- without its page, the index does not name a key
pub free-removed : (test : ℕ → Bool) (index : List (ℕ × ℕ)) (key : ℕ) → AreApart index → lookup test index ≡ Some key →
    IsFree key (remove_entry test index)
free-removed test [] key apart found = tt
free-removed test (entry ∷ rest) key apart found =
    (elim (test entry.0) as (λ b. cond b (Some entry.1) (lookup test rest) ≡ Some key → IsFree key (cond b rest (entry ∷ remove_entry test rest))) [
      | true ↦ λ h. let same : entry.1 ≡ key = cc in subst (λ k. IsFree k rest) same apart.0
      | false ↦ λ h. (λ same. not_free test rest key (subst (λ k. IsFree k rest) same apart.0) h, free-removed test rest key apart.1 h)
    ]) found

-- the first entries of an index
pub shown-take : (frames : Slab (List ℕ)) (count : ℕ) (index : List (ℕ × ℕ)) → shown frames (take count index) ≡ take count (shown frames index)
shown-take frames count index = sym (take-map (λ (entry : ℕ × ℕ). (entry.0, frame_at frames entry.1)) count index)

pub free-take : (count key : ℕ) (index : List (ℕ × ℕ)) → IsFree key index → IsFree key (take count index)
free-take zero key index free = tt
free-take (suc count) key [] free = tt
free-take (suc count) key (entry ∷ rest) free = (free.0, free-take count key rest free.1)

pub stored-take : (frames : Slab (List ℕ)) (count : ℕ) (index : List (ℕ × ℕ)) → AreStored frames index → AreStored frames (take count index)
stored-take frames zero index stored = tt
stored-take frames (suc count) [] stored = tt
stored-take frames (suc count) (entry ∷ rest) stored = (stored.0, stored-take frames count rest stored.1)

pub apart-take : (count : ℕ) (index : List (ℕ × ℕ)) → AreApart index → AreApart (take count index)
apart-take zero index apart = tt
apart-take (suc count) [] apart = tt
apart-take (suc count) (entry ∷ rest) apart = (free-take count entry.1 rest apart.0, apart-take count rest apart.1)

-- a key that is free stands at no place
not_free-at : (index : List (ℕ × ℕ)) (place : ℕ) (entry : ℕ × ℕ) (key : ℕ) → IsFree key index → slice_get index place ≡ Some entry → entry.1 ≢ key
not_free-at [] place entry key free at = cc
not_free-at (first ∷ rest) zero entry key free at = let same : first ≡ entry = cc in subst (λ (e : ℕ × ℕ). e.1 ≢ key) same free.0
not_free-at (first ∷ rest) (suc place) entry key free at = not_free-at rest place entry key free.1 at

-- the entries before a place do not name its key
pub free-before : (index : List (ℕ × ℕ)) (place : ℕ) (entry : ℕ × ℕ) → AreApart index → slice_get index place ≡ Some entry →
    IsFree entry.1 (take place index)
free-before [] place entry apart at = cc
free-before (first ∷ rest) zero entry apart at = tt
free-before (first ∷ rest) (suc place) entry apart at =
    (λ same. not_free-at rest place entry first.1 apart.0 at (sym same), free-before rest place entry apart.1 at)

-- the key at a place has a frame
pub stored-place : (frames : Slab (List ℕ)) (index : List (ℕ × ℕ)) (place : ℕ) (entry : ℕ × ℕ) → AreStored frames index →
    slice_get index place ≡ Some entry → IsSome (get frames entry.1)
stored-place frames [] place entry stored at = cc
stored-place frames (first ∷ rest) zero entry stored at =
    let same : first ≡ entry = cc in subst (λ (e : ℕ × ℕ). IsSome (get frames e.1)) same stored.0
stored-place frames (first ∷ rest) (suc place) entry stored at = stored-place frames rest place entry stored.1 at
