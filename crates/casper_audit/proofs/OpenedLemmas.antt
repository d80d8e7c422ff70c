use Rattle.std.proofs.Common.{◌≡◌, ◌≢◌, ◌<◌, ◌-◌, ◌==◌, ℕ, zero, suc, cond, arith, Bool, true, false, List, [], ◌∷◌, ◌++◌, length, map, slice_index_or, slice_set, ap, sym, ◌∙◌, refl}
use Rattle.std.proofs.lemmas.List.{get_or-set_same, get_or-set_other, map-set, get_or-map}
use Rattle.std.proofs.lemmas.Bool.{eqb-true, eqb-false}
use Rattle.casper_words.specs.Crew.{IsClient}
use Rattle.casper_audit.specs.declared.words.Place.{Place}

length_map : {V : Type 0} (f : V → List Place) (vs : List V) → length (map f vs) ≡ length vs
length_map f [] = refl
length_map f (v ∷ vs) = ap suc (length_map f vs)

-- the lists after one of them was replaced
pub set_lists : {V : Type 0} (vs : List V) (f : V → List Place) (at : ℕ) (new : V) (value : List Place) (client who : ℕ) → IsClient client → IsClient who → at ≡ who - 1 → at < length vs → f new ≡ value
    → slice_index_or (map f (slice_set vs at new)) (client - 1) [] ≡ cond (client == who) value (slice_index_or (map f vs) (client - 1) [])
set_lists vs f at new value client who is is' place below same =
    ap (λ (lists : List (List Place)). slice_index_or lists (client - 1) []) (map-set f vs at new)
    ∙ by_client (client == who) refl
  where
    by_client : (b : Bool) → (client == who) ≡ b → slice_index_or (slice_set (map f vs) at (f new)) (client - 1) [] ≡ cond b value (slice_index_or (map f vs) (client - 1) [])
    by_client true e =
        let here : client - 1 ≡ at = ap (λ (n : ℕ). n - 1) (eqb-true client who e) ∙ sym place in
        ap (λ (k : ℕ). slice_index_or (slice_set (map f vs) at (f new)) k []) here
        ∙ get_or-set_same (map f vs) at (f new) [] (omega (arith, length_map f vs, below)) ∙ same
    by_client false e =
        let other = eqb-false client who e in
        let apart : client - 1 ≢ at = (λ here. other (omega (arith, is.0, is'.0, place))) in
        get_or-set_other (map f vs) at (client - 1) (f new) [] apart

-- the list of a client
pub list_at : {V : Type 0} (vs : List V) (f : V → List Place) (at : ℕ) (old : V) (who : ℕ) → at ≡ who - 1 → at < length vs → old ≡ slice_index_or vs at old → slice_index_or (map f vs) (who - 1) [] ≡ f old
list_at vs f at old who place below is =
    ap (λ (k : ℕ). slice_index_or (map f vs) k []) (sym place) ∙ get_or-map f vs at old [] below ∙ ap f (sym is)

-- each list is empty
abbrev pub AreEmpty : List (List Place) → Type 0
AreEmpty lists = (k : ℕ) → slice_index_or lists k [] ≡ []

pub empty_more : (lists : List (List Place)) (last : List Place) → last ≡ [] → AreEmpty lists → AreEmpty (lists ++ last ∷ [])
empty_more [] last is empty zero = is
empty_more [] last is empty (suc k) = refl
empty_more (first ∷ lists) last is empty zero = empty zero
empty_more (first ∷ lists) last is empty (suc k) = empty_more lists last is (λ j. empty (suc j)) k

pub map_more : {V : Type 0} (f : V → List Place) (vs : List V) (last : V) → map f (vs ++ last ∷ []) ≡ map f vs ++ f last ∷ []
map_more f [] last = refl
map_more f (v ∷ vs) last = ap (λ (rest : List (List Place)). f v ∷ rest) (map_more f vs last)
