use Rattle.std.proofs.Common.{◌≡◌, ℕ, ◌<◌, List, Option, Some, None, length, map, set, get_or, take, sum_by, ◌+◌, ◌++◌, ◌∷◌, [], refl, sym, ap, ◌∙◌, arith}
use Rattle.std.proofs.lemmas.List.{map-set, get_or-map, take_more, length-map}
use Rattle.std.proofs.lemmas.List.Sums.{sum_by_push}
use Rattle.casper_hub.specs.declared.clients.Place.{Place}
use Rattle.casper_hub.specs.HubView.{ClientView, place_in, cap_of}
use Rattle.casper_hub.specs.Places.{shown_place}

-- a place is replaced in what is shown as it is in the code
pub shown_set : (places : List (Option Place)) (shown : List (Option ClientView)) (at who : ℕ) (next : Option Place) →
    map shown_place places ≡ shown → at ≡ who → map shown_place (set places at next) ≡ set shown who (shown_place next)
shown_set places shown at who next is here =
    map-set shown_place places at next ∙ ap (λ (l : List (Option ClientView)). set l at (shown_place next)) is ∙ ap (λ (i : ℕ). set shown i (shown_place next)) here

-- what is shown of a place that was read
pub shown_read : (places : List (Option Place)) (shown : List (Option ClientView)) (at who : ℕ) (read : Option Place) →
    map shown_place places ≡ shown → at ≡ who → at < length places → read ≡ get_or places at read → place_in shown who ≡ shown_place read
shown_read places shown at who read is here within found =
    ap (λ (i : ℕ). get_or shown i None) (sym here) ∙ ap (λ (l : List (Option ClientView)). get_or l at None) (sym is)
    ∙ get_or-map shown_place places at read None within ∙ ap shown_place (sym found)

-- a place is changed in what is shown as it is in the code
pub shown_changed : (places : List (Option Place)) (shown : List (Option ClientView)) (at who : ℕ) (read next : Option Place) (change : Option ClientView → Option ClientView) →
    map shown_place places ≡ shown → at ≡ who → at < length places → read ≡ get_or places at read → shown_place next ≡ change (shown_place read) →
    map shown_place (set places at next) ≡ set shown who (change (place_in shown who))
shown_changed places shown at who read next change is here within found changed =
    shown_set places shown at who next is here
    ∙ ap (λ (o : Option ClientView). set shown who o) (changed ∙ ap change (sym (shown_read places shown at who read is here within found)))

-- what is no `Some` is `None`
pub none_at : {X : Type 0} (o : Option X) → ((x : X) → o ≡ Some x → ⊥) → o ≡ None
none_at None never = refl
none_at (Some x) never = absurd (never x refl)

-- what is promised to one client more
pub caps_more : (places : List (Option Place)) (shown : List (Option ClientView)) (at : ℕ) (read : Option Place) (sum cap : ℕ) →
    map shown_place places ≡ shown → at < length places → read ≡ get_or places at read → sum ≡ sum_by cap_of (take at shown) → cap_of (shown_place read) ≡ cap →
    sum + cap ≡ sum_by cap_of (take (at + 1) shown)
caps_more places shown at read sum cap is within found so_far one =
    let long : length shown ≡ length places = ap length (sym is) ∙ length-map places shown_place in
    let inside : at < length shown = omega arith in
    ap (λ (n : ℕ). n + cap) so_far ∙ ap (λ (n : ℕ). sum_by cap_of (take at shown) + n) (sym one)
    ∙ sym (sum_by_push cap_of (take at shown) (shown_place read))
    ∙ ap (λ (o : Option ClientView). sum_by cap_of (take at shown ++ o ∷ [])) (sym (shown_read places shown at at read is refl within found))
    ∙ ap (sum_by cap_of) (sym (take_more shown at None inside))
