use Rattle.std.proofs.Common.{◌≡◌, ◌≢◌, ℕ, zero, suc, ◌+◌, ◌-◌, ◌<◌, ◌≤◌, Bool, true, false, List, [], ◌∷◌, length, set, refl, sym, ◌∙◌, ap, subst, ⊎_elim, inl, inr, arith}
use Rattle.std.specs.Prelude.{◌⊎◌, ◌||◌, ◌==◌, Option, None, Some, is_some, cond}
use Rattle.std.specs.Cmp.{both_ways}
use Rattle.std.proofs.lemmas.Bool.{cases_eq, cases_lt, eqb-true, eq-eqb, ne_eqb, or_cases, or_left, or_right, false_from_ne_true, true≢false}
use Rattle.std.proofs.lemmas.List.{length-set, get_or-set_same, get_or-set_other, get_or_past, set-set}
use Rattle.std.proofs.lemmas.List.Sums.{sum_by-set}
use Rattle.std.proofs.lemmas.Option.{none-some}
use Rattle.casper_map.specs.Bits.{is_member}
use Rattle.casper_map.specs.Faulty.{frame_at}
use Rattle.casper_map.specs.Levels.{is_frame, names}
use Rattle.casper_map.specs.Mapped.{used_in, AreApart, IsShadow}

pub same_frame : (one other : ℕ) → Some one ≡ Some other → one ≡ other
same_frame one other same = cc

-- one where there is a frame
abbrev pub one_of : Option ℕ → ℕ
one_of place = cond (is_some place) 1 0

-- a place with a frame names it
pub named_at : (places : List (Option ℕ)) (at frame : ℕ) → frame_at places at ≡ Some frame → names places frame ≡ true
named_at [] at frame is = absurd (none-some frame is)
named_at (place ∷ places) zero frame is = or_left (is_frame frame place) (names places frame) (ap (is_frame frame) is ∙ eq-eqb frame frame refl)
named_at (place ∷ places) (suc at) frame is = or_right (is_frame frame place) (names places frame) (named_at places at frame is)

is_frame_some : (place : Option ℕ) (frame : ℕ) → is_frame frame place ≡ true → place ≡ Some frame
is_frame_some None frame is = absurd (true≢false (sym is))
is_frame_some (Some other) frame is = ap (λ (f : ℕ). Some f) (eqb-true other frame is)

-- a frame that is named is that of some place
pub place_named : (places : List (Option ℕ)) (frame : ℕ) → names places frame ≡ true → (at : ℕ) × (frame_at places at ≡ Some frame)
place_named [] frame is = absurd (true≢false (sym is))
place_named (place ∷ places) frame is =
    ⊎_elim (λ (here : is_frame frame place ≡ true). (zero, is_frame_some place frame here))
    (λ (later : names places frame ≡ true). let found = place_named places frame later in (suc found.0, found.1))
    (or_cases (is_frame frame place) (names places frame) is)

-- a place with a frame is one of the list
pub place_within : (places : List (Option ℕ)) (at frame : ℕ) → frame_at places at ≡ Some frame → at < length places
place_within places at frame is =
    ⊎_elim (λ (within : at < length places). within)
    (λ (past : length places ≤ at). absurd (none-some frame (sym (get_or_past places at None past) ∙ is)))
    (cases_lt at (length places))

-- a place of a list of which one was changed
pub changed_place : (places : List (Option ℕ)) (place at frame : ℕ) (new : Option ℕ) → frame_at (set places place new) at ≡ Some frame
    → ((at ≡ place) × (new ≡ Some frame)) ⊎ ((at ≢ place) × (frame_at places at ≡ Some frame))
changed_place places place at frame new is =
    ⊎_elim
    (λ (here : at ≡ place).
    let within : at < length (set places place new) = place_within (set places place new) at frame is in
    inl (here, sym (get_or-set_same places place new None (omega (arith, length-set places place new, within))) ∙ subst (λ (k : ℕ). frame_at (set places place new) k ≡ Some frame) here is))
    (λ (other : at ≢ place). inr (other, sym (get_or-set_other places place at new None other) ∙ is))
    (cases_eq at place)

-- a place without a frame
pub apart_without : (places : List (Option ℕ)) (place : ℕ) → AreApart places → AreApart (set places place None)
apart_without places place apart one other frame at_one at_other =
    ⊎_elim (λ (here : (one ≡ place) × (None ≡ Some frame)). absurd (none-some frame here.1))
    (λ (first : (one ≢ place) × (frame_at places one ≡ Some frame)).
    ⊎_elim (λ (here : (other ≡ place) × (None ≡ Some frame)). absurd (none-some frame here.1))
    (λ (second : (other ≢ place) × (frame_at places other ≡ Some frame)). apart one other frame first.1 second.1)
    (changed_place places place other frame None at_other))
    (changed_place places place one frame None at_one)

-- a frame that was not named keeps the places apart
pub apart_with : (places : List (Option ℕ)) (place new : ℕ) → AreApart places → names places new ≡ false → AreApart (set places place (Some new))
apart_with places place new apart unnamed one other frame at_one at_other =
    let clash : (at : ℕ) → frame_at places at ≡ Some frame → Some new ≡ Some frame → ⊥ =
    (λ at there same. true≢false (sym (named_at places at frame there) ∙ ap (names places) (sym (same_frame new frame same)) ∙ unnamed)) in
    ⊎_elim
    (λ (first : (one ≡ place) × (Some new ≡ Some frame)).
    ⊎_elim (λ (second : (other ≡ place) × (Some new ≡ Some frame)). first.0 ∙ sym second.0)
    (λ (second : (other ≢ place) × (frame_at places other ≡ Some frame)). absurd (clash other second.1 first.1))
    (changed_place places place other frame (Some new) at_other))
    (λ (first : (one ≢ place) × (frame_at places one ≡ Some frame)).
    ⊎_elim (λ (second : (other ≡ place) × (Some new ≡ Some frame)). absurd (clash one first.1 second.1))
    (λ (second : (other ≢ place) × (frame_at places other ≡ Some frame)). apart one other frame first.1 second.1)
    (changed_place places place other frame (Some new) at_other))
    (changed_place places place one frame (Some new) at_one)

-- what is named once a place without a frame has a new one
pub names_with : (places : List (Option ℕ)) (place new frame : ℕ) → place < length places → frame_at places place ≡ None
    → names (set places place (Some new)) frame ≡ (new == frame || names places frame)
names_with places place new frame within without =
    both_ways (names (set places place (Some new)) frame) (new == frame || names places frame)
    (λ named.
    let found = place_named (set places place (Some new)) frame named in
    ⊎_elim (λ (here : (found.0 ≡ place) × (Some new ≡ Some frame)). or_left (new == frame) (names places frame) (eq-eqb new frame (same_frame new frame here.1)))
    (λ (there : (found.0 ≢ place) × (frame_at places found.0 ≡ Some frame)). or_right (new == frame) (names places frame) (named_at places found.0 frame there.1))
    (changed_place places place found.0 frame (Some new) found.1))
    (λ either. ⊎_elim
    (λ (here : (new == frame) ≡ true).
    named_at (set places place (Some new)) place frame (get_or-set_same places place (Some new) None within ∙ ap (λ (f : ℕ). Some f) (eqb-true new frame here)))
    (λ (there : names places frame ≡ true).
    let found = place_named places frame there in
    let other : found.0 ≢ place = (λ same. none-some frame (sym without ∙ sym (ap (frame_at places) same) ∙ found.1)) in
    named_at (set places place (Some new)) found.0 frame (get_or-set_other places place found.0 (Some new) None other ∙ found.1))
    (or_cases (new == frame) (names places frame) either))

-- what is named once a place has no frame any more
pub names_without : (places : List (Option ℕ)) (place old frame : ℕ) → AreApart places → frame_at places place ≡ Some old → frame ≢ old
    → names (set places place None) frame ≡ names places frame
names_without places place old frame apart is other =
    both_ways (names (set places place None) frame) (names places frame)
    (λ named.
    let found = place_named (set places place None) frame named in
    ⊎_elim (λ (here : (found.0 ≡ place) × (None ≡ Some frame)). absurd (none-some frame here.1))
    (λ (there : (found.0 ≢ place) × (frame_at places found.0 ≡ Some frame)). named_at places found.0 frame there.1)
    (changed_place places place found.0 frame None found.1))
    (λ named.
    let found = place_named places frame named in
    let elsewhere : found.0 ≢ place = (λ same. other (same_frame frame old (sym found.1 ∙ ap (frame_at places) same ∙ is))) in
    named_at (set places place None) found.0 frame (get_or-set_other places place found.0 None None elsewhere ∙ found.1))

unnamed_old : (places : List (Option ℕ)) (place old : ℕ) → AreApart places → frame_at places place ≡ Some old → names (set places place None) old ≡ false
unnamed_old places place old apart is =
    false_from_ne_true (names (set places place None) old)
    (λ named.
    let found = place_named (set places place None) old named in
    ⊎_elim (λ (here : (found.0 ≡ place) × (None ≡ Some old)). none-some old here.1)
    (λ (there : (found.0 ≢ place) × (frame_at places found.0 ≡ Some old)). there.0 (apart found.0 place old there.1 is))
    (changed_place places place found.0 old None found.1))

-- how many places have a frame once one is changed
count_set : (places : List (Option ℕ)) (place : ℕ) (new : Option ℕ) → place < length places
    → used_in (set places place new) + one_of (frame_at places place) ≡ used_in places + one_of new
count_set places place new within = sum_by-set one_of places place new None within

-- a shadow map of which a place lost its frame
pub shadow_without : (first : ℕ) (places : List (Option ℕ)) (members : List Bool) (used place old : ℕ) → IsShadow first places members used
    → frame_at places place ≡ Some old → IsShadow first (set places place None) (set members old false) (used - 1)
shadow_without first places members used place old held is =
    let new = set places place None in
    let long = length-set places place None in
    let members_long = length-set members old false in
    let within : place < length places = place_within places place old is in
    let one : one_of (frame_at places place) ≡ 1 = ap one_of is in
    let blocks = held.blocks in
    let most_pages = held.most_pages in
    let most_frames = held.most_frames in
    let mapped = held.mapped in
    let in_range : old < length members = held.below place old is in
    record {
      blocks = omega (arith, long, blocks);
      most_blocks = held.most_blocks;
      most_pages = omega (arith, long, most_pages);
      mapped = omega (arith, long, mapped);
      most_frames = omega (arith, members_long, most_frames);
      named = λ frame low.
          let below : frame < length members = omega (arith, members_long, low) in
          ⊎_elim
          (λ (same : frame ≡ old).
          ap (is_member (set members old false)) same ∙ get_or-set_same members old false false in_range
          ∙ sym (ap (names new) same ∙ unnamed_old places place old held.apart is))
          (λ (other : frame ≢ old).
          get_or-set_other members old frame false false other ∙ held.named frame below ∙ sym (names_without places place old frame held.apart is other))
          (cases_eq frame old);
      apart = apart_without places place held.apart;
      below = λ at frame there.
          let was : frame_at places at ≡ Some frame =
          ⊎_elim (λ (here : (at ≡ place) × (None ≡ Some frame)). absurd (none-some frame here.1))
          (λ (elsewhere : (at ≢ place) × (frame_at places at ≡ Some frame)). elsewhere.1)
          (changed_place places place at frame None there) in
          let low = held.below at frame was in
          omega (arith, members_long, low);
      counted = omega (arith, held.counted, count_set places place None within, one);
    }

-- a shadow map of which a place without a frame has a new one
pub shadow_with : (first : ℕ) (places : List (Option ℕ)) (members : List Bool) (used place new : ℕ) → IsShadow first places members used → place < length places
    → frame_at places place ≡ None → new < length members → is_member members new ≡ false
    → IsShadow first (set places place (Some new)) (set members new true) (used + 1)
shadow_with first places members used place new held within without in_range free =
    let unnamed : names places new ≡ false = sym (held.named new in_range) ∙ free in
    let long = length-set places place (Some new) in
    let members_long = length-set members new true in
    let none : one_of (frame_at places place) ≡ 0 = ap one_of without in
    let blocks = held.blocks in
    let most_pages = held.most_pages in
    let most_frames = held.most_frames in
    let mapped = held.mapped in
    record {
      blocks = omega (arith, long, blocks);
      most_blocks = held.most_blocks;
      most_pages = omega (arith, long, most_pages);
      mapped = omega (arith, long, mapped);
      most_frames = omega (arith, members_long, most_frames);
      named = λ frame low.
          let below : frame < length members = omega (arith, members_long, low) in
          let now = names_with places place new frame within without in
          ⊎_elim
          (λ (same : frame ≡ new).
          ap (is_member (set members new true)) same ∙ get_or-set_same members new true false in_range
          ∙ sym (now ∙ or_left (new == frame) (names places frame) (eq-eqb new frame (sym same))))
          (λ (other : frame ≢ new).
          get_or-set_other members new frame true false other ∙ held.named frame below
          ∙ sym (now ∙ ap (λ (b : Bool). b || names places frame) (ne_eqb new frame (λ same. other (sym same)))))
          (cases_eq frame new);
      apart = apart_with places place new held.apart unnamed;
      below = λ at frame there.
          ⊎_elim (λ (here : (at ≡ place) × (Some new ≡ Some frame)). let same : new ≡ frame = same_frame new frame here.1 in omega (arith, members_long, same))
          (λ (elsewhere : (at ≢ place) × (frame_at places at ≡ Some frame)). let low = held.below at frame elsewhere.1 in omega (arith, members_long, low))
          (changed_place places place at frame (Some new) there);
      counted = omega (arith, held.counted, count_set places place (Some new) within, none);
    }

-- a shadow map of which a place has another new frame
pub shadow_moved : (first : ℕ) (places : List (Option ℕ)) (members : List Bool) (used place old new : ℕ) → IsShadow first places members used
    → frame_at places place ≡ Some old → new < length members → is_member members new ≡ false
    → IsShadow first (set places place (Some new)) (set (set members old false) new true) used
shadow_moved first places members used place old new held is in_range free =
    let vacant = set places place None in
    let within : place < length places = place_within places place old is in
    let other : new ≢ old =
    (λ same. true≢false (sym (held.named old (held.below place old is) ∙ named_at places place old is) ∙ ap (is_member members) (sym same) ∙ free)) in
    let one : one_of (frame_at places place) ≡ 1 = ap one_of is in
    let some : used ≡ used - 1 + 1 =
    omega (arith, held.counted, count_set places place None within, one) in
    let moved = shadow_with first vacant (set members old false) (used - 1) place new (shadow_without first places members used place old held is)
    (omega (arith, length-set places place None)) (get_or-set_same places place None None within) (omega (arith, length-set members old false))
    (get_or-set_other members old new false false other ∙ free) in
    let P : List (Option ℕ) → ℕ → Type 0 = λ list count. IsShadow first list (set (set members old false) new true) count in
    subst (λ (list : List (Option ℕ)). P list used) (set-set places place None (Some new)) (subst (λ (count : ℕ). P (set vacant place (Some new)) count) (sym some) moved)
