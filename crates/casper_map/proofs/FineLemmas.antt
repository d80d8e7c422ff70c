use Rattle.std.proofs.Common.{◌≡◌, ◌≢◌, ℕ, zero, suc, ◌+◌, ◌<◌, ◌≤◌, Bool, true, false, List, length, take, get_or, set, refl, sym, ◌∙◌, ap, subst, ⊎_elim, arith}
use Rattle.std.specs.Prelude.{Option, Some, None, nat_le}
use Rattle.std.specs.List.{find, range_with_len}
use Rattle.std.proofs.lemmas.Bool.{cases_lt, cases_eq, cases_Bool, cond-true, cond-false, or_parts, or_from, leb-false, lt-leb, false_from_ne_true, true≢false}
use Rattle.std.proofs.lemmas.List.{get_or-take, take_all, length-take-le}
use Rattle.std.proofs.lemmas.Option.{none-some}
use Rattle.casper_map.specs.Faulty.{frame_at, is_faulty, is_faulty_beside, first_faulty}
use Rattle.casper_map.specs.Levels.{names}
use Rattle.casper_map.specs.Mapped.{Mapped, AreApart, AreBelow}
use Rattle.casper_map.specs.Planned.{Planned, IsPlan, AreNew, with_moves, with_plan}
use Rattle.casper_map.specs.PlanLaws.{FirstFaultyIsFirst, NoneIsFaulty, PlansAddNoFault}
use Rattle.casper_map.proofs.MoveLemmas.{next_new}
use Rattle.casper_map.proofs.NameLemmas.{place_named, named_at, place_within, apart_with, changed_place, same_frame}
use Rattle.casper_map.proofs.PlanLemmas.{moves_more}
use Rattle.casper_map.proofs.PlannedLemmas.{maps_new, pages_new}
use Rattle.casper_map.proofs.ReadLemmas.{found_first, found_none}

-- what it says where a search of a range finds none, and where it finds one
none_found : (test : ℕ → Bool) (start count : ℕ) → find test (range_with_len start count) ≡ None → (k : ℕ) → start ≤ k → k < start + count → test k ≡ false
none_found test start zero is k high low = absurd (omega (arith, high, low))
none_found test start (suc count) is k high low =
    let rest = find test (range_with_len (start + 1) count) in
    ⊎_elim
    (λ (passes : test start ≡ true). absurd (none-some start (sym is ∙ cond-true (test start) (Some start) rest passes)))
    (λ (fails : test start ≡ false).
    ⊎_elim (λ (same : k ≡ start). ap test same ∙ fails)
    (λ (other : k ≢ start). none_found test (start + 1) count (sym (cond-false (test start) (Some start) rest fails) ∙ is) k (omega arith) (omega arith))
    (cases_eq k start))
    (cases_Bool (test start))

one_found : (test : ℕ → Bool) (start count at : ℕ) → find test (range_with_len start count) ≡ Some at
    → (at < start + count) × (test at ≡ true) × ((k : ℕ) → start ≤ k → k < at → test k ≡ false)
one_found test start zero at is = absurd (none-some at is)
one_found test start (suc count) at is =
    let rest = find test (range_with_len (start + 1) count) in
    ⊎_elim
    (λ (passes : test start ≡ true).
    let same : start ≡ at = same_frame start at (sym (cond-true (test start) (Some start) rest passes) ∙ is) in
    (omega arith, ap test (sym same) ∙ passes, λ k high low. absurd (omega (arith, same, high, low))))
    (λ (fails : test start ≡ false).
    let later = one_found test (start + 1) count at (sym (cond-false (test start) (Some start) rest fails) ∙ is) in (
      omega (arith, later.0),
      later.1,
      λ k high low.
          ⊎_elim (λ (same : k ≡ start). ap test same ∙ fails) (λ (other : k ≢ start). later.2 k (omega arith) low) (cases_eq k start),
    ))
    (cases_Bool (test start))

pub first_faulty_is_first : FirstFaultyIsFirst
first_faulty_is_first frames places at = (
  (λ is. let found = one_found (is_faulty frames places) 0 (length places) at is in (omega (arith, found.0), found.1, λ earlier low. found.2 earlier (omega arith) low)),
  (λ found. found_first (is_faulty frames places) 0 (length places) at (omega arith) (omega (arith, found.0)) found.1 (λ k high low. found.2 k low)),
)

-- a place with a frame that is not faulty
fine_place : (frames : ℕ) (places : List (Option ℕ)) (at frame : ℕ) → first_faulty frames places ≡ None → frame_at places at ≡ Some frame
    → (nat_le frames frame ≡ false) × (names (take at places) frame ≡ false)
fine_place frames places at frame fine is =
    let within = place_within places at frame is in
    or_parts (nat_le frames frame) (names (take at places) frame)
    (sym (ap (is_faulty_beside frames (take at places)) is) ∙ none_found (is_faulty frames places) 0 (length places) fine at (omega arith) (omega (arith, within)))

not_before : (frames : ℕ) (places : List (Option ℕ)) (one other frame : ℕ) → first_faulty frames places ≡ None → frame_at places one ≡ Some frame → frame_at places other ≡ Some frame
    → other ≤ one
not_before frames places one other frame fine at_one at_other =
    ⊎_elim
    (λ (before : one < other).
    absurd (true≢false (sym (named_at (take other places) one frame (get_or-take other places one None before ∙ at_one)) ∙ (fine_place frames places other frame fine at_other).1)))
    (λ (behind : other ≤ one). behind)
    (cases_lt one other)

pub fine_apart : (frames : ℕ) (places : List (Option ℕ)) → first_faulty frames places ≡ None → AreApart places
fine_apart frames places fine one other frame at_one at_other =
    omega (arith, not_before frames places one other frame fine at_one at_other, not_before frames places other one frame fine at_other at_one)

pub fine_below : (frames : ℕ) (places : List (Option ℕ)) → first_faulty frames places ≡ None → AreBelow frames places
fine_below frames places fine at frame is = leb-false frames frame (fine_place frames places at frame fine is).0

place_fine : (frames : ℕ) (places : List (Option ℕ)) (at : ℕ) (place : Option ℕ) → AreApart places → AreBelow frames places → at < length places → frame_at places at ≡ place
    → is_faulty_beside frames (take at places) place ≡ false
place_fine frames places at None apart below within is = refl
place_fine frames places at (Some frame) apart below within is =
    or_from (nat_le frames frame) (names (take at places) frame) (lt-leb frames frame (below at frame is))
    (false_from_ne_true (names (take at places) frame)
    (λ named.
    let found = place_named (take at places) frame named in
    let low : found.0 < at = omega (arith, place_within (take at places) found.0 frame found.1, length-take-le at places (omega arith)) in
    let same : found.0 ≡ at = apart found.0 at frame (sym (get_or-take at places found.0 None low) ∙ found.1) is in
    omega (arith, low, same)))

pub none_faulty : (frames : ℕ) (places : List (Option ℕ)) → AreApart places → AreBelow frames places → first_faulty frames places ≡ None
none_faulty frames places apart below =
    found_none (is_faulty frames places) 0 (length places) (λ at high low. place_fine frames places at (frame_at places at) apart below (omega (arith, low)) refl)

pub none_is_faulty : NoneIsFaulty
none_is_faulty frames places = ((λ fine. (fine_apart frames places fine, fine_below frames places fine)), (λ parts. none_faulty frames places parts.0 parts.1))

-- moves to new frames keep the places apart and their frames in range
moves_fine : (frames first : ℕ) (places : List (Option ℕ)) (moves : List (ℕ × ℕ)) (i : ℕ) → AreNew frames places moves → i ≤ length moves → AreApart places → AreBelow frames places
    → AreApart (with_moves first (take i moves) places) × AreBelow frames (with_moves first (take i moves) places)
moves_fine frames first places moves zero new within apart below = (apart, below)
moves_fine frames first places moves (suc i) new within apart below =
    let low : i < length moves = omega arith in
    let e : i + 1 ≡ suc i = omega arith in
    let before = moves_fine frames first places moves i new (omega arith) apart below in
    let was = with_moves first (take i moves) places in
    let move = get_or moves i (0, 0) in
    let parts = or_parts (nat_le frames move.1) (names was move.1) (next_new frames first places moves i new low) in
    let all : AreBelow frames (set was (first + move.0) (Some move.1)) =
    (λ at frame is.
    ⊎_elim (λ (here : (at ≡ first + move.0) × (Some move.1 ≡ Some frame)). subst (λ (f : ℕ). f < frames) (same_frame move.1 frame here.1) (leb-false frames move.1 parts.0))
    (λ (other : (at ≢ first + move.0) × (frame_at was at ≡ Some frame)). before.1 at frame other.1)
    (changed_place was (first + move.0) at frame (Some move.1) is)) in
    let made : with_moves first (take (suc i) moves) places ≡ set was (first + move.0) (Some move.1) =
    ap (λ (k : ℕ). with_moves first (take k moves) places) (sym e) ∙ moves_more first moves places i (0, 0) low in
    subst (λ (list : List (Option ℕ)). AreApart list × AreBelow frames list) (sym made) (apart_with was (first + move.0) move.1 before.0 parts.1, all)

all_moves_fine : (frames first : ℕ) (places : List (Option ℕ)) (moves : List (ℕ × ℕ)) → AreNew frames places moves → AreApart places → AreBelow frames places
    → AreApart (with_moves first moves places) × AreBelow frames (with_moves first moves places)
all_moves_fine frames first places moves new apart below =
    subst (λ (list : List (ℕ × ℕ)). AreApart (with_moves first list places) × AreBelow frames (with_moves first list places)) (take_all (length moves) moves (omega arith))
    (moves_fine frames first places moves (length moves) new (omega arith) apart below)

pub plan_parts : (held : Mapped) (plan : Planned) → IsPlan held plan → AreApart held.places → AreBelow held.frames held.places
    → AreApart (with_plan plan held).places × AreBelow held.frames (with_plan plan held).places
plan_parts held plan is apart below =
    let first = all_moves_fine held.frames 0 held.places plan.maps (maps_new held plan is) apart below in
    all_moves_fine held.frames held.first_page (with_moves 0 plan.maps held.places) plan.pages (pages_new held plan is) first.0 first.1

pub plans_add_no_fault : PlansAddNoFault
plans_add_no_fault held plan is fine =
    let parts = plan_parts held plan is (fine_apart held.frames held.places fine) (fine_below held.frames held.places fine) in
    none_faulty held.frames (with_plan plan held).places parts.0 parts.1
