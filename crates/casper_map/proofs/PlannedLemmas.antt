use Rattle.std.proofs.Common.{◌≡◌, ℕ, ◌+◌, ◌*◌, ◌<◌, true, false, List, ◌++◌, length, take, map, get_or, sym, ◌∙◌, ap, subst, arith}
use Rattle.std.specs.Prelude.{Some, None, All, nat_le}
use Rattle.std.specs.List.{range_with_len}
use Rattle.std.specs.List.Sorted.{IsStrictlyIncreasing}
use Rattle.std.proofs.lemmas.Bool.{or_parts, or_from, lt-leb, not-true}
use Rattle.std.proofs.lemmas.List.{get_or-map, length-map, take_all, get_or_append_left, get_or-append-add, length-append, get_or-take, length-take, length-take-le, ext_get_or, get_or_default}
use Rattle.std.proofs.lemmas.List.Elements.{filter_passes, All-filter, All-take}
use Rattle.std.proofs.lemmas.List.Kept.{IsStrictlyIncreasing-filter}
use Rattle.std.proofs.lemmas.List.FromFn.{length-range_with_len, get_or-range_with_len, fill_by_all}
use Rattle.casper_space.specs.Changes.{blocks_of}
use Rattle.casper_map.specs.Faulty.{frame_at, is_faulty_beside}
use Rattle.casper_map.specs.Levels.{names}
use Rattle.casper_map.specs.Mapped.{Mapped, free_frames, HasBlocks}
use Rattle.casper_map.specs.Numbers.{number_of}
use Rattle.casper_map.specs.Planned.{Planned, moved, frames_in, need_for, with_moves, with_plan, map_numbers, block_numbers, Show, AreWithin, AreNew, IsPlan}
use Rattle.casper_map.proofs.PlanLemmas.{is_free, moves_long}
use Rattle.casper_map.proofs.MoveLemmas.{moves_free, moves_at, moves_below, moves_above, blocks_below, all_moved, rising_other}

pub pages_within : (held : Mapped) (plan : Planned) → HasBlocks held → IsPlan held plan → AreWithin held.first_page held.places plan.pages
pages_within held plan sizes is =
    let P : ℕ → Type 0 = λ page. held.first_page + page < length held.places in
    let blocks = sizes.blocks in
    all_moved P plan.pages (λ k d within. let low = is.within k d within in omega (arith, low, blocks))

pub maps_below : (held : Mapped) (plan : Planned) → HasBlocks held → IsPlan held plan → All (λ move. move.0 < held.first_page) plan.maps
maps_below held plan sizes is =
    let mapped = sizes.mapped in
    let low : All (λ block. block < held.first_page) (blocks_of (moved plan.pages)) =
    blocks_below (moved plan.pages) held.first_page (λ k d within. let page = is.within k d within in omega (arith, page, mapped)) in
    all_moved (λ (block : ℕ). block < held.first_page) plan.maps (subst (λ (list : List ℕ). All (λ block. block < held.first_page) list) (sym is.blocks) low)

pub maps_within : (held : Mapped) (plan : Planned) → HasBlocks held → IsPlan held plan → AreWithin 0 held.places plan.maps
maps_within held plan sizes is k d within =
    let low = maps_below held plan sizes is k d within in
    let blocks = sizes.blocks in
    omega (arith, low, blocks)

-- the numbers that show the pages of a map block with their moves are those of the map with the plan
pub block_shown : (held : Mapped) (plan : Planned) (number : ℕ) (numbers : List ℕ) → HasBlocks held → IsPlan held plan → length numbers ≡ 1024
    → Show (with_moves held.first_page plan.pages held.places) (held.first_page + 1024 * number) numbers → numbers ≡ block_numbers (with_plan plan held) number
block_shown held plan number numbers sizes is long show =
    let first = held.first_page in
    let before = with_moves 0 plan.maps held.places in
    let place : ℕ → ℕ = λ k. first + 1024 * number + k in
    let there : (k : ℕ) → frame_at (with_moves first plan.pages held.places) (place k) ≡ frame_at (with_moves first plan.pages before) (place k) =
    (λ k. moves_at first plan.pages held.places before (place k) (sym (moves_long 0 plan.maps held.places))
    (sym (moves_below plan.maps held.places first (place k) (maps_below held plan sizes is) (omega arith)))) in
    fill_by_all (λ k. number_of (frame_at (with_moves first plan.pages before) (place k))) numbers 1024 0 long
    (λ k low. show k (omega (arith, long, low)) ∙ ap number_of (there k))

-- and those that show the map blocks
pub maps_shown : (held : Mapped) (plan : Planned) (numbers : List ℕ) → HasBlocks held → length numbers ≡ held.first_page
    → Show (with_moves 0 plan.maps held.places) 0 numbers → numbers ≡ map_numbers (with_plan plan held)
maps_shown held plan numbers sizes long show =
    let first = held.first_page in
    let before = with_moves 0 plan.maps held.places in
    let blocks = sizes.blocks in
    let front : length (take first before) ≡ first = length-take-le first before (omega (arith, moves_long 0 plan.maps held.places)) in
    let count : length numbers ≡ length (map number_of (take first before)) = long ∙ sym (length-map (take first before) number_of ∙ front) in
    ext_get_or 0 numbers (map number_of (take first before)) count
    (λ k low.
    let within : k < first = omega (arith, long) in
    let e : 0 + k ≡ k = omega arith in
    show k low ∙ ap (λ (at : ℕ). number_of (frame_at before at)) e
    ∙ sym (get_or-map number_of (take first before) k None 0 (omega (arith, front)) ∙ ap number_of (get_or-take first before k None within)))
    ∙ ap (map number_of) (sym (moves_above first plan.pages before))

-- a range rises, and so does what is taken of a rising list, and each part of one
range_rises : (start n : ℕ) → IsStrictlyIncreasing (range_with_len start n)
range_rises start n k within =
    let long = length-range_with_len start n in
    omega (arith, get_or-range_with_len start n k 0 (omega (arith, long)), get_or-range_with_len start n (k + 1) 0 (omega (arith, long)))

take_rises : (n : ℕ) (list : List ℕ) → IsStrictlyIncreasing list → IsStrictlyIncreasing (take n list)
take_rises n list rises k within =
    let long = length-take n list in
    omega (arith, get_or-take n list k 0 (omega (arith, long)), get_or-take n list (k + 1) 0 (omega (arith, long)), rises k (omega (arith, long)))

front_rises : (front back : List ℕ) → IsStrictlyIncreasing (front ++ back) → IsStrictlyIncreasing front
front_rises front back rises k within =
    omega (arith, get_or_append_left front back 0 k (omega arith), get_or_append_left front back 0 (k + 1) within, rises k (omega (arith, length-append front back)))

back_rises : (front back : List ℕ) → IsStrictlyIncreasing (front ++ back) → IsStrictlyIncreasing back
back_rises front back rises k within =
    let e : length front + (k + 1) ≡ length front + k + 1 = omega arith in
    let later : get_or back (k + 1) 0 ≡ get_or (front ++ back) (length front + k + 1) 0 = sym (get_or-append-add front back (k + 1) 0) ∙ ap (λ (at : ℕ). get_or (front ++ back) at 0) e in
    omega (arith, get_or-append-add front back k 0, later, rises (length front + k) (omega (arith, length-append front back)))

front_all : (P : ℕ → Type 0) (front back : List ℕ) → All P (front ++ back) → All P front
front_all P front back all k d within =
    subst P (get_or_append_left front back d k within) (all k d (omega (arith, length-append front back)))

back_all : (P : ℕ → Type 0) (front back : List ℕ) → All P (front ++ back) → All P back
back_all P front back all k d within =
    subst P (get_or-append-add front back k d) (all (length front + k) d (omega (arith, length-append front back)))

-- each free frame is in range and named by no place
free_fine : (held : Mapped) → All (λ frame. is_faulty_beside held.frames held.places (Some frame) ≡ false) (free_frames held)
free_fine held k d within =
    let range = range_with_len 0 held.frames in
    let frame = get_or (free_frames held) k d in
    let below : All (λ other. other < held.frames) range =
    (λ j e low. let long = length-range_with_len 0 held.frames in omega (arith, get_or-range_with_len 0 held.frames j e (omega (arith, long)), long)) in
    let low : frame < held.frames = All-filter (is_free held.places) (λ (other : ℕ). other < held.frames) range below k d within in
    let free : is_free held.places frame ≡ true = filter_passes (is_free held.places) range k d within in
    or_from (nat_le held.frames frame) (names held.places frame) (lt-leb held.frames frame low) (not-true (names held.places frame) free)

-- the frames of a plan rise, and each is free
pub plan_rises : (held : Mapped) (plan : Planned) → IsPlan held plan → IsStrictlyIncreasing (frames_in plan.pages ++ frames_in plan.maps)
plan_rises held plan is =
    subst IsStrictlyIncreasing (sym is.frames)
    (take_rises (need_for (moved plan.pages)) (free_frames held) (IsStrictlyIncreasing-filter (is_free held.places) (range_with_len 0 held.frames) (range_rises 0 held.frames)))

pub plan_fine : (held : Mapped) (plan : Planned) → IsPlan held plan
    → All (λ frame. is_faulty_beside held.frames held.places (Some frame) ≡ false) (frames_in plan.pages ++ frames_in plan.maps)
plan_fine held plan is =
    subst (λ (list : List ℕ). All (λ frame. is_faulty_beside held.frames held.places (Some frame) ≡ false) list) (sym is.frames)
    (All-take (λ (frame : ℕ). is_faulty_beside held.frames held.places (Some frame) ≡ false) (need_for (moved plan.pages)) (free_frames held) (free_fine held))

pub maps_new : (held : Mapped) (plan : Planned) → IsPlan held plan → AreNew held.frames held.places plan.maps
maps_new held plan is = record {
  rising = back_rises (frames_in plan.pages) (frames_in plan.maps) (plan_rises held plan is);
  free = back_all (λ (frame : ℕ). is_faulty_beside held.frames held.places (Some frame) ≡ false) (frames_in plan.pages) (frames_in plan.maps) (plan_fine held plan is);
}

-- and they are new beside the moved map blocks too
pub pages_new : (held : Mapped) (plan : Planned) → IsPlan held plan → AreNew held.frames (with_moves 0 plan.maps held.places) plan.pages
pages_new held plan is =
    let pages = frames_in plan.pages in
    let maps = frames_in plan.maps in
    let rises = plan_rises held plan is in
    record {
      rising = front_rises pages maps rises;
      free = λ k d within.
          let frame = get_or pages k d in
          let fine = front_all (λ (f : ℕ). is_faulty_beside held.frames held.places (Some f) ≡ false) pages maps (plan_fine held plan is) k d within in
          let parts = or_parts (nat_le held.frames frame) (names held.places frame) fine in
          let long : length maps ≡ length plan.maps = length-map plan.maps (λ (move : ℕ × ℕ). move.1) in
          let here : get_or (pages ++ maps) k 0 ≡ frame = get_or_append_left pages maps 0 k within ∙ get_or_default pages k 0 d within in
          or_from (nat_le held.frames frame) (names (with_moves 0 plan.maps held.places) frame) parts.0
          (ap (λ (list : List (ℕ × ℕ)). names (with_moves 0 list held.places) frame) (sym (take_all (length plan.maps) plan.maps (omega arith)))
          ∙ moves_free 0 plan.maps held.places frame (length plan.maps) (omega arith) parts.1
          (λ j low same.
          let less = rising_other (pages ++ maps) rises k (length pages + j) (omega arith) (omega (arith, length-append pages maps, long)) in
          omega (arith, less, here, get_or-append-add pages maps j 0, same)));
    }
