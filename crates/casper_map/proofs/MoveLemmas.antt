use Rattle.std.proofs.Common.{◌≡◌, ◌≢◌, ℕ, zero, suc, ◌+◌, ◌-◌, ◌*◌, ◌/◌, ◌<◌, ◌≤◌, false, List, [], ◌∷◌, length, take, map, get_or, set, refl, sym, ◌∙◌, ap, subst, ⊎_elim, arith}
use Rattle.std.specs.Prelude.{Option, Some, None, All, nat_le, nat_lt, cond, ◌==◌}
use Rattle.std.specs.List.Sorted.{IsStrictlyIncreasing}
use Rattle.std.proofs.lemmas.Bool.{cases_eq, cases_lt, or_parts, or_from, false_from_ne_true, true≢false, cond_both}
use Rattle.std.proofs.lemmas.List.{get_or-map, get_or-set_same, get_or-set_other, get_or_past, length-set, length-map, take-set-le}
use Rattle.std.proofs.lemmas.List.Elements.{All-nil, All-cons, All-head, All-tail, All-map, All-weaker}
use Rattle.casper_space.specs.Rising.{with_number, with_numbers}
use Rattle.casper_space.specs.Changes.{blocks_of}
use Rattle.casper_map.specs.Faulty.{frame_at, is_faulty_beside}
use Rattle.casper_map.specs.Levels.{names}
use Rattle.casper_map.specs.Planned.{moved, frames_in, with_moves, AreNew}
use Rattle.casper_map.proofs.NameLemmas.{place_named, named_at, changed_place, same_frame}
use Rattle.casper_map.proofs.PlanLemmas.{moves_more}

-- a place that gets another frame leaves a frame unnamed
set_free : (places : List (Option ℕ)) (place new frame : ℕ) → names places frame ≡ false → new ≢ frame → names (set places place (Some new)) frame ≡ false
set_free places place new frame unnamed other =
    false_from_ne_true (names (set places place (Some new)) frame)
    (λ named.
    let found = place_named (set places place (Some new)) frame named in
    ⊎_elim (λ (here : (found.0 ≡ place) × (Some new ≡ Some frame)). other (same_frame new frame here.1))
    (λ (there : (found.0 ≢ place) × (frame_at places found.0 ≡ Some frame)). true≢false (sym (named_at places found.0 frame there.1) ∙ unnamed))
    (changed_place places place found.0 frame (Some new) found.1))

-- moves leave a frame unnamed that is none of theirs
pub moves_free : (first : ℕ) (moves : List (ℕ × ℕ)) (places : List (Option ℕ)) (frame i : ℕ) → i ≤ length moves → names places frame ≡ false
    → ((j : ℕ) → j < i → get_or (frames_in moves) j 0 ≢ frame) → names (with_moves first (take i moves) places) frame ≡ false
moves_free first moves places frame zero within unnamed others = unnamed
moves_free first moves places frame (suc i) within unnamed others =
    let low : i < length moves = omega arith in
    let e : i + 1 ≡ suc i = omega arith in
    let at : get_or (frames_in moves) i 0 ≡ (get_or moves i (0, 0)).1 = get_or-map (λ (move : ℕ × ℕ). move.1) moves i (0, 0) 0 low in
    let before = moves_free first moves places frame i (omega arith) unnamed (λ j j_low. others j (omega arith)) in
    ap (λ (k : ℕ). names (with_moves first (take k moves) places) frame) (sym e) ∙ ap (λ (list : List (Option ℕ)). names list frame) (moves_more first moves places i (0, 0) low)
    ∙ set_free (with_moves first (take i moves) places) (first + (get_or moves i (0, 0)).0) (get_or moves i (0, 0)).1 frame before (λ same. others i (omega arith) (at ∙ same))

-- of a rising list an earlier number is lower
pub rising_far : (list : List ℕ) → IsStrictlyIncreasing list → (i d : ℕ) → i + 1 + d < length list → get_or list i 0 < get_or list (i + 1 + d) 0
rising_far list rises i zero within =
    let e : i + 1 + 0 ≡ i + 1 = omega arith in
    subst (λ (k : ℕ). get_or list i 0 < get_or list k 0) (sym e) (rises i (omega arith))
rising_far list rises i (suc d) within =
    let before = rising_far list rises i d (omega arith) in
    let step = rises (i + 1 + d) (omega arith) in
    let e : i + 1 + d + 1 ≡ i + 1 + suc d = omega arith in
    let last : get_or list (i + 1 + d) 0 < get_or list (i + 1 + suc d) 0 = subst (λ (k : ℕ). get_or list (i + 1 + d) 0 < get_or list k 0) e step in
    omega (arith, before, last)

pub rising_other : (list : List ℕ) → IsStrictlyIncreasing list → (i j : ℕ) → i < j → j < length list → get_or list i 0 < get_or list j 0
rising_other list rises i j low within =
    let e : i + 1 + (j - i - 1) ≡ j = omega arith in
    subst (λ (k : ℕ). get_or list i 0 < get_or list k 0) e (rising_far list rises i (j - i - 1) (omega arith))

-- the next move is to a frame that is free after those before it
pub next_new : (frames first : ℕ) (places : List (Option ℕ)) (moves : List (ℕ × ℕ)) (i : ℕ) → AreNew frames places moves → i < length moves
    → is_faulty_beside frames (with_moves first (take i moves) places) (Some (get_or moves i (0, 0)).1) ≡ false
next_new frames first places moves i new within =
    let at : get_or (frames_in moves) i 0 ≡ (get_or moves i (0, 0)).1 = get_or-map (λ (move : ℕ × ℕ). move.1) moves i (0, 0) 0 within in
    let long : length (frames_in moves) ≡ length moves = length-map moves (λ (move : ℕ × ℕ). move.1) in
    let frame = get_or (frames_in moves) i 0 in
    let parts = or_parts (nat_le frames frame) (names places frame) (new.free i 0 (omega (arith, long))) in
    let rises = new.rising in
    subst (λ (f : ℕ). is_faulty_beside frames (with_moves first (take i moves) places) (Some f) ≡ false) at
    (or_from (nat_le frames frame) (names (with_moves first (take i moves) places) frame) parts.0
    (moves_free first moves places frame i (omega arith) parts.1
    (λ j low same. let less : get_or (frames_in moves) j 0 < get_or (frames_in moves) i 0 = rising_other (frames_in moves) rises j i low (omega (arith, long)) in omega (arith, less, same))))

-- moves of some list change a place as they do in another that has the same there
pub moves_at : (first : ℕ) (moves : List (ℕ × ℕ)) (one other : List (Option ℕ)) (at : ℕ) → length one ≡ length other → frame_at one at ≡ frame_at other at
    → frame_at (with_moves first moves one) at ≡ frame_at (with_moves first moves other) at
moves_at first [] one other at long same = same
moves_at first (move ∷ moves) one other at long same =
    let place = first + move.0 in
    let long_one = length-set one place (Some move.1) in
    let long_other = length-set other place (Some move.1) in
    moves_at first moves (set one place (Some move.1)) (set other place (Some move.1)) at (long_one ∙ long ∙ sym long_other)
    (⊎_elim
    (λ (here : at ≡ place). ⊎_elim
    (λ (within : place < length one).
    let there : place < length other = omega (arith, long) in
    ap (frame_at (set one place (Some move.1))) here ∙ get_or-set_same one place (Some move.1) None within
    ∙ sym (ap (frame_at (set other place (Some move.1))) here ∙ get_or-set_same other place (Some move.1) None there))
    (λ (past : length one ≤ place).
    get_or_past (set one place (Some move.1)) at None (omega (arith, long_one, here)) ∙ sym (get_or_past (set other place (Some move.1)) at None (omega (arith, long_other, here, long))))
    (cases_lt place (length one)))
    (λ (elsewhere : at ≢ place). get_or-set_other one place at (Some move.1) None elsewhere ∙ same ∙ sym (get_or-set_other other place at (Some move.1) None elsewhere))
    (cases_eq at place))

-- moves of lower places leave a place
pub moves_below : (moves : List (ℕ × ℕ)) (places : List (Option ℕ)) (bound at : ℕ) → All (λ move. move.0 < bound) moves → bound ≤ at
    → frame_at (with_moves 0 moves places) at ≡ frame_at places at
moves_below [] places bound at below high = refl
moves_below (move ∷ moves) places bound at below high =
    let low : move.0 < bound = below 0 move (omega arith) in
    let elsewhere : at ≢ 0 + move.0 = omega arith in
    moves_below moves (set places (0 + move.0) (Some move.1)) bound at (λ k d within. below (suc k) d (omega arith)) high
    ∙ get_or-set_other places (0 + move.0) at (Some move.1) None elsewhere

-- moves of the places from one on leave those before it
pub moves_above : (first : ℕ) (moves : List (ℕ × ℕ)) (places : List (Option ℕ)) → take first (with_moves first moves places) ≡ take first places
moves_above first [] places = refl
moves_above first (move ∷ moves) places =
    moves_above first moves (set places (first + move.0) (Some move.1)) ∙ take-set-le first places (first + move.0) (Some move.1) (omega arith)

-- what holds of a list and of a number holds of the list with it
all_with : (P : ℕ → Type 0) (list : List ℕ) (number : ℕ) → All P list → P number → All P (with_number list number)
all_with P [] number all here = All-cons P number [] here all
all_with P (first ∷ list) number all here =
    cond_both (first == number) (first ∷ list) (cond (nat_lt number first) (number ∷ first ∷ list) (first ∷ with_number list number)) (All P)
    (λ same. all)
    (λ other. cond_both (nat_lt number first) (number ∷ first ∷ list) (first ∷ with_number list number) (All P)
    (λ before. All-cons P number (first ∷ list) here all)
    (λ behind. All-cons P first (with_number list number) (All-head P first list all) (all_with P list number (All-tail P first list all) here)))

all_with_numbers : (P : ℕ → Type 0) (numbers list : List ℕ) → All P list → All P numbers → All P (with_numbers list numbers)
all_with_numbers P [] list all more = all
all_with_numbers P (number ∷ numbers) list all more =
    all_with_numbers P numbers (with_number list number) (all_with P list number all (All-head P number numbers more)) (All-tail P number numbers more)

-- the map blocks of pages are below a bound where the pages are
pub blocks_below : (pages : List ℕ) (bound : ℕ) → All (λ page. page < 1024 * bound) pages → All (λ block. block < bound) (blocks_of pages)
blocks_below pages bound below =
    all_with_numbers (λ (block : ℕ). block < bound) (map (λ page. page / 1024) pages) [] (All-nil (λ (block : ℕ). block < bound))
    (All-map (λ (block : ℕ). block < bound) (λ page. page / 1024) pages
    (All-weaker (λ (page : ℕ). page < 1024 * bound) (λ (page : ℕ). page / 1024 < bound) (λ page low. omega (arith, low)) pages below))

-- what holds of all that moves
pub all_moved : (P : ℕ → Type 0) (moves : List (ℕ × ℕ)) → All P (moved moves) → All (λ move. P move.0) moves
all_moved P moves all k d within =
    subst P (get_or-map (λ (move : ℕ × ℕ). move.0) moves k d 0 within) (all k 0 (omega (arith, length-map moves (λ (move : ℕ × ℕ). move.0))))
