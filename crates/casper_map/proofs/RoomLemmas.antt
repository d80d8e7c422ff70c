use Rattle.std.proofs.Common.{◌≡◌, ◌≢◌, ℕ, zero, suc, ◌+◌, ◌<◌, ◌≤◌, Bool, true, false, List, [], ◌∷◌, length, take, drop, map, get_or, set, filter, refl, sym, ◌∙◌, ap, ⊎_elim, arith}
use Rattle.std.specs.Prelude.{Option, Some, None, All, is_some, cond, ◌==◌, nat_lt}
use Rattle.std.specs.List.{range_with_len}
use Rattle.std.proofs.lemmas.Bool.{cases_lt, cases_eq, cond-true, cond-false, eq-eqb, ne_eqb, lt-ltb, le-ltb}
use Rattle.std.proofs.lemmas.List.{drop-set-add, length-map, length-set, length-drop, length-take-le}
use Rattle.std.proofs.Math.Seq.{take-set-lt}
use Rattle.std.proofs.lemmas.List.Sums.{sum_by-cons, sum_by-take-drop}
use Rattle.casper_space.specs.Rising.{with_number, with_numbers}
use Rattle.casper_space.specs.Changes.{blocks_of, VaultRoom}
use Rattle.casper_map.specs.Faulty.{frame_at}
use Rattle.casper_map.specs.Mapped.{block_frames, page_frames, used_in}
use Rattle.casper_map.specs.Planned.{moved, with_moves, with_plan}
use Rattle.casper_map.specs.Room.{framed}
use Rattle.casper_map.specs.RoomLaws.{RoomsHaveTheFreeFrames, RoomsHaveTheNeed, RoomsFollowPlans}
use Rattle.casper_map.proofs.CountLemmas.{all_counted}
use Rattle.casper_map.proofs.MoveLemmas.{moves_above}
use Rattle.casper_map.proofs.NameLemmas.{one_of}
use Rattle.casper_map.proofs.PagesLemmas.{moves_behind}
use Rattle.casper_map.proofs.PlannedLemmas.{pages_within, maps_below}

abbrev has_frame : List (Option ℕ) → ℕ → Bool
has_frame places at = is_some (frame_at places at)

abbrev next : List ℕ → List ℕ
next list = map (λ number. suc number) list

next_cond : (test : Bool) (number : ℕ) (list : List ℕ) → cond test (suc number ∷ next list) (next list) ≡ next (cond test (number ∷ list) list)
next_cond true number list = refl
next_cond false number list = refl

-- places one further on
further : (place : Option ℕ) (places : List (Option ℕ)) (start count : ℕ)
    → filter (has_frame (place ∷ places)) (range_with_len (suc start) count) ≡ next (filter (has_frame places) (range_with_len start count))
further place places start zero = refl
further place places start (suc count) =
    let e : suc start + 1 ≡ suc (start + 1) = omega arith in
    let rest = filter (has_frame (place ∷ places)) (range_with_len (suc start + 1) count) in
    let others = filter (has_frame places) (range_with_len (start + 1) count) in
    let later : rest ≡ next others =
    ap (λ (from : ℕ). filter (has_frame (place ∷ places)) (range_with_len from count)) e ∙ further place places (start + 1) count in
    ap (λ (list : List ℕ). cond (has_frame places start) (suc start ∷ list) list) later
    ∙ next_cond (has_frame places start) start others

-- the places of a list of one place more
framed_cons : (place : Option ℕ) (places : List (Option ℕ)) → framed (place ∷ places) ≡ cond (is_some place) (0 ∷ next (framed places)) (next (framed places))
framed_cons place places =
    ap (λ (list : List ℕ). cond (is_some place) (0 ∷ list) list) (further place places 0 (length places))

-- as many places as have a frame
framed_counted : (places : List (Option ℕ)) → length (framed places) ≡ used_in places
framed_counted [] = refl
framed_counted (None ∷ places) =
    ap length (framed_cons None places) ∙ length-map (framed places) (λ number. suc number) ∙ framed_counted places
framed_counted (Some frame ∷ places) =
    let one : used_in (Some frame ∷ places) ≡ 1 + used_in places = sum_by-cons one_of (Some frame) places in
    omega (arith, ap length (framed_cons (Some frame) places), length-map (framed places) (λ number. suc number), framed_counted places, one)

pub rooms_have_the_free_frames : RoomsHaveTheFreeFrames
rooms_have_the_free_frames held apart below =
    omega (
      arith,
      framed_counted (page_frames held),
      framed_counted (block_frames held),
      sum_by-take-drop one_of held.places held.first_page,
      all_counted held.places held.frames apart below,
    )

pub rooms_have_the_need : RoomsHaveTheNeed
rooms_have_the_need held [] = refl
rooms_have_the_need held (page ∷ pages) = omega arith

-- a number put into a list that has it in front, that begins above it, and that begins below it
number_there : (first number : ℕ) (list : List ℕ) → first ≡ number → with_number (first ∷ list) number ≡ first ∷ list
number_there first number list same =
    cond-true (first == number) (first ∷ list) (cond (nat_lt number first) (number ∷ first ∷ list) (first ∷ with_number list number)) (eq-eqb first number same)

number_first : (first number : ℕ) (list : List ℕ) → number < first → with_number (first ∷ list) number ≡ number ∷ first ∷ list
number_first first number list before =
    let other : first ≢ number = omega arith in
    cond-false (first == number) (first ∷ list) (cond (nat_lt number first) (number ∷ first ∷ list) (first ∷ with_number list number)) (ne_eqb first number other)
    ∙ cond-true (nat_lt number first) (number ∷ first ∷ list) (first ∷ with_number list number) (lt-ltb number first before)

number_later : (first number : ℕ) (list : List ℕ) → first < number → with_number (first ∷ list) number ≡ first ∷ with_number list number
number_later first number list behind =
    let other : first ≢ number = omega arith in
    cond-false (first == number) (first ∷ list) (cond (nat_lt number first) (number ∷ first ∷ list) (first ∷ with_number list number)) (ne_eqb first number other)
    ∙ cond-false (nat_lt number first) (number ∷ first ∷ list) (first ∷ with_number list number) (le-ltb number first (omega arith))

-- a number put into a list of which each is one more
with_next : (list : List ℕ) (number : ℕ) → with_number (next list) (suc number) ≡ next (with_number list number)
with_next [] number = refl
with_next (first ∷ list) number =
    let rest = with_next list number in
    ⊎_elim
    (λ (same : first ≡ number). number_there (suc first) (suc number) (next list) (ap (λ (n : ℕ). suc n) same) ∙ ap next (sym (number_there first number list same)))
    (λ (other : first ≢ number).
    ⊎_elim
    (λ (before : number < first). number_first (suc first) (suc number) (next list) (omega arith) ∙ ap next (sym (number_first first number list before)))
    (λ (behind : first ≤ number).
    let above : first < number = omega arith in
    number_later (suc first) (suc number) (next list) (omega arith) ∙ ap (λ (more : List ℕ). suc first ∷ more) rest ∙ ap next (sym (number_later first number list above)))
    (cases_lt number first))
    (cases_eq first number)

-- zero put into such a list, and another number into one that has it
with_zero : (list : List ℕ) → with_number (next list) 0 ≡ 0 ∷ next list
with_zero [] = refl
with_zero (first ∷ list) = number_first (suc first) 0 (next list) (omega arith)

zero_first : (list : List ℕ) (number : ℕ) → with_number (0 ∷ next list) (suc number) ≡ 0 ∷ next (with_number list number)
zero_first list number = number_later 0 (suc number) (next list) (omega arith) ∙ ap (λ (more : List ℕ). 0 ∷ more) (with_next list number)

-- the places once one has another frame
framed_set : (places : List (Option ℕ)) (at frame : ℕ) → at < length places → framed (set places at (Some frame)) ≡ with_number (framed places) at
framed_set [] at frame low = absurd (omega (arith, low))
framed_set (None ∷ places) zero frame low =
    framed_cons (Some frame) places ∙ sym (ap (λ (list : List ℕ). with_number list 0) (framed_cons None places) ∙ with_zero (framed places))
framed_set (Some old ∷ places) zero frame low =
    framed_cons (Some frame) places ∙ sym (ap (λ (list : List ℕ). with_number list 0) (framed_cons (Some old) places))
framed_set (None ∷ places) (suc at) frame low =
    framed_cons None (set places at (Some frame)) ∙ ap next (framed_set places at frame (omega arith)) ∙ sym (with_next (framed places) at)
    ∙ sym (ap (λ (list : List ℕ). with_number list (suc at)) (framed_cons None places))
framed_set (Some old ∷ places) (suc at) frame low =
    framed_cons (Some old) (set places at (Some frame)) ∙ ap (λ (list : List ℕ). 0 ∷ next list) (framed_set places at frame (omega arith)) ∙ sym (zero_first (framed places) at)
    ∙ sym (ap (λ (list : List ℕ). with_number list (suc at)) (framed_cons (Some old) places))

framed_moves : (moves : List (ℕ × ℕ)) (places : List (Option ℕ)) → All (λ move. move.0 < length places) moves → framed (with_moves 0 moves places) ≡ with_numbers (framed places) (moved moves)
framed_moves [] places within = refl
framed_moves (move ∷ moves) places within =
    let e : 0 + move.0 ≡ move.0 = omega arith in
    let long = length-set places (0 + move.0) (Some move.1) in
    let later : All (λ other. other.0 < length (set places (0 + move.0) (Some move.1))) moves =
    (λ k d low. let it : (get_or moves k d).0 < length places = within (suc k) d (omega arith) in omega (arith, it, long)) in
    framed_moves moves (set places (0 + move.0) (Some move.1)) later
    ∙ ap (λ (list : List ℕ). with_numbers list (moved moves)) (ap (λ (at : ℕ). framed (set places at (Some move.1))) e ∙ framed_set places move.0 move.1 (within 0 move (omega arith)))

-- moves of the places from one on, said of those after it
moves_dropped : (first : ℕ) (moves : List (ℕ × ℕ)) (places : List (Option ℕ)) → drop first (with_moves first moves places) ≡ with_moves 0 moves (drop first places)
moves_dropped first [] places = refl
moves_dropped first (move ∷ moves) places =
    let e : move.0 ≡ 0 + move.0 = omega arith in
    moves_dropped first moves (set places (first + move.0) (Some move.1))
    ∙ ap (with_moves 0 moves) (drop-set-add first places move.0 (Some move.1) ∙ ap (λ (at : ℕ). set (drop first places) at (Some move.1)) e)

moves_taken : (first : ℕ) (moves : List (ℕ × ℕ)) (places : List (Option ℕ)) → All (λ move. move.0 < first) moves → take first (with_moves 0 moves places) ≡ with_moves 0 moves (take first places)
moves_taken first [] places below = refl
moves_taken first (move ∷ moves) places below =
    let low : move.0 < first = below 0 move (omega arith) in
    moves_taken first moves (set places (0 + move.0) (Some move.1)) (λ k d within. below (suc k) d (omega arith))
    ∙ ap (with_moves 0 moves) (take-set-lt first places (0 + move.0) (Some move.1) (omega arith))

pub rooms_follow_plans : RoomsFollowPlans
rooms_follow_plans held plan sizes is =
    let first = held.first_page in
    let before = with_moves 0 plan.maps held.places in
    let blocks = sizes.blocks in
    let low = maps_below held plan sizes is in
    let pages : framed (page_frames (with_plan plan held)) ≡ with_numbers (framed (page_frames held)) (moved plan.pages) =
    ap framed (moves_dropped first plan.pages before ∙ ap (with_moves 0 plan.pages) (moves_behind plan.maps held.places first low))
    ∙ framed_moves plan.pages (drop first held.places) (λ k d within. let it = pages_within held plan sizes is k d within in omega (arith, it, length-drop first held.places)) in
    let maps : framed (block_frames (with_plan plan held)) ≡ with_numbers (framed (block_frames held)) (blocks_of (moved plan.pages)) =
    ap framed (moves_above first plan.pages before ∙ moves_taken first plan.maps held.places low)
    ∙ framed_moves plan.maps (take first held.places) (λ k d within. let it = low k d within in omega (arith, it, length-take-le first held.places blocks))
    ∙ ap (with_numbers (framed (block_frames held))) is.blocks in
    let made : List ℕ → List ℕ → VaultRoom = λ pages blocks. record { frames = held.frames; pages = pages; blocks = blocks; top = 0; extra = 0 } in
    ap (λ (list : List ℕ). made list (framed (block_frames (with_plan plan held)))) pages
    ∙ ap (made (with_numbers (framed (page_frames held)) (moved plan.pages))) maps
