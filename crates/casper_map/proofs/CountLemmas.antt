use Rattle.std.proofs.Common.{◌≡◌, ◌≢◌, ℕ, zero, suc, ◌+◌, ◌*◌, ◌<◌, ◌≤◌, Bool, true, false, List, [], ◌∷◌, length, refl, sym, ◌∙◌, ap, ⊎_elim, arith}
use Rattle.std.specs.Prelude.{◌||◌, ◌==◌, not, Option, None, Some, filter, replicate, cond}
use Rattle.std.specs.List.{range_with_len}
use Rattle.std.proofs.lemmas.Bool.{cases_eq, cases_lt, cases_Bool, eq-eqb, ne_eqb, or_left, false_from_ne_true, cond-true, cond-false}
use Rattle.std.proofs.lemmas.List.{get_or_past, get_or-replicate, length-replicate}
use Rattle.std.proofs.lemmas.List.Sums.{sum_by-cons}
use Rattle.std.proofs.lemmas.Option.{none-some}
use Rattle.casper_map.specs.Bits.{is_member}
use Rattle.casper_map.specs.Faulty.{frame_at}
use Rattle.casper_map.specs.Levels.{names}
use Rattle.casper_map.specs.Mapped.{used_in, AreApart, AreBelow, IsShadow}
use Rattle.casper_map.proofs.NameLemmas.{place_named, one_of}

-- the numbers that are neither this one nor pass the test
abbrev but_for : (ℕ → Bool) → ℕ → ℕ → Bool
but_for test number frame = not (number == frame || test frame)

abbrev failing : (ℕ → Bool) → ℕ → Bool
failing test frame = not (test frame)

-- after a number it makes no difference
but_behind : (test : ℕ → Bool) (number start count : ℕ) → number < start
    → filter (but_for test number) (range_with_len start count) ≡ filter (failing test) (range_with_len start count)
but_behind test number start zero behind = refl
but_behind test number start (suc count) behind =
    let other : (number == start) ≡ false = ne_eqb number start (λ same. omega (arith, same, behind)) in
    let later : number < start + 1 = omega arith in
    let rest = but_behind test number (start + 1) count later in
    let here : but_for test number start ≡ failing test start = ap (λ (b : Bool). not (b || test start)) other in
    ap (λ (b : Bool). cond b (start ∷ filter (but_for test number) (range_with_len (start + 1) count)) (filter (but_for test number) (range_with_len (start + 1) count))) here
    ∙ ap (λ (list : List ℕ). cond (failing test start) (start ∷ list) list) rest

-- a number of a range that did not pass the test makes it one less
one_less : (test : ℕ → Bool) (number start count : ℕ) → start ≤ number → number < start + count → test number ≡ false
    → length (filter (but_for test number) (range_with_len start count)) + 1 ≡ length (filter (failing test) (range_with_len start count))
one_less test number start zero low high fails = absurd (omega arith)
one_less test number start (suc count) low high fails =
    let rest = range_with_len (start + 1) count in
    ⊎_elim
    (λ (same : number ≡ start).
    let dropped : but_for test number start ≡ false = ap not (or_left (number == start) (test start) (eq-eqb number start same)) in
    let kept : failing test start ≡ true = ap not (ap test (sym same) ∙ fails) in
    let behind : number < start + 1 = omega arith in
    let less = cond-false (but_for test number start) (start ∷ filter (but_for test number) rest) (filter (but_for test number) rest) dropped ∙ but_behind test number (start + 1) count behind in
    let more = cond-true (failing test start) (start ∷ filter (failing test) rest) (filter (failing test) rest) kept in
    omega (arith, ap length less, ap length more))
    (λ (other : number ≢ start).
    let above : start + 1 ≤ number = omega arith in
    let within : number < start + 1 + count = omega arith in
    let later = one_less test number (start + 1) count above within fails in
    let here : but_for test number start ≡ failing test start = ap (λ (b : Bool). not (b || test start)) (ne_eqb number start other) in
    let same = ap (λ (b : Bool). cond b (start ∷ filter (but_for test number) rest) (filter (but_for test number) rest)) here in
    ⊎_elim
    (λ (kept : failing test start ≡ true).
    let one = same ∙ cond-true (failing test start) (start ∷ filter (but_for test number) rest) (filter (but_for test number) rest) kept in
    let two = cond-true (failing test start) (start ∷ filter (failing test) rest) (filter (failing test) rest) kept in
    omega (arith, ap length one, ap length two, later))
    (λ (dropped : failing test start ≡ false).
    let one = same ∙ cond-false (failing test start) (start ∷ filter (but_for test number) rest) (filter (but_for test number) rest) dropped in
    let two = cond-false (failing test start) (start ∷ filter (failing test) rest) (filter (failing test) rest) dropped in
    omega (arith, ap length one, ap length two, later))
    (cases_Bool (failing test start)))
    (cases_eq number start)

all_pass : (start count : ℕ) → length (filter (failing (names [])) (range_with_len start count)) ≡ count
all_pass start zero = refl
all_pass start (suc count) = omega (arith, all_pass (start + 1) count)

apart_tail : (place : Option ℕ) (places : List (Option ℕ)) → AreApart (place ∷ places) → AreApart places
apart_tail place places apart one other frame at_one at_other =
    let same : suc one ≡ suc other = apart (suc one) (suc other) frame at_one at_other in
    omega (arith, same)

below_tail : (frames : ℕ) (place : Option ℕ) (places : List (Option ℕ)) → AreBelow frames (place ∷ places) → AreBelow frames places
below_tail frames place places below at frame there = below (suc at) frame there

one_more : (used before free more frames : ℕ) → used ≡ 1 + before → free + 1 ≡ more → before + more ≡ frames → used + free ≡ frames
one_more used before free more frames one less whole = omega arith

-- the frames that are named and those that are free are all frames
pub all_counted : (places : List (Option ℕ)) (frames : ℕ) → AreApart places → AreBelow frames places
    → used_in places + length (filter (failing (names places)) (range_with_len 0 frames)) ≡ frames
all_counted [] frames apart below = omega (arith, all_pass 0 frames)
all_counted (None ∷ places) frames apart below =
    omega (arith, all_counted places frames (apart_tail None places apart) (below_tail frames None places below))
all_counted (Some first ∷ places) frames apart below =
    let fresh : names places first ≡ false =
    false_from_ne_true (names places first)
    (λ named.
    let found = place_named places first named in
    let same : suc found.0 ≡ zero = apart (suc found.0) zero first found.1 refl in
    omega (arith, same)) in
    let in_range : first < frames = below zero first refl in
    let range = range_with_len 0 frames in
    let less : length (filter (failing (names (Some first ∷ places))) range) + 1 ≡ length (filter (failing (names places)) range) =
    one_less (names places) first 0 frames (omega arith) (omega arith) fresh in
    let one : used_in (Some first ∷ places) ≡ 1 + used_in places = sum_by-cons one_of (Some first) places in
    let later = all_counted places frames (apart_tail (Some first) places apart) (below_tail frames (Some first) places below) in
    one_more (used_in (Some first ∷ places)) (used_in places) (length (filter (failing (names (Some first ∷ places))) range)) (length (filter (failing (names places)) range)) frames one less later

-- nothing has a frame
abbrev pub nothings : ℕ → List (Option ℕ)
nothings count = replicate count None

pub nothing_at : (count at : ℕ) → frame_at (nothings count) at ≡ None
nothing_at count at =
    ⊎_elim (λ (within : at < count). get_or-replicate {A = Option ℕ} count at None None within)
    (λ (past : count ≤ at). get_or_past (nothings count) at None (omega (arith, past, length-replicate {A = Option ℕ} count None)))
    (cases_lt at count)

pub nothing_named : (count frame : ℕ) → names (nothings count) frame ≡ false
nothing_named count frame =
    false_from_ne_true (names (nothings count) frame)
    (λ named.
    let found = place_named (nothings count) frame named in
    none-some frame (sym (nothing_at count found.0) ∙ found.1))

nothing_used : (count : ℕ) → used_in (nothings count) ≡ 0
nothing_used zero = refl
nothing_used (suc count) = nothing_used count

-- a new map in which nothing has a frame
pub shadow_new : (blocks pages frames : ℕ) (places : List (Option ℕ)) (members : List Bool) → blocks ≤ 16 → pages ≤ 16384 → pages ≤ 1024 * blocks → frames ≤ 65536
    → places ≡ nothings (blocks + pages) → members ≡ replicate frames false → IsShadow blocks places members 0
shadow_new blocks pages frames places members few_blocks few_pages mapped few_frames is none =
    let long : length places ≡ blocks + pages = ap length is ∙ length-replicate {A = Option ℕ} (blocks + pages) None in
    let members_long : length members ≡ frames = ap length none ∙ length-replicate frames false in
    let without : (at : ℕ) → frame_at places at ≡ None = (λ at. ap (λ (list : List (Option ℕ)). frame_at list at) is ∙ nothing_at (blocks + pages) at) in
    record {
      blocks = omega (arith, long);
      most_blocks = few_blocks;
      most_pages = omega (arith, long);
      mapped = omega (arith, long);
      most_frames = omega (arith, members_long);
      named = λ frame low.
          ap (λ (list : List Bool). is_member list frame) none ∙ get_or-replicate frames frame false false (omega (arith, members_long, low))
          ∙ sym (ap (λ (list : List (Option ℕ)). names list frame) is ∙ nothing_named (blocks + pages) frame);
      apart = λ one other frame at_one at_other. absurd (none-some frame (sym (without one) ∙ at_one));
      below = λ at frame there. absurd (none-some frame (sym (without at) ∙ there));
      counted = sym (ap used_in is ∙ nothing_used (blocks + pages));
    }
