use Rattle.std.proofs.Common.{◌≡◌, ◌⊎◌, ◌||◌, ◌&&◌, ◌==◌, ℕ, zero, suc, ◌+◌, ◌-◌, ◌<◌, ◌≤◌, Bool, true, false, List, [], ◌∷◌, ◌++◌, length, take, drop, set, get_or, min, replicate, refl, sym, ◌∙◌, ap, inl, inr, ⊎_elim, arith, append-nil}
use Rattle.std.specs.Prelude.{nat_lt, slice_range, if◌then◌else◌}
use Rattle.std.proofs.Math.Bool.{or_assoc, or-false}
use Rattle.std.proofs.lemmas.Bool.{or_parts, or_from, cases_lt, cases_Bool, cond_both, both_ways, ne_eqb, eqb-true, eqb-false, le-ltb, lt-ltb}
use Rattle.std.proofs.lemmas.Bool.Decides.{eqb_tells}
use Rattle.std.proofs.lemmas.List.{get_or-set_same, get_or-set_other, length-set, length-take-le, length-append, length-replicate, get_or-take, get_or-drop, length-take, length-drop, get_or_read, get_or_past, take_more, drop_all}
use Rattle.std.proofs.Math.Seq.{take-append_seam}
use Rattle.casper_disk.specs.Disk.{AgreesBut, block_at}
use Rattle.casper_disk.specs.Record.{is_marked, loose_after, loose_at}
use Rattle.casper_disk.specs.StepKinds.{is_synced}
use Rattle.casper_disk.specs.MemDisk.{Held}
use Rattle.casper_disk.specs.Stopped.{step_at, settled_before, stop_moment, loose_within}
use Rattle.casper_disk.specs.Touched.{touches, touched, torn_block, AreTorn}
use Rattle.casper_disk.specs.declared.step.Step.{Step}
use Rattle.casper_disk.specs.declared.step.Step.TheVariants as step
use Rattle.casper_disk.proofs.StopLemmas.{loose_next, recent_list}

-- a block with this byte written over its second half is torn
pub torn_by_put : (byte : ℕ) (block bytes : List ℕ) → length block ≡ 4096 → bytes ≡ replicate 2048 byte
    → take 2048 block ++ bytes ++ drop (2048 + length bytes) block ≡ torn_block byte block
unfolding torn_block
torn_by_put byte block bytes long is =
    let count : length bytes ≡ 2048 = ap length is ∙ length-replicate 2048 byte in
    ap (λ rest. take 2048 block ++ bytes ++ rest) (drop_all (2048 + length bytes) block (omega (arith, long, count)))
    ∙ append-nil (take 2048 block ++ bytes)
    ∙ ap (λ half. take 2048 block ++ half) is

-- tearing a block again changes nothing
pub torn_again : (byte : ℕ) (block : List ℕ) → length block ≡ 4096 → torn_block byte (torn_block byte block) ≡ torn_block byte block
unfolding torn_block
torn_again byte block long =
    let half : length (take 2048 block) ≡ 2048 = length-take-le 2048 block (omega (arith, long)) in
    ap (λ first. first ++ replicate 2048 byte)
    (ap (λ (count : ℕ). take count (take 2048 block ++ replicate 2048 byte)) (sym half) ∙ take-append_seam (take 2048 block) (replicate 2048 byte))

length_torn : (byte : ℕ) (block : List ℕ) → length block ≡ 4096 → length (torn_block byte block) ≡ 4096
unfolding torn_block
length_torn byte block long = omega (arith, length-append (take 2048 block) (replicate 2048 byte), length-take-le 2048 block (omega (arith, long)), length-replicate {A = ℕ} 2048 byte)

-- torn blocks agree but where they were torn
pub torn_agrees : (torn : ℕ → Bool) (byte : ℕ) (blocks image : List (List ℕ)) → AreTorn torn byte blocks image → AgreesBut torn blocks image
torn_agrees torn byte blocks image are = record { count = are.count; same = are.same }

-- a test with the same answers
pub torn_same : (torn also : ℕ → Bool) (byte : ℕ) (blocks image : List (List ℕ)) → ((at : ℕ) → also at ≡ torn at) → AreTorn torn byte blocks image
    → AreTorn also byte blocks image
torn_same torn also byte blocks image is are = record {
  count = are.count;
  long = λ at within yes_there. are.long at within (sym (is at) ∙ yes_there);
  bytes = λ at within yes_there. are.bytes at within (sym (is at) ∙ yes_there);
  same = λ at no_there. are.same at (sym (is at) ∙ no_there);
}

-- torn once more
pub torn_both : (first second : ℕ → Bool) (byte : ℕ) (blocks middle image : List (List ℕ)) → AreTorn first byte blocks middle → AreTorn second byte middle image
    → AreTorn (λ at. first at || second at) byte blocks image
torn_both first second byte blocks middle image early late = record {
  count = late.count ∙ early.count;
  long = λ at within some. ⊎_elim
      (λ was. early.long at within was)
      (λ was_not. ap length (sym (early.same at was_not)) ∙ late.long at (omega (arith, within, early.count)) (ap (λ (test : Bool). test || second at) (sym was_not) ∙ some))
      (cases_Bool (first at));
  bytes = λ at within some. ⊎_elim
      (λ was.
      ⊎_elim
      (λ again. late.bytes at (omega (arith, within, early.count)) again ∙ ap (torn_block byte) (early.bytes at within was) ∙ torn_again byte (block_at blocks at) (early.long at within was))
      (λ never. late.same at never ∙ early.bytes at within was)
      (cases_Bool (second at)))
      (λ was_not.
      late.bytes at (omega (arith, within, early.count)) (ap (λ (test : Bool). test || second at) (sym was_not) ∙ some) ∙ ap (torn_block byte) (early.same at was_not))
      (cases_Bool (first at));
  same = λ at none. let parts = or_parts (first at) (second at) none in late.same at parts.1 ∙ early.same at parts.0;
}

-- nothing torn
pub torn_none : (torn : ℕ → Bool) (byte : ℕ) (blocks : List (List ℕ)) → ((at : ℕ) → torn at ≡ false) → AreTorn torn byte blocks blocks
torn_none torn byte blocks none = record {
  count = refl;
  long = λ at within some. absurd (both_ways (torn at) (none at) some);
  bytes = λ at within some. absurd (both_ways (torn at) (none at) some);
  same = λ at settled. refl;
}

-- one block torn
pub torn_one : (place byte : ℕ) (blocks : List (List ℕ)) (block after : List ℕ) → place < length blocks → block ≡ get_or blocks place block
    → length block ≡ 4096 → after ≡ torn_block byte block → AreTorn (λ at. at == place) byte blocks (set blocks place after)
torn_one place byte blocks block after within is long after_is =
    let there : block ≡ block_at blocks place = get_or_read blocks place block within is [] in
    record {
      count = length-set blocks place after;
      long = λ at inside same. rw (eqb-true at place same) (ap length (sym there) ∙ long);
      bytes = λ at inside same. rw (eqb-true at place same) (get_or-set_same blocks place after [] within ∙ after_is ∙ ap (torn_block byte) there);
      same = λ at apart. get_or-set_other blocks place at after [] (eqb-false at place apart);
    }

-- the marks up to one more place, which has a mark
pub marked_more : (marks : List Bool) (at place : ℕ) → is_marked marks at ≡ true
    → (nat_lt place (at + 1) && is_marked marks place) ≡ ((nat_lt place at && is_marked marks place) || place == at)
marked_more marks at place mark = ⊎_elim
    (λ before.
    let apart : (place == at) ≡ false = ne_eqb place at (λ same. omega (arith, before, same)) in
    rw (lt-ltb place (at + 1) (omega (arith, before)), lt-ltb place at before, apart) (sym (or-false (is_marked marks place))))
    (λ past. ⊎_elim
    (λ (same : ((place == at) ≡ true) × (place ≡ at)).
    rw (same.0, same.1) (rw (lt-ltb at (at + 1) (omega arith), le-ltb at at (omega arith)) mark))
    (λ (apart : ((place == at) ≡ false) × (place ≡ at → ⊥)).
    let behind : at + 1 ≤ place = omega (arith, past, apart.1) in
    rw (le-ltb place (at + 1) behind, le-ltb place at past, apart.0) refl)
    (eqb_tells place at))
    (cases_lt place at)

-- the marks up to one more place, which has no mark
pub unmarked_more : (marks : List Bool) (at place : ℕ) → is_marked marks at ≡ false
    → (nat_lt place (at + 1) && is_marked marks place) ≡ (nat_lt place at && is_marked marks place)
unmarked_more marks at place mark = ⊎_elim
    (λ before. rw (lt-ltb place (at + 1) (omega (arith, before)), lt-ltb place at before) refl)
    (λ past. ⊎_elim
    (λ (same : ((place == at) ≡ true) × (place ≡ at)). rw same.1 (rw (lt-ltb at (at + 1) (omega arith), le-ltb at at (omega arith)) mark))
    (λ (apart : ((place == at) ≡ false) × (place ≡ at → ⊥)).
    let behind : at + 1 ≤ place = omega (arith, past, apart.1) in
    rw (le-ltb place (at + 1) behind, le-ltb place at past) refl)
    (eqb_tells place at))
    (cases_lt place at)

-- all marks
pub all_marked : (marks : List Bool) (at place : ℕ) → length marks ≤ at → is_marked marks place ≡ (nat_lt place at && is_marked marks place)
all_marked marks at place all = ⊎_elim
    (λ before. rw (lt-ltb place at before) refl)
    (λ past. get_or_past marks place false (omega (arith, all, past)) ∙ sym (ap (λ (test : Bool). test && is_marked marks place) (le-ltb place at past)))
    (cases_lt place at)

pub touched_append : (xs ys : List Step) (at : ℕ) → touched (xs ++ ys) at ≡ (touched xs at || touched ys at)
touched_append [] ys at = refl
touched_append (one ∷ xs) ys at = ap (λ (test : Bool). touches one at || test) (touched_append xs ys at) ∙ sym (or_assoc (touches one at) (touched xs at) (touched ys at))

-- the blocks that one step more wrote
pub touched_more : (steps : List Step) (place : ℕ) (one : Step) (at : ℕ) → place < length steps → one ≡ get_or steps place one
    → touched (take (place + 1) steps) at ≡ (touched (take place steps) at || touches one at)
touched_more steps place one at within is =
    ap (λ (list : List Step). touched list at) (take_more steps place one within)
    ∙ touched_append (take place steps) (get_or steps place one ∷ []) at
    ∙ ap (λ (test : Bool). touched (take place steps) at || test) (or-false (touches (get_or steps place one) at) ∙ ap (λ (s : Step). touches s at) (sym is))

-- what none of some steps wrote, each of them did not write
pub untouched_at : (steps : List Step) (place : ℕ) (d : Step) (at : ℕ) → place < length steps → touched steps at ≡ false → touches (get_or steps place d) at ≡ false
untouched_at [] place d at within none = absurd (omega (arith, within))
untouched_at (first ∷ steps) zero d at within none = (or_parts (touches first at) (touched steps at) none).0
untouched_at (first ∷ steps) (suc place) d at within none =
    untouched_at steps place d at (omega (arith, within)) (or_parts (touches first at) (touched steps at) none).1

-- a sync settles every block
pub synced_none : (loose : ℕ → Bool) (one : Step) (at : ℕ) → is_synced one ≡ true → loose_after loose (one ∷ []) at ≡ false
synced_none loose (step.Wrote place was) at synced = absurd (both_ways false refl synced)
synced_none loose step.Synced at synced = refl
synced_none loose step.Unsynced at synced = absurd (both_ways false refl synced)
synced_none loose (step.Missed marks) at synced = absurd (both_ways false refl synced)

-- a block that a step does not write stays settled
pub still_settled : (loose : ℕ → Bool) (one : Step) (at : ℕ) → loose at ≡ false → touches one at ≡ false → loose_after loose (one ∷ []) at ≡ false
still_settled loose (step.Wrote place was) at settled apart = or_from (at == place) (loose at) apart settled
still_settled loose step.Synced at settled apart = refl
still_settled loose step.Unsynced at settled apart = settled
still_settled loose (step.Missed marks) at settled apart = or_from (loose at) (is_marked marks.items at) settled apart

pub settled_early : (steps : List Step) (moment : ℕ) → settled_before steps moment ≤ moment
settled_early steps zero = omega arith
settled_early steps (suc last) =
    cond_both (is_synced (step_at steps last)) (last + 1) (settled_before steps last) (λ (settled : ℕ). settled ≤ suc last)
    (λ synced. omega arith) (λ unsynced. omega (arith, settled_early steps last))

-- a block that no step since the last sync wrote is not loose
pub quiet : (steps : List Step) (moment at : ℕ) → moment ≤ length steps
    → ((place : ℕ) → settled_before steps moment ≤ place → place < moment → touches (step_at steps place) at ≡ false) → loose_at steps moment at ≡ false
quiet steps zero at within none = refl
quiet steps (suc last) at within none =
    ap (λ loose. loose at) (loose_next steps last (omega (arith, within)))
    ∙ ⊎_elim
    (λ synced. synced_none (loose_at steps last) (step_at steps last) at synced)
    (λ unsynced.
    let same : settled_before steps (suc last) ≡ settled_before steps last =
    ap (λ (b : Bool). if b then last + 1 else settled_before steps last) unsynced in
    still_settled (loose_at steps last) (step_at steps last) at
    (quiet steps last at (omega (arith, within)) (λ place late early. none place (omega (arith, same, late)) (omega (arith, early))))
    (none last (omega (arith, same, settled_early steps last)) (omega arith)))
    (cases_Bool (is_synced (step_at steps last)))

-- the loose blocks are those that a step since the last sync wrote
pub loose_is_recent : (steps : List Step) (moment at : ℕ) → moment ≤ length steps
    → loose_at steps moment at ≡ touched (slice_range steps (settled_before steps moment) moment) at
loose_is_recent steps moment at within =
    let from = settled_before steps moment in
    let list = slice_range steps from moment in
    ⊎_elim
    (λ settled. settled ∙ sym (recent_list steps moment at within settled))
    (λ loose. ⊎_elim
    (λ none. absurd (both_ways (loose_at steps moment at)
    (quiet steps moment at within (λ place late early.
    let count : place - from < moment - from = omega (arith, late, early) in
    let rest : from + (place - from) ≡ place = omega (arith, late) in
    let long : length list ≡ min (moment - from) (length (drop from steps)) = length-take (moment - from) (drop from steps) in
    let inside : place - from < length list = omega (arith, count, long, length-drop from steps, early, within, late) in
    ap (λ (p : ℕ). touches (step_at steps p) at) (sym rest)
    ∙ ap (λ (one : Step). touches one at) (sym (get_or-take (moment - from) (drop from steps) (place - from) step.Unsynced count ∙ get_or-drop from steps (place - from) step.Unsynced))
    ∙ untouched_at list (place - from) step.Unsynced at inside none)) loose))
    (λ some. loose ∙ sym some)
    (swapped (cases_Bool (touched list at))))
    (swapped (cases_Bool (loose_at steps moment at)))
  where
    swapped : {b : Bool} → ((b ≡ true) ⊎ (b ≡ false)) → ((b ≡ false) ⊎ (b ≡ true))
    swapped (inl y) = inr y
    swapped (inr n) = inl n

-- the same, of equal numbers and records
pub recent_as : (disk : Held) (call settled moment : ℕ) (steps : List Step) (at : ℕ) → stop_moment disk call ≤ length disk.steps
    → steps ≡ disk.steps → moment ≡ stop_moment disk call → settled ≡ settled_before disk.steps moment
    → loose_at disk.steps (stop_moment disk call) at ≡ touched (slice_range steps settled moment) at
recent_as disk call settled moment steps at within steps_is moment_is settled_is =
    loose_is_recent disk.steps (stop_moment disk call) at within
    ∙ sym (ap (λ (list : List Step). touched (slice_range list settled moment) at) steps_is
    ∙ ap (λ (from : ℕ). touched (slice_range disk.steps from moment) at) settled_is
    ∙ ap (λ (m : ℕ). touched (slice_range disk.steps (settled_before disk.steps m) m) at) moment_is)

-- a stop within a call that is in the record tears what the steps since the last sync wrote
pub tear_early : (disk : Held) (call byte settled moment : ℕ) (steps : List Step) (blocks image : List (List ℕ))
    → stop_moment disk call ≤ length disk.steps → steps ≡ disk.steps → moment ≡ stop_moment disk call → settled ≡ settled_before disk.steps moment
    → call ≤ length disk.steps - disk.armed → AreTorn (touched (slice_range steps settled moment)) byte blocks image
    → AreTorn (loose_within disk call) byte blocks image
tear_early disk call byte settled moment steps blocks image within steps_is moment_is settled_is early are =
    torn_same (touched (slice_range steps settled moment)) (loose_within disk call) byte blocks image
    (λ at.
    ap (λ (test : Bool). loose_at disk.steps (stop_moment disk call) at || (test && is_marked disk.marks at)) (le-ltb (length disk.steps - disk.armed) call early)
    ∙ or-false (loose_at disk.steps (stop_moment disk call) at)
    ∙ recent_as disk call settled moment steps at within steps_is moment_is settled_is) are

-- a stop after the last call tears the blocks of the writes that had no room too
pub tear_late : (disk : Held) (call byte settled moment : ℕ) (steps : List Step) (marks : List Bool) (blocks middle image : List (List ℕ))
    → stop_moment disk call ≤ length disk.steps → steps ≡ disk.steps → moment ≡ stop_moment disk call → settled ≡ settled_before disk.steps moment
    → marks ≡ disk.marks → length disk.steps - disk.armed < call → AreTorn (touched (slice_range steps settled moment)) byte blocks middle
    → AreTorn (is_marked marks) byte middle image → AreTorn (loose_within disk call) byte blocks image
tear_late disk call byte settled moment steps marks blocks middle image within steps_is moment_is settled_is marks_is late early_are late_are =
    let recent = touched (slice_range steps settled moment) in
    torn_same (λ at. recent at || is_marked marks at) (loose_within disk call) byte blocks image
    (λ at.
    ap (λ (test : Bool). loose_at disk.steps (stop_moment disk call) at || (test && is_marked disk.marks at)) (lt-ltb (length disk.steps - disk.armed) call late)
    ∙ ap (λ (test : Bool). test || is_marked disk.marks at) (recent_as disk call settled moment steps at within steps_is moment_is settled_is)
    ∙ ap (λ (list : List Bool). recent at || is_marked list at) (sym marks_is))
    (torn_both recent (is_marked marks) byte blocks middle image early_are late_are)
