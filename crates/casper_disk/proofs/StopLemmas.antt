use Rattle.std.proofs.Common.{◌≡◌, ◌⊎◌, ◌&&◌, ◌||◌, ◌==◌, ℕ, zero, suc, ◌+◌, ◌-◌, ◌<◌, ◌≤◌, Bool, true, false, List, [], ◌∷◌, length, take, drop, min, refl, sym, ◌∙◌, ap, subst, inl, inr, ⊎_elim, arith, add-one}
use Rattle.std.specs.Prelude.{nat_le, nat_lt, slice_range, if◌then◌else◌}
use Rattle.std.proofs.lemmas.Bool.{or_parts, or_from, cases_lt, cases_Bool, cond_both, eqb-false, both_ways, leb-true, leb-false, le-ltb}
use Rattle.std.proofs.lemmas.List.{get_or-set_other, length-set, length-take, take_all, get_or-take, get_or-drop, take_more, drop_more, drop_all}
use Rattle.std.proofs.lemmas.List.Recursion.{or_from_places}
use Rattle.casper_disk.specs.Disk.{AgreesBut, block_at, none_loose}
use Rattle.casper_disk.specs.MemDisk.{Held, held_loose, held_since}
use Rattle.casper_disk.specs.Record.{is_marked, content_before, content_at, loose_after, loose_at, agrees_itself}
use Rattle.casper_disk.specs.StepKinds.{is_synced, is_written}
use Rattle.casper_disk.specs.Stopped.{step_at, settled_before, stop_moment, began, loose_within}
use Rattle.casper_disk.specs.StopLaw.{EndsWithLastSync, EndsWithNow}
use Rattle.casper_disk.specs.Touched.{touches, touched}
use Rattle.casper_disk.specs.declared.step.Step.{Step}
use Rattle.casper_disk.specs.declared.step.Step.TheVariants as step
use Rattle.casper_disk.proofs.RecordLemmas.{agrees_less, content_before-append, loose_after-append}

-- a step that settled nothing leaves the loose blocks loose, and makes those that it wrote loose
pub loose_before : (loose : ℕ → Bool) (one : Step) (at : ℕ) → is_synced one ≡ false → loose_after loose (one ∷ []) at ≡ false
    → (loose at ≡ false) × (touches one at ≡ false)
loose_before loose (step.Wrote place was) at unsynced settled = let parts = or_parts (at == place) (loose at) settled in (parts.1, parts.0)
loose_before loose step.Synced at unsynced settled = absurd (both_ways true unsynced refl)
loose_before loose step.Unsynced at unsynced settled = (settled, refl)
loose_before loose (step.Missed marks) at unsynced settled = or_parts (loose at) (is_marked marks.items at) settled

-- a step taken back changes no block but those that it wrote
pub one_back : (one : Step) (blocks : List (List ℕ)) → AgreesBut (touches one) blocks (content_before (one ∷ []) blocks)
one_back (step.Wrote place was) blocks = record {
  count = length-set blocks place was;
  same = λ at apart. get_or-set_other blocks place at was [] (eqb-false at place apart);
}
one_back step.Synced blocks = agrees_itself (touches step.Synced) blocks
one_back step.Unsynced blocks = agrees_itself (touches step.Unsynced) blocks
one_back (step.Missed marks) blocks = agrees_itself (touches (step.Missed marks)) blocks

-- the loose blocks after one step more
pub loose_next : (steps : List Step) (at : ℕ) → at < length steps → loose_at steps (suc at) ≡ loose_after (loose_at steps at) (step_at steps at ∷ [])
loose_next steps at within =
    ap (λ (place : ℕ). loose_at steps place) (sym (add-one at))
    ∙ ap (loose_after none_loose) (take_more steps at step.Unsynced within)
    ∙ loose_after-append none_loose (take at steps) (step_at steps at ∷ [])

-- the content before one step more
pub content_next : (steps : List Step) (content : List (List ℕ)) (at : ℕ) → at < length steps
    → content_at steps content at ≡ content_before (step_at steps at ∷ []) (content_at steps content (suc at))
content_next steps content at within =
    ap (λ rest. content_before rest content) (drop_more steps at step.Unsynced within)
    ∙ content_before-append (step_at steps at ∷ []) (drop (at + 1) steps) content
    ∙ ap (λ (place : ℕ). content_before (step_at steps at ∷ []) (content_at steps content place)) (add-one at)

-- since the last sync no step wrote a block that is not loose
pub recent : (steps : List Step) (moment at place : ℕ) → moment ≤ length steps → loose_at steps moment at ≡ false
    → settled_before steps moment ≤ place → place < moment → touches (step_at steps place) at ≡ false
recent steps zero at place within settled late early = absurd (omega (arith, early))
recent steps (suc last) at place within settled late early = ⊎_elim
    (λ synced. absurd (omega (arith, early, subst (λ (s : ℕ). s ≤ place) (settled_if synced) late)))
    (λ unsynced.
    let parts = loose_before (loose_at steps last) (step_at steps last) at unsynced
    (sym (ap (λ loose. loose at) (loose_next steps last (omega (arith, within)))) ∙ settled) in
    ⊎_elim
    (λ before. recent steps last at place (omega (arith, within)) parts.0 (subst (λ (s : ℕ). s ≤ place) (settled_else unsynced) late) before)
    (λ past. let e : place ≡ last = omega (arith, past, early) in ap (λ (p : ℕ). touches (step_at steps p) at) e ∙ parts.1)
    (cases_lt place last))
    (cases_Bool (is_synced (step_at steps last)))
  where
    settled_if : is_synced (step_at steps last) ≡ true → settled_before steps (suc last) ≡ last + 1
    settled_if synced = ap (λ (b : Bool). if b then last + 1 else settled_before steps last) synced

    settled_else : is_synced (step_at steps last) ≡ false → settled_before steps (suc last) ≡ settled_before steps last
    settled_else unsynced = ap (λ (b : Bool). if b then last + 1 else settled_before steps last) unsynced

-- nor did those steps as a list
pub recent_list : (steps : List Step) (moment at : ℕ) → moment ≤ length steps → loose_at steps moment at ≡ false
    → touched (slice_range steps (settled_before steps moment) moment) at ≡ false
recent_list steps moment at within settled =
    let from = settled_before steps moment in
    or_from_places (λ list. touched list at) (λ one. touches one at) refl (λ one list. refl) (slice_range steps from moment) step.Unsynced
    (λ place early.
    let long : length (slice_range steps from moment) ≡ min (moment - from) (length (drop from steps)) = length-take (moment - from) (drop from steps) in
    let count : place < moment - from = omega (arith, early, long) in
    ap (λ (one : Step). touches one at) (get_or-take (moment - from) (drop from steps) place step.Unsynced count ∙ get_or-drop from steps place step.Unsynced)
    ∙ recent steps moment at (from + place) within settled (omega arith) (omega (arith, count)))

-- the content at the last sync agrees with the content but in loose blocks
pub content_settled : (steps : List Step) (content : List (List ℕ)) (moment : ℕ) → moment ≤ length steps
    → AgreesBut (loose_at steps moment) (content_at steps content moment) (content_at steps content (settled_before steps moment))
content_settled steps content zero within = agrees_itself (loose_at steps zero) (content_at steps content zero)
content_settled steps content (suc last) within =
    cond_both (is_synced (step_at steps last)) (last + 1) (settled_before steps last)
    (λ (settled : ℕ). AgreesBut (loose_at steps (suc last)) (content_at steps content (suc last)) (content_at steps content settled))
    (λ synced. subst (λ (place : ℕ). AgreesBut (loose_at steps (suc last)) (content_at steps content (suc last)) (content_at steps content place)) (sym (add-one last))
    (agrees_itself (loose_at steps (suc last)) (content_at steps content (suc last))))
    (λ unsynced.
    let earlier = content_settled steps content last (omega (arith, within)) in
    let back = one_back (step_at steps last) (content_at steps content (suc last)) in
    let is = content_next steps content last (omega (arith, within)) in
    record {
      count = earlier.count ∙ ap length is ∙ back.count;
      same = λ at settled.
          let parts = loose_before (loose_at steps last) (step_at steps last) at unsynced
          (sym (ap (λ loose. loose at) (loose_next steps last (omega (arith, within)))) ∙ settled) in
          earlier.same at parts.0 ∙ ap (λ blocks. block_at blocks at) is ∙ back.same at parts.1;
    })

-- when a stop within a call happens
pub stop_split : (disk : Held) (call : ℕ) → disk.armed ≤ length disk.steps → 1 ≤ call
    → ((call ≤ length disk.steps - disk.armed) × (disk.armed + call - 1 ≤ stop_moment disk call) × (stop_moment disk call ≤ disk.armed + call))
    ⊎ ((length disk.steps - disk.armed < call) × (stop_moment disk call ≡ length disk.steps))
stop_split disk call before some =
    cond_both (nat_le call (length disk.steps - disk.armed)) _ (length disk.steps)
    (λ (moment : ℕ). ((call ≤ length disk.steps - disk.armed) × (disk.armed + call - 1 ≤ moment) × (moment ≤ disk.armed + call))
    ⊎ ((length disk.steps - disk.armed < call) × (moment ≡ length disk.steps)))
    (λ early. let within : call ≤ length disk.steps - disk.armed = leb-true call (length disk.steps - disk.armed) early in
    inl (cond_both (is_written (step_at disk.steps (disk.armed + call - 1))) (disk.armed + call) (disk.armed + call - 1)
    (λ (moment : ℕ). (call ≤ length disk.steps - disk.armed) × (disk.armed + call - 1 ≤ moment) × (moment ≤ disk.armed + call))
    (λ written. (within, omega arith, omega arith))
    (λ other. (within, omega arith, omega arith))))
    (λ late. inr (leb-false call (length disk.steps - disk.armed) late, refl))

pub and_right : (a b : Bool) → b ≡ false → (a && b) ≡ false
and_right true b is = is
and_right false b is = refl

-- at the end of a record
pub loose_end : (steps : List Step) (moment : ℕ) → moment ≡ length steps → loose_at steps moment ≡ loose_after none_loose steps
loose_end steps moment is = ap (loose_after none_loose) (take_all moment steps (omega (arith, is)))

pub content_end : (steps : List Step) (content : List (List ℕ)) (moment : ℕ) → moment ≡ length steps → content_at steps content moment ≡ content
content_end steps content moment is = ap (λ rest. content_before rest content) (drop_all moment steps (omega (arith, is)))

-- the image of a stop within a call is one of those since the call began
pub stop_image : (disk : Held) (call : ℕ) (image : List (List ℕ)) → disk.armed ≤ length disk.steps → 1 ≤ call
    → AgreesBut (loose_within disk call) (content_at disk.steps disk.content (stop_moment disk call)) image
    → held_since disk (began disk call) image
stop_image disk call image before some agrees =
    let steps = disk.steps in
    let moment = stop_moment disk call in
    let at_end : moment ≡ length steps → AgreesBut (held_loose disk) (content_at steps disk.content moment) image → held_since disk (began disk call) image =
    λ is last. inl (subst (λ (blocks : List (List ℕ)). AgreesBut (held_loose disk) blocks image) (content_end steps disk.content moment is) last) in
    ⊎_elim
    (λ early.
    let unmarked : nat_lt (length steps - disk.armed) call ≡ false = le-ltb (length steps - disk.armed) call early.0 in
    let fewer : (at : ℕ) → loose_at steps moment at ≡ false → loose_within disk call at ≡ false =
    λ at settled. or_from (loose_at steps moment at) (nat_lt (length steps - disk.armed) call && is_marked disk.marks at) settled
    (ap (λ (test : Bool). test && is_marked disk.marks at) unmarked) in
    ⊎_elim
    (λ within. inr (record {
      moment = moment;
      early = omega (arith, early.1);
      within = within;
      agrees = agrees_less (loose_at steps moment) (loose_within disk call) (content_at steps disk.content moment) image fewer agrees;
    }))
    (λ past.
    let is : moment ≡ length steps = omega (arith, early.0, early.2, past, before) in
    at_end is (agrees_less (held_loose disk) (loose_within disk call) (content_at steps disk.content moment) image
    (λ at settled. fewer at (ap (λ loose. loose at) (loose_end steps moment is) ∙ (or_parts (loose_after none_loose steps at) (is_marked disk.marks at) settled).0)) agrees))
    (cases_lt moment (length steps)))
    (λ late.
    at_end late.1 (agrees_less (held_loose disk) (loose_within disk call) (content_at steps disk.content moment) image
    (λ at settled.
    let parts = or_parts (loose_after none_loose steps at) (is_marked disk.marks at) settled in
    or_from (loose_at steps moment at) (nat_lt (length steps - disk.armed) call && is_marked disk.marks at)
    (ap (λ loose. loose at) (loose_end steps moment late.1) ∙ parts.0)
    (and_right (nat_lt (length steps - disk.armed) call) (is_marked disk.marks at) parts.1)) agrees))
    (stop_split disk call before some)

-- a stop that leaves the loose blocks as they were at the last sync
pub stop_old : (disk : Held) (call : ℕ) (image : List (List ℕ)) → disk.armed ≤ length disk.steps → 1 ≤ call → stop_moment disk call ≤ length disk.steps
    → image ≡ content_at disk.steps disk.content (settled_before disk.steps (stop_moment disk call)) → held_since disk (began disk call) image
stop_old disk call image before some within is =
    let moment = stop_moment disk call in
    let written = content_at disk.steps disk.content moment in
    stop_image disk call image before some
    (subst (AgreesBut (loose_within disk call) written) (sym is)
    (agrees_less (loose_within disk call) (loose_at disk.steps moment) written (content_at disk.steps disk.content (settled_before disk.steps moment))
    (λ at settled. (or_parts (loose_at disk.steps moment at) (nat_lt (length disk.steps - disk.armed) call && is_marked disk.marks at) settled).0)
    (content_settled disk.steps disk.content moment within)))

-- a stop that leaves the loose blocks as they were written
pub stop_new : (disk : Held) (call : ℕ) (image : List (List ℕ)) → disk.armed ≤ length disk.steps → 1 ≤ call
    → image ≡ content_at disk.steps disk.content (stop_moment disk call) → held_since disk (began disk call) image
stop_new disk call image before some is =
    let written = content_at disk.steps disk.content (stop_moment disk call) in
    stop_image disk call image before some (subst (AgreesBut (loose_within disk call) written) (sym is) (agrees_itself (loose_within disk call) written))

-- a stop that changes the loose blocks
pub stop_torn : (disk : Held) (call : ℕ) (written image : List (List ℕ)) → disk.armed ≤ length disk.steps → 1 ≤ call
    → written ≡ content_at disk.steps disk.content (stop_moment disk call) → AgreesBut (loose_within disk call) written image
    → held_since disk (began disk call) image
stop_torn disk call written image before some is agrees =
    stop_image disk call image before some (subst (λ (blocks : List (List ℕ)). AgreesBut (loose_within disk call) blocks image) is agrees)

-- what is settled before a moment ends with the last sync before it
pub last_sync : (steps : List Step) (moment : ℕ) → EndsWithLastSync steps moment (settled_before steps moment)
last_sync steps zero = record {
  early = omega arith;
  sync = λ some. absurd (omega (arith, some));
  last = λ at late early. absurd (omega (arith, early));
}
last_sync steps (suc at) =
    cond_both (is_synced (step_at steps at)) (at + 1) (settled_before steps at) (EndsWithLastSync steps (suc at))
    (λ synced. record {
      early = omega arith;
      sync = λ some. let place : at + 1 - 1 ≡ at = omega arith in ap (λ (p : ℕ). is_synced (step_at steps p)) place ∙ synced;
      last = λ place late early. absurd (omega (arith, late, early));
    })
    (λ unsynced.
    let earlier = last_sync steps at in
    record {
      early = omega (arith, earlier.early);
      sync = earlier.sync;
      last = λ place late early. ⊎_elim (λ before. earlier.last place late before)
          (λ past. let e : place ≡ at = omega (arith, past, early) in ap (λ (p : ℕ). is_synced (step_at steps p)) e ∙ unsynced)
          (cases_lt place at);
    })

-- a record ends with what is now
pub ends_now : (disk : Held) → EndsWithNow disk
ends_now disk = record {
  content = content_end disk.steps disk.content (length disk.steps) refl;
  loose = λ at. ap (λ loose. loose at || is_marked disk.marks at) (sym (loose_end disk.steps (length disk.steps) refl));
}
