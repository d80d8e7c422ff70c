use Rattle.std.proofs.Common.{◌≡◌, ◌||◌, ◌==◌, ℕ, ◌+◌, ◌-◌, ◌<◌, ◌≤◌, Bool, true, false, List, [], ◌∷◌, ◌++◌, length, drop, set, Vec, get_or, replicate, refl, sym, ◌∙◌, ap, subst, inl, inr, ⊎_elim, arith}
use mathlib.Core.Path.{fun_ext}
use Rattle.std.proofs.Math.Bool.{or_assoc, or-false}
use Rattle.std.specs.declared.alloc.Global.{Global}
use Rattle.std.proofs.lemmas.Bool.{or_parts, or_from, cases_lt, eqb-false}
use Rattle.std.proofs.lemmas.Bool.Decides.{eqb_tells}
use Rattle.std.proofs.lemmas.List.{length-append, length-replicate, drop_all, drop_more, get_or-replicate, get_or_past, get_or-set_same, get_or-set_other, set-set, set-get_or, length-set, take_all, take-append-le, drop-append-le}
use Rattle.casper_disk.specs.Disk.{AgreesBut, Elapses, block_at, none_loose, with_loose}
use Rattle.casper_disk.specs.Record.{is_marked, content_before, loose_after, content_at, loose_at, WasLeft, Since, agrees_itself}
use Rattle.casper_disk.specs.declared.step.Step.{Step}
use Rattle.casper_disk.specs.declared.step.Step.TheVariants as step

pub content_before-append : (xs ys : List Step) (blocks : List (List ℕ)) → content_before (xs ++ ys) blocks ≡ content_before xs (content_before ys blocks)
content_before-append [] ys blocks = refl
content_before-append (step.Wrote at was ∷ xs) ys blocks = ap (λ before. set before at was) (content_before-append xs ys blocks)
content_before-append (step.Synced ∷ xs) ys blocks = content_before-append xs ys blocks
content_before-append (step.Unsynced ∷ xs) ys blocks = content_before-append xs ys blocks
content_before-append (step.Missed marks ∷ xs) ys blocks = content_before-append xs ys blocks

pub loose_after-append : (loose : ℕ → Bool) (xs ys : List Step) → loose_after loose (xs ++ ys) ≡ loose_after (loose_after loose xs) ys
loose_after-append loose [] ys = refl
loose_after-append loose (step.Wrote at was ∷ xs) ys = loose_after-append (with_loose at loose) xs ys
loose_after-append loose (step.Synced ∷ xs) ys = loose_after-append none_loose xs ys
loose_after-append loose (step.Unsynced ∷ xs) ys = loose_after-append loose xs ys
loose_after-append loose (step.Missed marks ∷ xs) ys = loose_after-append (λ at. loose at || is_marked marks.items at) xs ys

-- without marks
pub none_marked : (marks : List Bool) (count : ℕ) → marks ≡ replicate count false → (at : ℕ) → is_marked marks at ≡ false
none_marked marks count is at =
    rw is (⊎_elim (λ within. get_or-replicate count at false false within)
    (λ past. get_or_past (replicate count false) at false (omega (arith, length-replicate count false))) (cases_lt at count))

-- the loose blocks of a disk in memory
abbrev pub loose_with : List Step → List Bool → ℕ → Bool
loose_with steps marks at = loose_after none_loose steps at || is_marked marks at

-- the loose blocks after a write
pub wrote_loose : (steps after : List Step) (marks : List Bool) (at : ℕ) (was : List ℕ) → after ≡ steps ++ step.Wrote at was ∷ []
    → loose_with after marks ≡ with_loose at (loose_with steps marks)
wrote_loose steps after marks at was is = fun_ext (λ other.
    ap (λ loose. loose other || is_marked marks other) (ap (loose_after none_loose) is ∙ loose_after-append none_loose steps (step.Wrote at was ∷ []))
    ∙ or_assoc (other == at) (loose_after none_loose steps other) (is_marked marks other))

-- the loose blocks after a sync
pub synced_loose : (steps after : List Step) (marks : List Bool) → after ≡ steps ++ step.Synced ∷ [] → ((at : ℕ) → is_marked marks at ≡ false)
    → loose_with after marks ≡ none_loose
synced_loose steps after marks is none = fun_ext (λ other.
    ap (λ loose. loose other || is_marked marks other) (ap (loose_after none_loose) is ∙ loose_after-append none_loose steps (step.Synced ∷ []))
    ∙ none other)

-- the loose blocks after a sync that failed
pub unsynced_loose : (steps after : List Step) (marks : List Bool) → after ≡ steps ++ step.Unsynced ∷ []
    → loose_with after marks ≡ loose_with steps marks
unsynced_loose steps after marks is = fun_ext (λ other.
    ap (λ loose. loose other || is_marked marks other) (ap (loose_after none_loose) is ∙ loose_after-append none_loose steps (step.Unsynced ∷ [])))

or_true : (b : Bool) → (b || true) ≡ true
or_true true = refl
or_true false = refl

-- the loose blocks after a write that had no room
pub missed_loose : (steps : List Step) (marks after : List Bool) (at : ℕ) → at < length marks → after ≡ set marks at true
    → loose_with steps after ≡ with_loose at (loose_with steps marks)
missed_loose steps marks after at within is = fun_ext (λ other. ⊎_elim
    (λ same. let here : is_marked after other ≡ true = ap (λ list. is_marked list other) is ∙ rw same.1 (get_or-set_same marks at true false within) in
    ap (λ mark. loose_after none_loose steps other || mark) here ∙ or_true (loose_after none_loose steps other)
    ∙ sym (ap (λ test. test || (loose_after none_loose steps other || is_marked marks other)) same.0))
    (λ apart. let there : is_marked after other ≡ is_marked marks other = ap (λ list. is_marked list other) is ∙ get_or-set_other marks at other true false apart.1 in
    ap (λ mark. loose_after none_loose steps other || mark) there
    ∙ sym (ap (λ test. test || (loose_after none_loose steps other || is_marked marks other)) apart.0))
    (eqb_tells other at))

-- agreeing with fewer differences
pub agrees_less : (loose less : ℕ → Bool) (blocks image : List (List ℕ)) → ((at : ℕ) → loose at ≡ false → less at ≡ false) → AgreesBut less blocks image → AgreesBut loose blocks image
agrees_less loose less blocks image fewer agrees = record { count = agrees.count; same = λ at settled. agrees.same at (fewer at settled) }

-- a call that adds no step
pub miss_elapses : (steps : List Step) (content : List (List ℕ)) (loose more may_differ : ℕ → Bool)
    → ((at : ℕ) → more at ≡ false → loose at ≡ false) → ((at : ℕ) → may_differ at ≡ false → more at ≡ false)
    → Elapses (length steps) (length steps) (Since steps content loose) (Since steps content more) may_differ content
miss_elapses steps content loose more may_differ grows within = record {
  later = omega arith;
  only = λ past image early since. ⊎_elim (λ now. inr (inl now)) (λ left. inl (inr left)) since;
  keeps = λ past image early since. ⊎_elim (λ now. inl (agrees_less more loose content image grows now)) (λ left. inr left) since;
  agrees = λ image since. ⊎_elim (λ now. agrees_less may_differ more content image within now) (λ left. absurd (omega (arith, left.early, left.within))) since;
}

pub content_at_before : (steps : List Step) (last : Step) (content after : List (List ℕ)) (moment : ℕ) → moment ≤ length steps
    → content_before (last ∷ []) after ≡ content → content_at (steps ++ last ∷ []) after moment ≡ content_at steps content moment
content_at_before steps last content after moment within undone =
    ap (λ rest. content_before rest after) (drop-append-le moment steps (last ∷ []) within)
    ∙ content_before-append (drop moment steps) (last ∷ []) after
    ∙ ap (content_before (drop moment steps)) undone

pub loose_at_before : (steps : List Step) (last : Step) (moment : ℕ) → moment ≤ length steps → loose_at (steps ++ last ∷ []) moment ≡ loose_at steps moment
loose_at_before steps last moment within = ap (loose_after none_loose) (take-append-le moment steps (last ∷ []) within)

-- a call that adds a step, where what a stop now may leave stays
stay_elapses : (steps longer : List Step) (last : Step) (content after : List (List ℕ)) (loose more may_differ : ℕ → Bool)
    → longer ≡ steps ++ last ∷ [] → content_before (last ∷ []) after ≡ content
    → ((past : ℕ) (image : List (List ℕ)) → past ≤ length steps → AgreesBut loose content image → Since (steps ++ last ∷ []) after more past image)
    → ((at : ℕ) → may_differ at ≡ false → loose_after none_loose steps at ≡ false)
    → ((at : ℕ) → may_differ at ≡ false → more at ≡ false) → AgreesBut may_differ content after
    → Elapses (length steps) (length longer) (Since steps content loose) (Since longer after more) may_differ content
stay_elapses steps longer last content after loose more may_differ is undone stays was within changed =
    subst (λ (list : List Step). Elapses (length steps) (length list) (Since steps content loose) (Since list after more) may_differ content) (sym is) (record {
      later = omega (arith, length-append steps (last ∷ []));
      only = λ past image early since. ⊎_elim (λ now. inr (inl now))
          (λ left. ⊎_elim (λ before. inl (inr (moved left before))) (λ at_end. inr (inr (record { moment = left.moment; early = at_end; within = left.within; agrees = left.agrees })))
          (cases_lt left.moment (length steps))) since;
      keeps = λ past image early since. ⊎_elim (stays past image early)
          (λ left. inr (record {
            moment = left.moment;
            early = left.early;
            within = omega (arith, left.within, length-append steps (last ∷ []));
            agrees =
                subst (λ (l : ℕ → Bool). AgreesBut l (content_at (steps ++ last ∷ []) after left.moment) image) (sym (loose_at_before steps last left.moment (omega (arith, left.within))))
                (subst (λ (b : List (List ℕ)). AgreesBut (loose_at steps left.moment) b image) (sym (content_at_before steps last content after left.moment (omega (arith, left.within)) undone)) left.agrees);
          }))
          since;
      agrees = λ image since. ⊎_elim
          (λ now. record { count = now.count ∙ changed.count; same = λ at settled. now.same at (within at settled) ∙ changed.same at settled })
          (λ left.
          let at_end : left.moment ≡ length steps = omega (arith, left.early, left.within, length-append steps (last ∷ [])) in
          let loose_is : loose_at (steps ++ last ∷ []) left.moment ≡ loose_after none_loose steps =
          loose_at_before steps last left.moment (omega arith) ∙ ap (loose_after none_loose) (take_all left.moment steps (omega arith)) in
          let content_is : content_at (steps ++ last ∷ []) after left.moment ≡ content =
          content_at_before steps last content after left.moment (omega arith) undone ∙ ap (λ rest. content_before rest content) (drop_all left.moment steps (omega arith)) in
          agrees_less may_differ (loose_after none_loose steps) content image was
          (subst (λ (b : List (List ℕ)). AgreesBut (loose_after none_loose steps) b image) content_is
          (subst (λ (l : ℕ → Bool). AgreesBut l (content_at (steps ++ last ∷ []) after left.moment) image) loose_is left.agrees)))
          since;
    })
  where
    moved : {past : ℕ} {image : List (List ℕ)} (left : WasLeft (steps ++ last ∷ []) after past image) → left.moment < length steps → WasLeft steps content past image
    moved {past} {image} left before = record {
      moment = left.moment;
      early = left.early;
      within = before;
      agrees =
          subst (λ (l : ℕ → Bool). AgreesBut l (content_at steps content left.moment) image) (loose_at_before steps last left.moment (omega arith))
          (subst (λ (b : List (List ℕ)). AgreesBut (loose_at (steps ++ last ∷ []) left.moment) b image) (content_at_before steps last content after left.moment (omega arith) undone) left.agrees);
    }

-- a call that adds a step
pub step_elapses : (steps longer : List Step) (last : Step) (content after : List (List ℕ)) (loose more may_differ : ℕ → Bool)
    → longer ≡ steps ++ last ∷ [] → content_before (last ∷ []) after ≡ content
    → ((at : ℕ) → loose_after none_loose steps at ≡ false → loose at ≡ false)
    → ((at : ℕ) → may_differ at ≡ false → loose_after none_loose steps at ≡ false)
    → ((at : ℕ) → may_differ at ≡ false → more at ≡ false) → AgreesBut may_differ content after
    → Elapses (length steps) (length longer) (Since steps content loose) (Since longer after more) may_differ content
step_elapses steps longer last content after loose more may_differ is undone unmarked was within changed =
    stay_elapses steps longer last content after loose more may_differ is undone
    (λ past image early now. inr (record {
      moment = length steps;
      early = early;
      within = omega (arith, length-append steps (last ∷ []));
      agrees =
          subst (λ (l : ℕ → Bool). AgreesBut l (content_at (steps ++ last ∷ []) after (length steps)) image) (sym (loose_at_before steps last (length steps) (omega arith)))
          (subst (λ (b : List (List ℕ)). AgreesBut (loose_at steps (length steps)) b image)
          (sym (content_at_before steps last content after (length steps) (omega arith) undone ∙ ap (λ rest. content_before rest content) (drop_all (length steps) steps (omega arith))))
          (agrees_less (loose_at steps (length steps)) loose content image
          (λ at settled. unmarked at (sym (ap (λ list. loose_after none_loose list at) (take_all (length steps) steps (omega arith))) ∙ settled)) now));
    }))
    was within changed

-- a write, taken back
pub written_back : (content : List (List ℕ)) (at : ℕ) (bytes was : List ℕ) → was ≡ get_or content at [] → set (set content at bytes) at was ≡ content
written_back content at bytes was is = set-set content at bytes was ∙ ap (set content at) is ∙ set-get_or content at []

-- a write changes one block
pub write_agrees : (content after : List (List ℕ)) (at : ℕ) (bytes : List ℕ) (loose : ℕ → Bool) → after ≡ set content at bytes → AgreesBut (with_loose at loose) content after
write_agrees content after at bytes loose is = record {
  count = ap length is ∙ length-set content at bytes;
  same = λ other settled. ap (λ blocks. block_at blocks other) is ∙ get_or-set_other content at other bytes [] (eqb-false other at (or_parts (other == at) (loose other) settled).0);
}

-- the images after a write that had no room
pub missed_elapses : (steps : List Step) (content : List (List ℕ)) (marks after : List Bool) (at : ℕ) → at < length marks → after ≡ set marks at true
    → Elapses (length steps) (length steps) (Since steps content (loose_with steps marks)) (Since steps content (loose_with steps after))
    (with_loose at (loose_with steps marks)) content
missed_elapses steps content marks after at within is =
    let e : loose_with steps after ≡ with_loose at (loose_with steps marks) = missed_loose steps marks after at within is in
    miss_elapses steps content (loose_with steps marks) (loose_with steps after) (with_loose at (loose_with steps marks))
    (λ other settled. (or_parts (other == at) (loose_with steps marks other) (sym (ap (λ loose. loose other) e) ∙ settled)).1)
    (λ other settled. ap (λ loose. loose other) e ∙ settled)

-- the images after a sync that had no room
pub refused_elapses : (steps : List Step) (content : List (List ℕ)) (marks : List Bool)
    → Elapses (length steps) (length steps) (Since steps content (loose_with steps marks)) (Since steps content (loose_with steps marks)) (loose_with steps marks) content
refused_elapses steps content marks =
    miss_elapses steps content (loose_with steps marks) (loose_with steps marks) (loose_with steps marks) (λ other settled. settled) (λ other settled. settled)

-- the images after a write
pub wrote_elapses : (steps longer : List Step) (content after : List (List ℕ)) (marks : List Bool) (at : ℕ) (was bytes : List ℕ)
    → longer ≡ steps ++ step.Wrote at was ∷ [] → was ≡ get_or content at [] → after ≡ set content at bytes → ((other : ℕ) → is_marked marks other ≡ false)
    → Elapses (length steps) (length longer) (Since steps content (loose_with steps marks)) (Since longer after (loose_with longer marks))
    (with_loose at (loose_with steps marks)) content
wrote_elapses steps longer content after marks at was bytes is was_is after_is none =
    let e : loose_with longer marks ≡ with_loose at (loose_with steps marks) = wrote_loose steps longer marks at was is in
    step_elapses steps longer (step.Wrote at was) content after (loose_with steps marks) (loose_with longer marks) (with_loose at (loose_with steps marks)) is
    (ap (λ blocks. set blocks at was) after_is ∙ written_back content at bytes was was_is)
    (λ other settled. or_from (loose_after none_loose steps other) (is_marked marks other) settled (none other))
    (λ other settled. (or_parts (loose_after none_loose steps other) (is_marked marks other) (or_parts (other == at) (loose_with steps marks other) settled).1).0)
    (λ other settled. ap (λ loose. loose other) e ∙ settled)
    (write_agrees content after at bytes (loose_with steps marks) after_is)

-- the images after a sync
pub synced_elapses : (steps longer : List Step) (content : List (List ℕ)) (marks : List Bool) → longer ≡ steps ++ step.Synced ∷ []
    → ((other : ℕ) → is_marked marks other ≡ false)
    → Elapses (length steps) (length longer) (Since steps content (loose_with steps marks)) (Since longer content (loose_with longer marks)) (loose_with steps marks) content
synced_elapses steps longer content marks is none =
    step_elapses steps longer step.Synced content content (loose_with steps marks) (loose_with longer marks) (loose_with steps marks) is refl
    (λ other settled. or_from (loose_after none_loose steps other) (is_marked marks other) settled (none other))
    (λ other settled. (or_parts (loose_after none_loose steps other) (is_marked marks other) settled).0)
    (λ other settled. ap (λ loose. loose other) (synced_loose steps longer marks is none))
    (agrees_itself (loose_with steps marks) content)

-- the images after a sync that failed
pub unsynced_elapses : (steps longer : List Step) (content : List (List ℕ)) (marks : List Bool) → longer ≡ steps ++ step.Unsynced ∷ []
    → ((other : ℕ) → is_marked marks other ≡ false)
    → Elapses (length steps) (length longer) (Since steps content (loose_with steps marks)) (Since longer content (loose_with longer marks)) (loose_with steps marks) content
unsynced_elapses steps longer content marks is none =
    step_elapses steps longer step.Unsynced content content (loose_with steps marks) (loose_with longer marks) (loose_with steps marks) is refl
    (λ other settled. or_from (loose_after none_loose steps other) (is_marked marks other) settled (none other))
    (λ other settled. (or_parts (loose_after none_loose steps other) (is_marked marks other) settled).0)
    (λ other settled. ap (λ loose. loose other) (unsynced_loose steps longer marks is) ∙ settled)
    (agrees_itself (loose_with steps marks) content)

-- a new record begins with the blocks that are loose
pub armed_loose : (steps longer : List Step) (marks : Vec Bool Global) (after : List Bool) → longer ≡ steps ++ step.Missed marks ∷ []
    → ((at : ℕ) → is_marked after at ≡ false) → loose_with longer after ≡ loose_with steps marks.items
armed_loose steps longer marks after is none = fun_ext (λ other.
    ap (λ loose. loose other || is_marked after other) (ap (loose_after none_loose) is ∙ loose_after-append none_loose steps (step.Missed marks ∷ []))
    ∙ ap (λ mark. (loose_after none_loose steps other || is_marked marks.items other) || mark) (none other)
    ∙ or-false (loose_after none_loose steps other || is_marked marks.items other))

-- the images after a new record began
pub armed_elapses : (steps longer : List Step) (content : List (List ℕ)) (marks : Vec Bool Global) (after : List Bool)
    → longer ≡ steps ++ step.Missed marks ∷ [] → ((at : ℕ) → is_marked after at ≡ false)
    → Elapses (length steps) (length longer) (Since steps content (loose_with steps marks.items)) (Since longer content (loose_with longer after))
    (loose_with steps marks.items) content
armed_elapses steps longer content marks after is none =
    let before = loose_with steps marks.items in
    let same : loose_with longer after ≡ before = armed_loose steps longer marks after is none in
    stay_elapses steps longer (step.Missed marks) content content before (loose_with longer after) before is refl
    (λ past image early now. inl (subst (λ (l : ℕ → Bool). AgreesBut l content image) (sym same) now))
    (λ at settled. (or_parts (loose_after none_loose steps at) (is_marked marks.items at) settled).0)
    (λ at settled. ap (λ loose. loose at) same ∙ settled)
    (agrees_itself before content)

-- a disk without a record and without marks has no loose block
pub fresh_loose : (marks : List Bool) (count : ℕ) → marks ≡ replicate count false → loose_with [] marks ≡ none_loose
fresh_loose marks count is = fun_ext (λ other. none_marked marks count is other)

-- one step more taken back
pub undone_more : (steps : List Step) (content before after : List (List ℕ)) (step : Step) (done : ℕ) → done < length steps
    → step ≡ get_or steps (length steps - 1 - done) step → before ≡ content_before (drop (length steps - done) steps) content
    → after ≡ content_before (step ∷ []) before → after ≡ content_before (drop (length steps - (done + 1)) steps) content
undone_more steps content before after step done some read was is =
    let place : length steps - 1 - done ≡ length steps - (done + 1) = omega arith in
    let next : length steps - (done + 1) + 1 ≡ length steps - done = omega arith in
    let more : drop (length steps - (done + 1)) steps ≡ step ∷ drop (length steps - done) steps =
    drop_more steps (length steps - (done + 1)) step (omega arith)
    ∙ ap (λ first. first ∷ drop (length steps - (done + 1) + 1) steps) (sym (read ∙ ap (λ at. get_or steps at step) place))
    ∙ ap (λ at. step ∷ drop at steps) next in
    is ∙ ap (content_before (step ∷ [])) was ∙ sym (ap (λ list. content_before list content) more ∙ content_before-append (step ∷ []) (drop (length steps - done) steps) content)
