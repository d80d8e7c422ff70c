use Rattle.std.proofs.Common.{◌≡◌, ◌<◌, ◌≤◌, ◌+◌, ◌-◌, ◌^◌, ℕ, Bool, cond, false, List, [], ◌∷◌, ◌++◌, true, true≢false, length, refl, sym, ap, ap₂, ◌∙◌, subst, arith}
use Rattle.std.specs.Prelude.{IsTrue, min, slice_index_or, Contains, Result, Ok, Err, IsOk, OnOk}
use Rattle.std.proofs.lemmas.Bool.{and_from, and_parts}
use Rattle.std.proofs.lemmas.List.Elements.{Contains-get_or}
use Rattle.casper_words.specs.Count.{FaultCountRose}
use Rattle.casper_space.specs.declared.answer.Answer.{Answer}
use Rattle.casper_model.specs.declared.event.Event.{Event}
use Rattle.casper_model.specs.State.{State}
use Rattle.casper_model.specs.Step.{step}
use Rattle.casper_model.specs.Run.{Happening, fits, all_fit, answers_of, state_after}
use Rattle.casper_core.specs.CoreView.{CoreView}
use Rattle.casper_core.specs.Represents.{Represents}
use Rattle.casper_core.specs.Stepping.{Steps, Runs, RoseBy, is_fault, completes, counted, completed_in, failures_in, happening_of, happenings_of}

-- A run of a core, step after step.

pub happenings_more : (events : List Event) (said : List Answer) (one : Event) (answer : Answer) → length said < length events → one ≡ slice_index_or events (length said) one
    → happenings_of events (said ++ answer ∷ []) ≡ happenings_of events said ++ happening_of one answer ∷ []
happenings_more [] said one answer below is = absurd (omega (arith, below))
happenings_more (event ∷ events) [] one answer below is = ap (λ e. happening_of e answer ∷ []) (sym is)
happenings_more (event ∷ events) (first ∷ said) one answer below is =
    ap (λ rest. happening_of event first ∷ rest) (happenings_more events said one answer (omega (arith, below)) is)

fit_more : (state : State) (before : List Happening) (next : Happening) → IsTrue (all_fit state before) → IsTrue (fits (state_after state before) next) → IsTrue (all_fit state (before ++ next ∷ []))
fit_more state [] next before fit = and_from (fits state next) true fit refl
fit_more state (first ∷ following) next before fit =
    let parts = and_parts (fits state first) (all_fit (step state first.event first.outside).state following) before in
    and_from (fits state first) (all_fit (step state first.event first.outside).state (following ++ next ∷ [])) parts.0
    (fit_more (step state first.event first.outside).state following next parts.1 fit)

answers_more : (state : State) (before : List Happening) (next : Happening)
    → answers_of state (before ++ next ∷ []) ≡ answers_of state before ++ (step (state_after state before) next.event next.outside).answer ∷ []
answers_more state [] next = refl
answers_more state (first ∷ following) next =
    ap (λ rest. (step state first.event first.outside).answer ∷ rest) (answers_more (step state first.event first.outside).state following next)

after_more : (state : State) (before : List Happening) (next : Happening) → state_after state (before ++ next ∷ []) ≡ (step (state_after state before) next.event next.outside).state
after_more state [] next = refl
after_more state (first ∷ following) next = after_more (step state first.event first.outside).state following next

-- an event at a place is one of the events
pub contains_at : (events : List Event) (at : ℕ) (one : Event) → at < length events → one ≡ slice_index_or events at one → Contains events one
contains_at events at one below is = subst (Contains events) (sym is) (Contains-get_or events at one below)

pub run_nothing : {V : Type 0} (events : List Event) (core : CoreView V) → Runs events [] core core
run_nothing events core state stands = record { outside_fits = refl; answers = refl; stands = stands }

pub run_more : {V : Type 0} (events : List Event) (said : List Answer) (one : Event) (answer : Answer) (core middle after : CoreView V) → length said < length events
    → one ≡ slice_index_or events (length said) one → Runs events said core middle → Steps one answer middle after → Runs events (said ++ answer ∷ []) core after
run_more events said one answer core middle after below is runs steps state stands =
    let run = runs state stands in
    let before = happenings_of events said in
    let next = happening_of one answer in
    let last = steps (state_after state before) run.stands in
    let more : happenings_of events (said ++ answer ∷ []) ≡ before ++ next ∷ [] = happenings_more events said one answer below is in
    record {
      outside_fits = subst (λ happenings. IsTrue (all_fit state happenings)) (sym more) (fit_more state before next run.outside_fits last.outside_fits);
      answers = ap₂ (λ front final. front ++ final ∷ []) run.answers last.answers ∙ sym (answers_more state before next) ∙ ap (answers_of state) (sym more);
      stands = subst (λ happenings. Represents (state_after state happenings) after) (sym more) (subst (λ one. Represents one after) (sym (after_more state before next)) last.stands);
    }

-- where nothing has changed
pub run_still : {V : Type 0} (events : List Event) (said : List Answer) (core middle after : CoreView V) → Runs events said core middle
    → ((state : State) → Represents state middle → Represents state after) → Runs events said core after
run_still events said core middle after runs still state stands =
    let run = runs state stands in
    record { outside_fits = run.outside_fits; answers = run.answers; stands = still (state_after state (happenings_of events said)) run.stands }

-- what holds of an Ok, of a result that is one
pub of_ok : {T E : Type 0} (result : Result T E) (P : Type 0) → IsOk result → OnOk result P → P
of_ok (Ok x) P ok is = is
of_ok (Err e) P ok is = absurd (true≢false (sym ok))

-- how many answers tell of a fault, and how many calls were completed, with one more answer
failures_more : (said : List Answer) (one : Answer) → failures_in (said ++ one ∷ []) ≡ failures_in said + cond (is_fault one) 1 0
failures_more [] one = omega arith
failures_more (first ∷ said) one = let rest = failures_more said one in omega (arith, rest)

completed_more : (events : List Event) (said : List Answer) (one : Event) (last : Answer) → length said < length events → one ≡ slice_index_or events (length said) one
    → completed_in events (said ++ last ∷ []) ≡ completed_in events said + cond (completes one last) 1 0
completed_more [] said one last below is = absurd (omega (arith, below))
completed_more (event ∷ events) [] one last below is = ap (λ e. cond (completes e last) 1 0 + 0) (sym is) ∙ omega arith
completed_more (event ∷ events) (first ∷ said) one last below is =
    let rest = completed_more events said one last (omega (arith, below)) is in omega (arith, rest)

rose_by : (failed : Bool) (count before middle now : ℕ) → RoseBy count before middle → middle ≤ now → (failed ≡ true → FaultCountRose middle now) → RoseBy (count + cond failed 1 0) before now
rose_by true count before middle now is falls rose = let one = rose refl in omega (arith, is, one)
rose_by false count before middle now is falls rose = omega (arith, is, falls)

pub rose_more : (said : List Answer) (one : Answer) (before middle now : ℕ) → RoseBy (failures_in said) before middle → middle ≤ now → (IsTrue (is_fault one) → FaultCountRose middle now)
    → RoseBy (failures_in (said ++ one ∷ [])) before now
rose_more said one before middle now is falls rose =
    subst (λ count. RoseBy count before now) (sym (failures_more said one))
    (rose_by (is_fault one) (failures_in said) before middle now is falls rose)

count_one : (completed : Bool) (before count : ℕ) → counted completed (min (before + count) (2 ^ 64 - 1)) ≡ min (before + (count + cond completed 1 0)) (2 ^ 64 - 1)
count_one true before count = omega arith
count_one false before count = omega arith

pub count_more : (events : List Event) (said : List Answer) (one : Event) (last : Answer) (before middle now : ℕ) → length said < length events
    → one ≡ slice_index_or events (length said) one → middle ≡ min (before + completed_in events said) (2 ^ 64 - 1) → now ≡ counted (completes one last) middle
    → now ≡ min (before + completed_in events (said ++ last ∷ [])) (2 ^ 64 - 1)
count_more events said one last before middle now below is middle_is now_is =
    now_is ∙ ap (counted (completes one last)) middle_is ∙ count_one (completes one last) before (completed_in events said)
    ∙ ap (λ count. min (before + count) (2 ^ 64 - 1)) (sym (completed_more events said one last below is))
