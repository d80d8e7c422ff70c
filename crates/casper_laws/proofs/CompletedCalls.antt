use Rattle.std.proofs.Common.{◌≡◌, ℕ, List, [], ◌∷◌, ◌++◌, Bool, true, false, not, ◌==◌, ◌&&◌, cond, refl, sym, ap, ◌∙◌, append-nil, true≢false}
use Rattle.std.specs.Prelude.{Option, None, Some, is_some, unwrap_or}
use Rattle.casper_words.specs.Crew.{IsClient}
use Rattle.casper_words.specs.declared.call.Op.{Op}
use Rattle.casper_words.specs.declared.call.Op.TheVariants as op
use Rattle.casper_words.specs.declared.call.Call.{Call}
use Rattle.casper_words.specs.declared.page.Right.TheVariants as may
use Rattle.casper_words.specs.declared.page.Want.{Want}
use Rattle.casper_space.specs.declared.answer.Answer.{Answer}
use Rattle.casper_space.specs.declared.answer.Answer.TheVariants as answer
use Rattle.casper_model.specs.declared.event.Event.TheVariants as event
use Rattle.casper_model.specs.declared.reply.Reply.{Reply}
use Rattle.casper_model.specs.declared.reply.Reply.TheVariants as reply
use Rattle.casper_trail.specs.Calls.{calls_of}
use Rattle.casper_model.specs.Answers.{of_reply, of_depart}
use Rattle.casper_model.specs.CallStep.{hit_turn, hit_behind, call_by, call_step, acquire_step, unless_load_failed, is_granted}
use Rattle.casper_model.specs.Acquire.{acquire}
use Rattle.casper_model.specs.Client.{Fallen}
use Rattle.casper_model.specs.Finish.{finish, settled, doubtful_of}
use Rattle.casper_model.specs.Hits.{can_hit, with_call}
use Rattle.casper_model.specs.Leave.{departed_by}
use Rattle.casper_model.specs.Loss.{lose}
use Rattle.casper_model.specs.Outside.{Outside, is_settle_failed}
use Rattle.casper_model.specs.Shared.{fallen_at, is_live}
use Rattle.casper_model.specs.Stabilisation.{Stabilisation}
use Rattle.casper_model.specs.State.{State, Unfinished, own_at, with_own, start}
use Rattle.casper_model.specs.View.{value_seen}
use Rattle.casper_model.specs.Turn.{Turn, guarded, of_live, within, is_in_range, are_in_range}
use Rattle.casper_model.specs.Run.{state_after}
use Rattle.casper_model.specs.Step.{read_turn, write_turn, acquire_turn, hold_turn, heap_line_calls, serve_turn, stabilise_turn, depart_turn, vanish_turn, lose_turn}
use Rattle.casper_model.specs.WriteOutStep.{job_of, busy_lead, written_out, write_out_step, finish_turn, finish_step, settle_turn, settle_step}
use Rattle.casper_model.specs.Rights.{InOrder}
use Rattle.casper_model.specs.LegalHistory.{right_for}
use Rattle.casper_model.proofs.MarkSteps.{marks_finish, marks_settled, marks_lose}
use Rattle.casper_model.proofs.StepRights.{hit_by, ordered_acquire}
use Rattle.casper_model.proofs.RunRights.{every_run_rights}
use Rattle.casper_model.proofs.TurnHistory.{depart_records}
use Rattle.casper_laws.specs.OwnLists.{own_list_of, read_completed, write_completed, is_rolled_back, is_told, ArePendingCalls, AddsCompletedCalls, EachStepAddsCompletedCalls, EveryRunAddsCompletedCalls, RecordsAllAsItLeaves, EachDepartureRecordsAll, EveryDepartureRecordsAll}
use Rattle.casper_laws.proofs.OwnListSteps.{Keeps, SameLists, left_to, passed, both_never, recorded_same, acquire_keeps, serve_keeps, stabilise_keeps, depart_keeps, vanish_keeps, join_keeps, hit_adds, marks_keep}
use Rattle.casper_laws.proofs.KeptCalls.{every_run_calls}

-- what holds of a refusal that changes nothing, and of a turn, holds after a step that a test guards
pub guarded_turn : (P : Turn → Type 0) (test : Bool) (refusal : Answer) (state : State) (turn : State → Turn) → P (record { answer = refusal; state = state })
    → (test ≡ true → P (turn state)) → P (guarded test refusal state turn)
guarded_turn P true refusal state turn stays moves = moves refl
guarded_turn P false refusal state turn stays moves = stays

-- what holds of a failed load that changes nothing, and of a turn
pub unless_turn : (P : Turn → Type 0) (state : State) (failed : Bool) (turn : Turn) → P (record { answer = answer.Disk; state = state }) → P turn
    → P (unless_load_failed state failed turn)
unless_turn P state true turn stays moves = stays
unless_turn P state false turn stays moves = moves

-- a refusal changes nothing
pub refused_keeps : (state : State) (who : ℕ) (refusal : Answer) → is_rolled_back refusal ≡ false → Keeps state who (record { answer = refusal; state = state })
refused_keeps state who refusal never number =
    sym (passed ((who == number) && is_told state who refusal) _ _
    (both_never (who == number) (is_told state who refusal) (both_never (is_some (fallen_at state.shared who)) (is_rolled_back refusal) never)))

acquire_step_keeps : (state : State) (who : ℕ) (wants : List Want) (calls : ℕ) (outside : Outside) → InOrder state → IsClient who → ArePendingCalls state
    → Keeps state who (acquire_step state who wants calls outside)
acquire_step_keeps state who wants calls outside order is pending =
    unless_turn (Keeps state who) state _ _ (refused_keeps state who answer.Disk refl) (acquire_keeps state who order is pending wants calls)

-- who is granted is not told of a fall
pub granted_untold : (given : Answer) → is_granted given ≡ true → is_rolled_back given ≡ false
granted_untold answer.Granted granted = refl
granted_untold other granted = absurd (true≢false (sym granted))

-- none of these calls, whether they are the client's or not
none_either : (same : Bool) (calls : List Call) → calls ≡ [] → cond same calls [] ≡ []
none_either true calls none = none
none_either false calls none = refl

-- after a step of a client each has the calls that the step leaves it, and those of the client that the answer completes
abbrev Gains : ℕ → (Answer → List Call) → State → Turn → Type 0
Gains who completed state turn =
    (number : ℕ)
    → own_list_of turn.state number
    ≡ left_to state number ((who == number) && is_told state who turn.answer) ++ cond (who == number) (completed turn.answer) []

none_gained : (who : ℕ) (completed : Answer → List Call) (state : State) (turn : Turn) → completed turn.answer ≡ [] → Keeps state who turn → Gains who completed state turn
none_gained who completed state turn none keeps number =
    let calls = left_to state number ((who == number) && is_told state who turn.answer) in
    keeps number ∙ sym (append-nil calls) ∙ ap (λ more. calls ++ more) (sym (none_either (who == number) (completed turn.answer) none))

-- a call that is answered: which calls an answer completes, where only the answer to a hit completes its call
module _ (who : ℕ) (act : Op) (page word : ℕ) (given : State → Answer) (seen : State → ℕ) (completed : Answer → List Call)
    (made : (state : State) → completed (given state) ≡ record { op = act; page = page; word = word; value = seen state } ∷ [])
    (untold : (state : State) → is_rolled_back (given state) ≡ false)
    (never : (reply : Reply) → completed (of_reply reply) ≡ []) (failed : completed answer.Disk ≡ []) (is : IsClient who) where
  acquire_gains : (state : State) (want : Want) (outside : Outside) → InOrder state → ArePendingCalls state → Gains who completed state (acquire_step state who (want ∷ []) 1 outside)
  acquire_gains state want outside order pending =
      none_gained who completed state (acquire_step state who (want ∷ []) 1 outside) (acquire_never state want outside) (acquire_step_keeps state who (want ∷ []) 1 outside order is pending)
    where
      acquire_never : (state : State) (want : Want) (outside : Outside) → completed (acquire_step state who (want ∷ []) 1 outside).answer ≡ []
      acquire_never state want outside =
          unless_turn (λ turn. completed turn.answer ≡ []) state _ _ failed (never (acquire state.shared (own_at state who) (want ∷ []) 1).reply)

  hit_gains : (state : State) → InOrder state → (number : ℕ)
      → own_list_of (with_own state (with_call (own_at state who) act page word (seen state))) number
      ≡ own_list_of state number ++ cond (who == number) (completed (given state)) []
  hit_gains state order number =
      hit_adds state who act page word (seen state) order is number
      ∙ ap (λ calls. own_list_of state number ++ cond (who == number) calls []) (sym (made state))

  behind_gains : (state : State) (turn : Turn) → InOrder turn.state → Keeps state who turn → Gains who completed state turn → is_granted turn.answer ≡ true → (can : Bool)
      → Gains who completed state (unwrap_or (hit_turn turn.state (given turn.state) (cond can (Some (with_call (own_at turn.state who) act page word (seen turn.state))) None)) turn)
  behind_gains state turn order keeps gains granted true number =
      hit_gains turn.state order number
      ∙ ap (λ calls. calls ++ cond (who == number) (completed (given turn.state)) [])
      (keeps number ∙ sym (refused_keeps state who turn.answer (granted_untold turn.answer granted) number) ∙ refused_keeps state who (given turn.state) (untold turn.state) number)
  behind_gains state turn order keeps gains granted false number = gains number

  granted_gains : (state : State) (turn : Turn) → InOrder turn.state → Keeps state who turn → Gains who completed state turn → (granted : Bool) → is_granted turn.answer ≡ granted
      → Gains who completed state (hit_behind (hit_by who act page word (right_for act) given seen) turn granted)
  granted_gains state turn order keeps gains true e =
      behind_gains state turn order keeps gains e (can_hit (own_at turn.state who) page (right_for act))
  granted_gains state turn order keeps gains false e = gains

  call_by_gains : (state : State) (want : Want) (outside : Outside) → InOrder state → ArePendingCalls state → InOrder (acquire_step state who (want ∷ []) 1 outside).state
      → (can : Bool)
      → Gains who completed state (call_by state who want outside (hit_by who act page word (right_for act) given seen)
      (hit_turn state (given state) (cond can (Some (with_call (own_at state who) act page word (seen state))) None)))
  call_by_gains state want outside order pending acquired true number =
      hit_gains state order number
      ∙ ap (λ calls. calls ++ cond (who == number) (completed (given state)) []) (refused_keeps state who (given state) (untold state) number)
  call_by_gains state want outside order pending acquired false number =
      let turn = acquire_step state who (want ∷ []) 1 outside in
      granted_gains state turn acquired (acquire_step_keeps state who (want ∷ []) 1 outside order is pending) (acquire_gains state want outside order pending)
      (is_granted turn.answer) refl number

  pub call_gains : (state : State) (want : Want) (outside : Outside) → InOrder state → ArePendingCalls state → is_live state.shared who ≡ true
      → Gains who completed state (call_step state who want outside (hit_by who act page word (right_for act) given seen))
  call_gains state want outside order pending live =
      call_by_gains state want outside order pending (ordered_acquire state who (want ∷ []) 1 outside order is live) (can_hit (own_at state who) page (right_for act))

read_never : (page word : ℕ) (given : Reply) → read_completed page word (of_reply given) ≡ []
read_never page word reply.Granted = refl
read_never page word (reply.Pending blockers) = refl
read_never page word (reply.Frozen lead) = refl
read_never page word reply.InDoubt = refl
read_never page word (reply.RolledBack mark recorded unrecorded) = refl
read_never page word (reply.TrailFull entries) = refl
read_never page word (reply.Load at marks) = refl

write_never : (page word value : ℕ) (given : Reply) → write_completed page word value (of_reply given) ≡ []
write_never page word value reply.Granted = refl
write_never page word value (reply.Pending blockers) = refl
write_never page word value (reply.Frozen lead) = refl
write_never page word value reply.InDoubt = refl
write_never page word value (reply.RolledBack mark recorded unrecorded) = refl
write_never page word value (reply.TrailFull entries) = refl
write_never page word value (reply.Load at marks) = refl

with_none : (before after : List Call) → after ≡ before → after ≡ before ++ []
with_none before after same = same ∙ sym (append-nil before)

-- a write-out changes no own list
write_out_keeps : (state : State) (outside : Outside) (one : Option Stabilisation) → SameLists state (write_out_step state outside one).state
write_out_keeps state outside None number = refl
write_out_keeps state outside (Some one) number = by_busy (busy_lead state)
  where
    by_busy : (busy : Option ℕ) → own_list_of (written_out state outside one busy).state number ≡ own_list_of state number
    by_busy None = refl
    by_busy (Some other) = refl

finish_step_keeps : (state : State) (lead : ℕ) (unfinished : Option Unfinished) → SameLists state (finish_step state lead unfinished).state
finish_step_keeps state lead None number = refl
finish_step_keeps state lead (Some unfinished) number =
    guarded_turn (λ turn. SameLists state turn.state) (unfinished.lead == lead) answer.NoJob state (finish_turn lead unfinished.outcome) (λ number. refl)
    (λ is. marks_keep state (finish state.shared lead unfinished.outcome).shared (marks_finish state.shared lead unfinished.outcome)) number

settle_step_keeps : (state : State) (outside : Outside) (one : Option Stabilisation) → SameLists state (settle_step state outside one).state
settle_step_keeps state outside None number = refl
settle_step_keeps state outside (Some one) number =
    guarded_turn (λ turn. SameLists state turn.state) (not (is_settle_failed outside)) answer.Disk state settle_turn (λ number. refl)
    (λ is. marks_keep state (settled state.shared).shared (marks_settled state.shared)) number

-- a step of a live client
pub live_turn : (P : Turn → Type 0) (who : ℕ) (state : State) (turn : State → Turn) → P (record { answer = answer.Absent; state = state })
    → (is_live state.shared who ≡ true → P (turn state)) → P (of_live who state turn)
live_turn P who state turn = guarded_turn P (is_live state.shared who) answer.Absent state turn

pub within_turn : (P : Turn → Type 0) (test : State → Bool) (state : State) (turn : State → Turn) → P (record { answer = answer.Range; state = state }) → P (turn state)
    → P (within test turn state)
within_turn P test state turn stays moves = guarded_turn P (test state) answer.Range state turn stays (λ inside. moves)

pub step_completes : EachStepAddsCompletedCalls
step_completes state (event.Join who) outside is order pending number =
    with_none _ _ (join_keeps state who order is number)
step_completes state (event.Read who page word) outside is order pending number =
    let Adds : Turn → Type 0 = AddsCompletedCalls state (event.Read who page word) in
    let turn = read_turn who page word outside in
    live_turn Adds who state (within (is_in_range page word) turn)
    (none_gained who (read_completed page word) state (record { answer = answer.Absent; state = state }) refl (refused_keeps state who answer.Absent refl))
    (λ live.
    within_turn Adds (is_in_range page word) state turn
    (none_gained who (read_completed page word) state (record { answer = answer.Range; state = state }) refl (refused_keeps state who answer.Range refl))
    (call_gains who op.Read page word (λ after. answer.Value (value_seen after who page word)) (λ after. value_seen after who page word) (read_completed page word)
    (λ after. refl) (λ after. refl) (read_never page word) refl is state (record { page = page; right = may.Read }) outside order pending live)) number
step_completes state (event.Write who page word value) outside is order pending number =
    let Adds : Turn → Type 0 = AddsCompletedCalls state (event.Write who page word value) in
    let turn = write_turn who page word value outside in
    live_turn Adds who state (within (is_in_range page word) turn)
    (none_gained who (write_completed page word value) state (record { answer = answer.Absent; state = state }) refl (refused_keeps state who answer.Absent refl))
    (λ live.
    within_turn Adds (is_in_range page word) state turn
    (none_gained who (write_completed page word value) state (record { answer = answer.Range; state = state }) refl (refused_keeps state who answer.Range refl))
    (call_gains who op.Write page word (λ after. answer.Ok) (λ after. value) (write_completed page word value)
    (λ after. refl) (λ after. refl) (write_never page word value) refl is state (record { page = page; right = may.Write }) outside order pending live)) number
step_completes state (event.Acquire who wants) outside is order pending number =
    with_none _ _
    (live_turn (Keeps state who) who state (within (are_in_range wants) (acquire_turn who wants outside)) (refused_keeps state who answer.Absent refl)
    (λ live.
    within_turn (Keeps state who) (are_in_range wants) state (acquire_turn who wants outside) (refused_keeps state who answer.Range refl)
    (acquire_step_keeps state who wants 1 outside order is pending)) number)
step_completes state (event.Hold who wants) outside is order pending number =
    with_none _ _
    (live_turn (Keeps state who) who state (within (are_in_range wants) (hold_turn who wants outside)) (refused_keeps state who answer.Absent refl)
    (λ live.
    within_turn (Keeps state who) (are_in_range wants) state (hold_turn who wants outside) (refused_keeps state who answer.Range refl)
    (acquire_step_keeps state who wants heap_line_calls outside order is pending)) number)
step_completes state (event.Serve who) outside is order pending number =
    with_none _ _ (live_turn (Keeps state who) who state (serve_turn who) (refused_keeps state who answer.Absent refl) (λ live. serve_keeps state who order is pending) number)
step_completes state (event.Stabilise who) outside is order pending number =
    with_none _ _ (live_turn (Keeps state who) who state (stabilise_turn who) (refused_keeps state who answer.Absent refl) (λ live. stabilise_keeps state who order is pending) number)
step_completes state (event.WriteOut lead) outside is order pending number =
    with_none _ _ (write_out_keeps state outside (job_of state lead) number)
step_completes state (event.Finish lead) outside is order pending number =
    with_none _ _ (finish_step_keeps state lead state.unfinished number)
step_completes state event.Settle outside is order pending number =
    with_none _ _ (settle_step_keeps state outside (doubtful_of state.shared) number)
step_completes state (event.Depart who) outside is order pending number =
    with_none _ _ (live_turn (Keeps state who) who state (depart_turn who) (refused_keeps state who answer.Absent refl) (λ live. depart_keeps state who order is pending) number)
step_completes state (event.Vanish who) outside is order pending number = with_none _ _ (by_live (is_live state.shared who))
  where
    by_live : (live : Bool) → own_list_of (guarded live answer.Absent state (vanish_turn who)).state number ≡ left_to state number ((who == number) && live)
    by_live true = vanish_keeps state who order is number
    by_live false = sym (passed ((who == number) && false) _ _ (both_never (who == number) false refl))
step_completes state (event.Lose who) outside is order pending number =
    with_none _ _
    (live_turn (λ turn. SameLists state turn.state) who state (lose_turn who) (λ other. refl)
    (λ live. marks_keep state (lose state.shared who).shared (marks_lose state.shared who)) number)

pub every_run_completes : EveryRunAddsCompletedCalls
every_run_completes vault pages limit capacity happenings named event outside names =
    step_completes (state_after (start vault pages limit capacity) happenings) event outside names
    (every_run_rights vault pages limit capacity happenings named) (every_run_calls vault pages limit capacity happenings named)

-- who is answered that it left was not told of a fall, and has nothing pending
departed_records : (state : State) (who : ℕ) → InOrder state → IsClient who → ArePendingCalls state → (fallen : Option Fallen) → of_depart (departed_by state.shared (own_at state who) fallen).reply ≡ answer.Left
    → calls_of (departed_by state.shared (own_at state who) fallen).shared.trail who ≡ own_list_of state who
departed_records state who order is pending (Some fallen) left = absurd (true≢false (ap is_rolled_back left))
departed_records state who order is pending None left =
    let after = departed_by state.shared (own_at state who) None in
    sym (append-nil (calls_of after.shared.trail who)) ∙ recorded_same state who after.shared after.own order pending (depart_records state.shared (own_at state who))

pub departure_records : EachDepartureRecordsAll
departure_records state who outside is order pending =
    live_turn (RecordsAllAsItLeaves state who) who state (depart_turn who) (λ left. absurd (cc))
    (λ live left. departed_records state who order is pending (fallen_at state.shared (own_at state who).who) left)

pub every_departure_records : EveryDepartureRecordsAll
every_departure_records vault pages limit capacity happenings named who outside is =
    departure_records (state_after (start vault pages limit capacity) happenings) who outside is
    (every_run_rights vault pages limit capacity happenings named) (every_run_calls vault pages limit capacity happenings named)
