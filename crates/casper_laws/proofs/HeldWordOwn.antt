use Rattle.std.proofs.Common.{◌≡◌, ◌≢◌, ℕ, List, [], ◌∷◌, Bool, true, false, not, ◌==◌, refl, sym, ◌∙◌, true≢false}
use Rattle.std.specs.Prelude.{Option, None, Some}
use Rattle.std.proofs.lemmas.Bool.{cond_both, eq-eqb}
use Rattle.casper_words.specs.Crew.{IsClient}
use Rattle.casper_words.specs.declared.call.Op.{Op}
use Rattle.casper_words.specs.declared.call.Op.TheVariants as op
use Rattle.casper_words.specs.declared.page.Right.TheVariants as may
use Rattle.casper_words.specs.declared.page.Want.{Want}
use Rattle.casper_space.specs.declared.answer.Answer.{Answer}
use Rattle.casper_space.specs.declared.answer.Answer.TheVariants as answer
use Rattle.casper_model.specs.declared.event.Event.{Event}
use Rattle.casper_model.specs.declared.event.Event.TheVariants as event
use Rattle.casper_model.specs.declared.reply.JoinRefusal.{JoinRefusal}
use Rattle.casper_model.specs.Acquire.{acquire}
use Rattle.casper_model.specs.Both.{Turned}
use Rattle.casper_model.specs.CallStep.{call_by, acquire_step, unless_load_failed}
use Rattle.casper_model.specs.Client.{Client}
use Rattle.casper_model.specs.Finish.{doubtful_of}
use Rattle.casper_model.specs.Hits.{can_hit, with_call}
use Rattle.casper_model.specs.Join.{join, joined_by}
use Rattle.casper_model.specs.Leave.{serve, depart, vanish}
use Rattle.casper_model.specs.LegalHistory.{right_for}
use Rattle.casper_model.specs.Outside.{Outside, is_settle_failed}
use Rattle.casper_model.specs.Own.{Own}
use Rattle.casper_model.specs.Rights.{InOrder, NamesClients}
use Rattle.casper_model.specs.Room.{free_room}
use Rattle.casper_model.specs.Run.{state_after}
use Rattle.casper_model.specs.Shared.{Shared, client_at, fallen_at, is_live}
use Rattle.casper_model.specs.Stabilisation.{Stabilisation}
use Rattle.casper_model.specs.Stabilise.{stabilise}
use Rattle.casper_model.specs.State.{State, Unfinished, own_at, with_own, after_turn, start}
use Rattle.casper_model.specs.Step.{step, read_turn, write_turn, acquire_turn, hold_turn, heap_line_calls, serve_turn, stabilise_turn, depart_turn, vanish_turn, lose_turn}
use Rattle.casper_model.specs.Turn.{Turn, of_live, within, is_in_range, are_in_range}
use Rattle.casper_model.specs.View.{value_seen}
use Rattle.casper_model.specs.WriteOutStep.{job_of, busy_lead, written_out, write_out_step, finish_turn, finish_step, settle_turn, settle_step}
use Rattle.casper_model.proofs.StepRights.{hit_by, ordered_acquire}
use Rattle.casper_laws.specs.HeldWordSteps.{is_turn_of, OthersLeaveOwnParts, OthersLeaveEachOwnPart}
use Rattle.casper_laws.proofs.HeldWordTurns.{own_apart}
use Rattle.casper_laws.proofs.PendingSteps.{acquire_empties, serve_empties, stabilise_empties, depart_empties}
use Rattle.casper_laws.proofs.RunFacts.{every_run_history}
use Rattle.casper_laws.proofs.HeldWordCalls.{guarded_turn, called}

pub join_who : (shared : Shared) (own : Own) (place : Option Client) → (joined_by shared own place).own.who ≡ own.who
join_who shared own (Some client) = refl
join_who shared own None =
    cond_both (free_room shared == 0) _ _ (λ (turn : Turned (Option JoinRefusal)). turn.own.who ≡ own.who) (λ full. refl) (λ free. refl)

-- the own part of a client that does not act
module _ (state : State) (order : InOrder state) (who : ℕ) where
  abbrev Stays : State → Type 0
  Stays after = own_at after who ≡ own_at state who

  stays_behind : {R : Type 0} (one : ℕ) (turn : Turned R) → who ≢ one → turn.own.who ≡ (own_at state one).who → Stays (after_turn state turn)
  stays_behind one turn apart same = own_apart state turn.own turn.shared who (λ is. apart (is ∙ same ∙ order.shaped.numbers one))

  stays_hit : (after : State) (one : ℕ) (act : Op) (page word value : ℕ) → InOrder after → who ≢ one → Stays after
      → Stays (with_own after (with_call (own_at after one) act page word value))
  stays_hit after one act page word value ordered apart stays =
      own_apart after (with_call (own_at after one) act page word value) after.shared who (λ is. apart (is ∙ ordered.shaped.numbers one)) ∙ stays

  stays_acquire : (one : ℕ) (wants : List Want) (calls : ℕ) (outside : Outside) → who ≢ one → Stays (acquire_step state one wants calls outside).state
  stays_acquire one wants calls outside apart =
      let own = own_at state one in
      unless _ _ (stays_behind one (acquire state.shared own wants calls) apart (acquire_empties wants calls state.shared own (fallen_at state.shared own.who)).who)
    where
      unless : (failed : Bool) (turn : Turn) → Stays turn.state → Stays (unless_load_failed state failed turn).state
      unless true turn moves = refl
      unless false turn moves = moves

  stays_call : (one : ℕ) (act : Op) (page word : ℕ) (answer : State → Answer) (value : State → ℕ) (want : Want) (outside : Outside) → IsClient one
      → is_live state.shared one ≡ true → who ≢ one
      → Stays (call_by state one want outside (hit_by one act page word (right_for act) answer value) (hit_by one act page word (right_for act) answer value state)).state
  stays_call one act page word answer value want outside is live apart =
      called (λ turn. Stays turn.state) one act page word answer value state want outside
      (λ can. stays_hit state one act page word (value state) order apart refl) (stays_acquire one (want ∷ []) 1 outside apart)
      (λ can.
      stays_hit (acquire_step state one (want ∷ []) 1 outside).state one act page word _ (ordered_acquire state one (want ∷ []) 1 outside order is live) apart
      (stays_acquire one (want ∷ []) 1 outside apart))
      (can_hit (own_at state one) page (right_for act)) refl

  live_stays : (one : ℕ) (turn : State → Turn) → (is_live state.shared one ≡ true → Stays (turn state).state) → Stays (of_live one state turn).state
  live_stays one turn = guarded_turn (λ after. Stays after.state) (is_live state.shared one) answer.Absent state turn refl

  within_stays : (test : State → Bool) (turn : State → Turn) → Stays (turn state).state → Stays (within test turn state).state
  within_stays test turn moves = guarded_turn (λ after. Stays after.state) (test state) answer.Range state turn refl (λ is. moves)

  stays_write_out : (outside : Outside) (one : Option Stabilisation) → Stays (write_out_step state outside one).state
  stays_write_out outside None = refl
  stays_write_out outside (Some one) = by_busy (busy_lead state)
    where
      by_busy : (busy : Option ℕ) → Stays (written_out state outside one busy).state
      by_busy (Some other) = refl
      by_busy None = refl

  stays_finish : (lead : ℕ) (unfinished : Option Unfinished) → Stays (finish_step state lead unfinished).state
  stays_finish lead None = refl
  stays_finish lead (Some unfinished) =
      guarded_turn (λ after. Stays after.state) (unfinished.lead == lead) answer.NoJob state (finish_turn lead unfinished.outcome) refl (λ is. refl)

  stays_settle : (outside : Outside) (one : Option Stabilisation) → Stays (settle_step state outside one).state
  stays_settle outside None = refl
  stays_settle outside (Some one) =
      guarded_turn (λ after. Stays after.state) (not (is_settle_failed outside)) answer.Disk state settle_turn refl (λ is. refl)

  away : (one : ℕ) → (one == who) ≡ false → who ≢ one
  away one other same = true≢false (sym (eq-eqb one who (sym same)) ∙ other)

  own_stays : (event : Event) (outside : Outside) → NamesClients event → is_turn_of who event ≡ false → Stays (step state event outside).state
  own_stays (event.Join one) outside is e =
      stays_behind one (join state.shared (own_at state one)) (away one e)
      (join_who state.shared (own_at state one) (client_at state.shared (own_at state one).who))
  own_stays (event.Read one page word) outside is e =
      let turn = read_turn one page word outside in
      live_stays one (within (is_in_range page word) turn)
      (λ live.
      within_stays (is_in_range page word) turn
      (stays_call one op.Read page word (λ after. answer.Value (value_seen after one page word)) (λ after. value_seen after one page word)
      (record { page = page; right = may.Read }) outside is live (away one e)))
  own_stays (event.Write one page word value) outside is e =
      let turn = write_turn one page word value outside in
      live_stays one (within (is_in_range page word) turn)
      (λ live.
      within_stays (is_in_range page word) turn
      (stays_call one op.Write page word (λ after. answer.Ok) (λ after. value) (record { page = page; right = may.Write }) outside is live (away one e)))
  own_stays (event.Acquire one wants) outside is e =
      let turn = acquire_turn one wants outside in
      live_stays one (within (are_in_range wants) turn) (λ live. within_stays (are_in_range wants) turn (stays_acquire one wants 1 outside (away one e)))
  own_stays (event.Hold one wants) outside is e =
      let turn = hold_turn one wants outside in
      live_stays one (within (are_in_range wants) turn) (λ live. within_stays (are_in_range wants) turn (stays_acquire one wants heap_line_calls outside (away one e)))
  own_stays (event.Serve one) outside is e =
      let own = own_at state one in
      live_stays one (serve_turn one)
      (λ live. stays_behind one (serve state.shared own) (away one e) (serve_empties state.shared own (fallen_at state.shared own.who)).who)
  own_stays (event.Stabilise one) outside is e =
      let own = own_at state one in
      live_stays one (stabilise_turn one)
      (λ live. stays_behind one (stabilise state.shared own) (away one e) (stabilise_empties state.shared own (fallen_at state.shared own.who)).who)
  own_stays (event.WriteOut lead) outside is e = stays_write_out outside (job_of state lead)
  own_stays (event.Finish lead) outside is e = stays_finish lead state.unfinished
  own_stays event.Settle outside is e = stays_settle outside (doubtful_of state.shared)
  own_stays (event.Depart one) outside is e =
      let own = own_at state one in
      live_stays one (depart_turn one)
      (λ live. stays_behind one (depart state.shared own) (away one e) (depart_empties state.shared own (fallen_at state.shared own.who)).who)
  own_stays (event.Vanish one) outside is e =
      live_stays one (vanish_turn one) (λ live. stays_behind one (vanish state.shared (own_at state one)) (away one e) refl)
  own_stays (event.Lose one) outside is e = live_stays one (lose_turn one) (λ live. refl)

pub others_leave : (state : State) (event : Event) (outside : Outside) → NamesClients event → InOrder state → OthersLeaveOwnParts state event (step state event outside)
others_leave state event outside is order who e = own_stays state order who event outside is e

pub others_leave_own_parts : OthersLeaveEachOwnPart
others_leave_own_parts vault pages limit capacity happenings named event outside is =
    others_leave (state_after (start vault pages limit capacity) happenings) event outside is (every_run_history vault pages limit capacity happenings named).order
