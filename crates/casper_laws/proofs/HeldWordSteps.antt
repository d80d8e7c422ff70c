use Rattle.std.proofs.Common.{◌≡◌, ◌≢◌, ◌⊎◌, ◌<◌, ℕ, List, [], ◌∷◌, Bool, true, false, not, ◌==◌, ◌&&◌, refl, sym, ap, ◌∙◌, subst, inl, inr, true≢false}
use Rattle.std.specs.Prelude.{Option, None, Some, is_some, slice_index_or}
use Rattle.std.proofs.lemmas.Bool.{cond-false, cases_eq, eq-eqb}
use Rattle.casper_words.specs.Crew.{IsClient}
use Rattle.casper_words.specs.declared.call.Op.{Op}
use Rattle.casper_words.specs.declared.call.Op.TheVariants as op
use Rattle.casper_words.specs.declared.page.Right.TheVariants as may
use Rattle.casper_words.specs.declared.page.Want.{Want}
use Rattle.casper_space.specs.declared.answer.Answer.{Answer}
use Rattle.casper_space.specs.declared.answer.Answer.TheVariants as answer
use Rattle.casper_trail.specs.Value.{value_of, writes_word}
use Rattle.casper_trail.specs.Calls.{entry_by}
use Rattle.casper_model.specs.declared.event.Event.{Event}
use Rattle.casper_model.specs.declared.event.Event.TheVariants as event
use Rattle.casper_model.specs.Acquire.{acquired_by}
use Rattle.casper_model.specs.CallStep.{acquire_step, unless_load_failed}
use Rattle.casper_model.specs.Client.{Client}
use Rattle.casper_model.specs.Finish.{doubtful_of}
use Rattle.casper_model.specs.Hits.{can_hit, with_call}
use Rattle.casper_model.specs.Join.{joined_by}
use Rattle.casper_model.specs.Leave.{served_by, departed_by, absent, vanished_by}
use Rattle.casper_model.specs.LegalHistory.{HasHistory}
use Rattle.casper_model.specs.Outside.{Outside, NothingFailed, is_settle_failed}
use Rattle.casper_model.specs.Own.{Own, blank}
use Rattle.casper_model.specs.Rights.{InOrder, NamesClients}
use Rattle.casper_model.specs.Run.{state_after}
use Rattle.casper_model.specs.Shared.{Shared, client_at, fallen_at, is_live}
use Rattle.casper_model.specs.Stabilisation.{Stabilisation}
use Rattle.casper_model.specs.Stabilise.{stabilised_by}
use Rattle.casper_model.specs.State.{State, Unfinished, own_at, with_own, with_shared, after_turn, start}
use Rattle.casper_model.specs.Step.{step, read_turn, write_turn, acquire_turn, hold_turn, heap_line_calls, serve_turn, stabilise_turn, depart_turn, vanish_turn, lose_turn}
use Rattle.casper_model.specs.Turn.{Turn, guarded, of_live, within, is_in_range, are_in_range}
use Rattle.casper_model.specs.View.{view, value_seen}
use Rattle.casper_model.specs.WriteOutStep.{job_of, busy_lead, written_out, write_out_step, finish_turn, finish_step, settle_turn, settle_step}
use Rattle.casper_model.proofs.LeaveRights.{vanished_spares}
use Rattle.casper_model.proofs.MarkSteps.{marks_lose, marks_vanished, marks_finish, marks_settled}
use Rattle.casper_model.proofs.Places.{client_placed, client_unplaced}
use Rattle.casper_model.proofs.StateHistory.{Marks, in_owns, set_own}
use Rattle.casper_model.proofs.StepAdditions.{step_adds}
use Rattle.casper_model.specs.Held.{allows}
use Rattle.casper_trail.specs.Parts.{live_entries}
use Rattle.casper_model.proofs.StepRights.{ordered_acquire}
use Rattle.casper_model.proofs.TurnHistory.{acquire_records, serve_records, stabilise_records, depart_records}
use Rattle.casper_laws.specs.RunFacts.{HoldsPage}
use Rattle.casper_laws.specs.HeldWordSteps.{is_turn_of, is_write_of_word, is_ok, KeepsHeldWords, EveryStepKeepsHeldWords, OthersLeaveEachHeldWord}
use Rattle.casper_laws.proofs.HeldWordTurns.{own_apart, seen_with_call, SeesTheSame, words_apart, words_marked, words_turned}
use Rattle.casper_laws.proofs.RunFacts.{every_run_history}
use Rattle.casper_laws.proofs.StepFrozen.{below_places}
use Rattle.casper_laws.proofs.HeldWordCalls.{guarded_turn, called}
use Rattle.casper_laws.proofs.HeldWordOwn.{join_who, others_leave_own_parts}

-- a client that holds a page as a step begins
module _ (state : State) (has : HasHistory state) (who page word : ℕ) (holds : HoldsPage state who page) where
  abbrev Sees : State → Type 0
  Sees = SeesTheSame state has who page word holds

  -- after a hit that does not write the word for it
  sees_hit : (after : State) (one : ℕ) (act : Op) (at place value : ℕ) → InOrder after → IsClient one
      → (who ≡ one → writes_word page word (entry_by one (record { op = act; page = at; word = place; value = value })) ≡ false) → Sees after
      → Sees (with_own after (with_call (own_at after one) act at place value))
  sees_hit after one act at place value order is elsewhere sees stands = by_number (cases_eq who one)
    where
      own : Own
      own = own_at after one

      next : Own
      next = with_call own act at place value

      named : own.who ≡ one
      named = order.shaped.numbers one

      by_number : (who ≡ one) ⊎ (who ≢ one) → value_seen (with_own after next) who page word ≡ value_seen state who page word
      by_number (inl same) =
          ap (λ (part : Own). value_of after.base (view after.shared part) page word)
          (set_own after next after.shared (in_owns after one next order is refl) who (same ∙ sym named))
          ∙ seen_with_call after.base after.shared own act at place value page word
          ∙ cond-false (writes_word page word (entry_by own.who (record { op = act; page = at; word = place; value = value }))) value
          (value_of after.base (view after.shared own) page word) (elsewhere same)
          ∙ ap (λ number. value_seen after number page word) (sym same) ∙ sees stands
      by_number (inr apart) =
          ap (λ (part : Own). value_of after.base (view after.shared part) page word) (own_apart after next after.shared who (λ same. apart (same ∙ named)))
          ∙ sees stands

  sees_acquire : (one : ℕ) (wants : List Want) (calls : ℕ) (outside : Outside) → IsClient one → is_live state.shared one ≡ true
      → Sees (acquire_step state one wants calls outside).state
  sees_acquire one wants calls outside is live =
      let own = own_at state one in
      unless _ _
      (words_turned state has who page word holds one (acquired_by state.shared own wants calls) is live (λ fallen. refl) (λ fallen. refl)
      (acquire_records wants calls state.shared own) (fallen_at state.shared own.who) refl)
    where
      unless : (failed : Bool) (turn : Turn) → Sees turn.state → Sees (unless_load_failed state failed turn).state
      unless true turn moves = λ stands. refl
      unless false turn moves = moves

  sees_read : (one at place : ℕ) (outside : Outside) → IsClient one → is_live state.shared one ≡ true → Sees (read_turn one at place outside state).state
  sees_read one at place outside is live =
      let want : Want = record { page = at; right = may.Read } in
      called (λ turn. Sees turn.state) one op.Read at place (λ after. answer.Value (value_seen after one at place)) (λ after. value_seen after one at place) state want outside
      (λ can. sees_hit state one op.Read at place _ has.order is (λ same. refl) (λ stands. refl)) (sees_acquire one (want ∷ []) 1 outside is live)
      (λ can.
      sees_hit (acquire_step state one (want ∷ []) 1 outside).state one op.Read at place _ (ordered_acquire state one (want ∷ []) 1 outside has.order is live) is
      (λ same. refl) (sees_acquire one (want ∷ []) 1 outside is live))
      (can_hit (own_at state one) at may.Read) refl

  -- a write may be of the word itself, for the client, unless it is not answered Ok
  abbrev SeesUnless : Event → Turn → Type 0
  SeesUnless event turn = (is_write_of_word who page word event && is_ok turn.answer) ≡ false → Sees turn.state

  written_elsewhere : (one at place : ℕ) → (((one == who) && ((at == page) && (place == word))) && true) ≡ false → who ≡ one → ((at == page) && (place == word)) ≡ false
  written_elsewhere one at place e same =
      sym (ap (λ is. (is && ((at == page) && (place == word))) && true) (eq-eqb one who (sym same)) ∙ and_true ((at == page) && (place == word))) ∙ e
    where
      and_true : (is : Bool) → ((true && is) && true) ≡ is
      and_true true = refl
      and_true false = refl

  sees_write : (one at place value : ℕ) (outside : Outside) → IsClient one → is_live state.shared one ≡ true
      → SeesUnless (event.Write one at place value) (write_turn one at place value outside state)
  sees_write one at place value outside is live =
      let want : Want = record { page = at; right = may.Write } in
      called (SeesUnless (event.Write one at place value)) one op.Write at place (λ after. answer.Ok) (λ after. value) state want outside
      (λ can e. sees_hit state one op.Write at place value has.order is (written_elsewhere one at place e) (λ stands. refl))
      (λ e. sees_acquire one (want ∷ []) 1 outside is live)
      (λ can e.
      sees_hit (acquire_step state one (want ∷ []) 1 outside).state one op.Write at place value (ordered_acquire state one (want ∷ []) 1 outside has.order is live) is
      (written_elsewhere one at place e) (sees_acquire one (want ∷ []) 1 outside is live))
      (can_hit (own_at state one) at may.Write) refl

  sees_join : (one : ℕ) → IsClient one → (place : Option Client) → client_at state.shared (own_at state one).who ≡ place
      → Sees (after_turn state (joined_by state.shared (own_at state one) place))
  sees_join one is (Some client) e =
      words_apart state has who page word holds (with_own (with_shared state state.shared) (own_at state one)) refl (by_number (cases_eq who one)) (λ stands. refl)
    where
      by_number : (who ≡ one) ⊎ (who ≢ one) → own_at (with_own (with_shared state state.shared) (own_at state one)) who ≡ own_at state who
      by_number (inl same) =
          set_own state (own_at state one) state.shared (in_owns state one (own_at state one) has.order is refl) who (same ∙ sym (has.order.shaped.numbers one))
          ∙ ap (own_at state) (sym same)
      by_number (inr apart) = own_apart state (own_at state one) state.shared who (λ same. apart (same ∙ has.order.shaped.numbers one))
  sees_join one is None e =
      words_apart state has who page word holds (after_turn state (joined_by state.shared (own_at state one) None)) refl
      (own_apart state (joined_by state.shared (own_at state one) None).own (joined_by state.shared (own_at state one) None).shared who
      (λ same. apart (same ∙ join_who state.shared (own_at state one) None ∙ has.order.shaped.numbers one)))
      (λ stands.
      ap (λ items. value_of state.base (live_entries items) page word)
      (subst (λ place. (joined_by state.shared (own_at state one) place).shared.trail ≡ state.shared.trail) e (step_adds state (event.Join one) NothingFailed)))
    where
      apart : who ≢ one
      apart same =
          true≢false
          (sym (ap is_some (sym e ∙ ap (client_at state.shared) (has.order.shaped.numbers one ∙ sym same) ∙ holds.0.1)))

  sees_vanish : (one : ℕ) → IsClient one → Sees (vanish_turn one state).state
  sees_vanish one is = by_number (cases_eq who one)
    where
      own : Own
      own = own_at state one

      lost : Shared
      lost = (vanished_by state.shared own (fallen_at state.shared own.who)).shared

      by_number : (who ≡ one) ⊎ (who ≢ one) → Sees (vanish_turn one state).state
      by_number (inl same) = λ stands.
          absurd (true≢false
          (sym (ap is_some stands.1) ∙ ap (λ number. is_some (client_at (absent (record { shared = lost; own = own })).shared number)) (same ∙ sym (has.order.shaped.numbers one))
          ∙ ap is_some
          (client_placed own.who None lost
          (subst (λ places. own.who < places) (sym (vanished_spares state.shared own (fallen_at state.shared own.who)).places) (below_places state one has.order is)))))
      by_number (inr apart) =
          let away : who ≢ own.who = λ same. apart (same ∙ has.order.shaped.numbers one) in
          words_apart state has who page word holds (vanish_turn one state).state refl
          (own_apart state (blank own.who own.capacity) (absent (record { shared = lost; own = own })).shared who away)
          (λ stands.
          words_marked state has who page word holds lost (marks_vanished state.shared own (fallen_at state.shared own.who)) stands.0
          (sym (client_unplaced own.who None lost who away) ∙ stands.1) stands.2)

  -- after what is no turn of a client
  sees_marked : (after : State) → after.base ≡ state.base → after.owns ≡ state.owns → Marks state.shared after.shared → Sees after
  sees_marked after base owns marks =
      words_apart state has who page word holds after base (ap (λ (parts : List Own). slice_index_or parts who (blank who 0)) owns)
      (λ stands. words_marked state has who page word holds after.shared marks stands.0 stands.1 stands.2)

  sees_write_out : (outside : Outside) (one : Option Stabilisation) → Sees (write_out_step state outside one).state
  sees_write_out outside None = λ stands. refl
  sees_write_out outside (Some one) = by_busy (busy_lead state)
    where
      by_busy : (busy : Option ℕ) → Sees (written_out state outside one busy).state
      by_busy (Some other) = λ stands. refl
      by_busy None = λ stands. refl

  sees_guarded : (test : Bool) (refusal : Answer) (turn : State → Turn) → (test ≡ true → Sees (turn state).state) → Sees (guarded test refusal state turn).state
  sees_guarded test refusal turn = guarded_turn (λ after. Sees after.state) test refusal state turn (λ stands. refl)

  sees_finish : (lead : ℕ) (unfinished : Option Unfinished) → Sees (finish_step state lead unfinished).state
  sees_finish lead None = λ stands. refl
  sees_finish lead (Some unfinished) =
      sees_guarded (unfinished.lead == lead) answer.NoJob (finish_turn lead unfinished.outcome)
      (λ is. sees_marked (finish_turn lead unfinished.outcome state).state refl refl (marks_finish state.shared lead unfinished.outcome))

  sees_settle : (outside : Outside) (one : Option Stabilisation) → Sees (settle_step state outside one).state
  sees_settle outside None = λ stands. refl
  sees_settle outside (Some one) =
      sees_guarded (not (is_settle_failed outside)) answer.Disk settle_turn (λ is. sees_marked (settle_turn state).state refl refl (marks_settled state.shared))

  sees_live : (one : ℕ) (turn : State → Turn) → (is_live state.shared one ≡ true → Sees (turn state).state) → Sees (of_live one state turn).state
  sees_live one turn = sees_guarded (is_live state.shared one) answer.Absent turn

  sees_step : (event : Event) (outside : Outside) → NamesClients event → SeesUnless event (step state event outside)
  sees_step (event.Join one) outside is e = sees_join one is (client_at state.shared (own_at state one).who) refl
  sees_step (event.Read one at place) outside is e =
      let turn = read_turn one at place outside in
      sees_live one (within (is_in_range at place) turn)
      (λ live. sees_guarded (is_in_range at place state) answer.Range turn (λ inside. sees_read one at place outside is live))
  sees_step (event.Write one at place value) outside is e =
      let turn = write_turn one at place value outside in
      guarded_turn (SeesUnless (event.Write one at place value)) (is_live state.shared one) answer.Absent state (within (is_in_range at place) turn) (λ e stands. refl)
      (λ live.
      guarded_turn (SeesUnless (event.Write one at place value)) (is_in_range at place state) answer.Range state turn (λ e stands. refl)
      (λ inside. sees_write one at place value outside is live))
      e
  sees_step (event.Acquire one wants) outside is e =
      let turn = acquire_turn one wants outside in
      sees_live one (within (are_in_range wants) turn)
      (λ live. sees_guarded (are_in_range wants state) answer.Range turn (λ inside. sees_acquire one wants 1 outside is live))
  sees_step (event.Hold one wants) outside is e =
      let turn = hold_turn one wants outside in
      sees_live one (within (are_in_range wants) turn)
      (λ live. sees_guarded (are_in_range wants state) answer.Range turn (λ inside. sees_acquire one wants heap_line_calls outside is live))
  sees_step (event.Serve one) outside is e =
      let own = own_at state one in
      sees_live one (serve_turn one)
      (λ live.
      words_turned state has who page word holds one (served_by state.shared own) is live (λ fallen. refl) (λ fallen. refl) (serve_records state.shared own)
      (fallen_at state.shared own.who) refl)
  sees_step (event.Stabilise one) outside is e =
      let own = own_at state one in
      sees_live one (stabilise_turn one)
      (λ live.
      words_turned state has who page word holds one (stabilised_by state.shared own) is live (λ fallen. refl) (λ fallen. refl) (stabilise_records state.shared own)
      (fallen_at state.shared own.who) refl)
  sees_step (event.WriteOut lead) outside is e = sees_write_out outside (job_of state lead)
  sees_step (event.Finish lead) outside is e = sees_finish lead state.unfinished
  sees_step event.Settle outside is e = sees_settle outside (doubtful_of state.shared)
  sees_step (event.Depart one) outside is e =
      let own = own_at state one in
      sees_live one (depart_turn one)
      (λ live.
      words_turned state has who page word holds one (departed_by state.shared own) is live (λ fallen. refl) (λ fallen. refl) (depart_records state.shared own)
      (fallen_at state.shared own.who) refl)
  sees_step (event.Vanish one) outside is e = sees_live one (vanish_turn one) (λ live. sees_vanish one is)
  sees_step (event.Lose one) outside is e =
      sees_live one (lose_turn one) (λ live. sees_marked (lose_turn one state).state refl refl (marks_lose state.shared one))

keeps_held_words : (state : State) (event : Event) (outside : Outside) → NamesClients event → HasHistory state → KeepsHeldWords state event (step state event outside)
keeps_held_words state event outside is has who page word e holds stands = sees_step state has who page word holds event outside is e stands

pub every_step_keeps_held_words : EveryStepKeepsHeldWords
every_step_keeps_held_words vault pages limit capacity happenings named event outside is =
    keeps_held_words (state_after (start vault pages limit capacity) happenings) event outside is (every_run_history vault pages limit capacity happenings named)

-- a write of a client is a turn of it
no_write_of : (who page word : ℕ) (event : Event) → is_turn_of who event ≡ false → is_write_of_word who page word event ≡ false
no_write_of who page word (event.Write one at place value) e = ap (λ is. is && ((at == page) && (place == word))) e
no_write_of who page word (event.Join one) e = refl
no_write_of who page word (event.Read one at place) e = refl
no_write_of who page word (event.Acquire one wants) e = refl
no_write_of who page word (event.Hold one wants) e = refl
no_write_of who page word (event.Serve one) e = refl
no_write_of who page word (event.Stabilise one) e = refl
no_write_of who page word (event.WriteOut lead) e = refl
no_write_of who page word (event.Finish lead) e = refl
no_write_of who page word event.Settle e = refl
no_write_of who page word (event.Depart one) e = refl
no_write_of who page word (event.Vanish one) e = refl
no_write_of who page word (event.Lose one) e = refl

pub others_leave_held_words : OthersLeaveEachHeldWord
others_leave_held_words vault pages limit capacity happenings named event outside is who page word e holds stands = (
  (stands, ap (λ (own : Own). allows own.held page may.Read) (others_leave_own_parts vault pages limit capacity happenings named event outside is who e) ∙ holds.1),
  every_step_keeps_held_words vault pages limit capacity happenings named event outside is who page word
      (ap (λ writes. writes && is_ok (step (state_after (start vault pages limit capacity) happenings) event outside).answer) (no_write_of who page word event e)) holds stands,
)
