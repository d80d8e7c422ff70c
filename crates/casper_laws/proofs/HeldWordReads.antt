use Rattle.std.proofs.Common.{◌≡◌, ℕ, List, [], ◌∷◌, Bool, true, false, ◌==◌, ◌&&◌, refl, sym, ap, ◌∙◌, true≢false}
use Rattle.std.specs.Prelude.{Option, None, Some, is_some, unwrap_or}
use Rattle.std.proofs.lemmas.Bool.{cond-true, and_from, eq-eqb}
use Rattle.casper_words.specs.Crew.{IsClient}
use Rattle.casper_words.specs.declared.call.Op.{Op}
use Rattle.casper_words.specs.declared.call.Op.TheVariants as op
use Rattle.casper_words.specs.declared.page.Right.TheVariants as may
use Rattle.casper_words.specs.declared.page.Want.{Want}
use Rattle.casper_space.specs.declared.answer.Answer.{Answer}
use Rattle.casper_space.specs.declared.answer.Answer.TheVariants as answer
use Rattle.casper_trail.specs.Value.{value_of, value_after}
use Rattle.casper_trail.specs.Calls.{entry_by}
use Rattle.casper_model.specs.declared.event.Event.TheVariants as event
use Rattle.casper_model.specs.Acquire.{acquire}
use Rattle.casper_model.specs.CallStep.{acquire_step, unless_load_failed}
use Rattle.casper_model.specs.Hits.{can_hit, with_call}
use Rattle.casper_model.specs.Outside.{Outside}
use Rattle.casper_model.specs.Own.{Own}
use Rattle.casper_model.specs.Rights.{InOrder}
use Rattle.casper_model.specs.Run.{state_after}
use Rattle.casper_model.specs.Shared.{is_live}
use Rattle.casper_model.specs.State.{State, own_at, with_own, start}
use Rattle.casper_model.specs.Step.{step, read_turn, write_turn}
use Rattle.casper_model.specs.Turn.{Turn, within, is_in_range}
use Rattle.casper_model.specs.View.{view, value_seen}
use Rattle.casper_model.proofs.StateHistory.{in_owns, set_own}
use Rattle.casper_model.proofs.StepRights.{ordered_acquire}
use Rattle.casper_laws.specs.HeldWordSteps.{is_ok, EveryReadIsOfWhatIsSeen, EveryWriteIsSeen}
use Rattle.casper_laws.proofs.HeldWordTurns.{seen_with_call}
use Rattle.casper_laws.proofs.RunFacts.{every_run_history}
use Rattle.casper_model.specs.Answers.{of_reply}
use Rattle.casper_model.specs.declared.reply.Reply.{Reply}
use Rattle.casper_model.specs.declared.reply.Reply.TheVariants as reply
use Rattle.casper_laws.proofs.HeldWordCalls.{guarded_turn, called}

-- the value that an answer gives
abbrev value_given : Answer → Option ℕ
value_given (answer.Value value) = Some value
value_given other = None

abbrev IsOfNoCall : Answer → Type 0
IsOfNoCall given = (value_given given ≡ None) × (is_ok given ≡ false)

-- an acquire answers no call
reply_of_no_call : (given : Reply) → IsOfNoCall (of_reply given)
reply_of_no_call reply.Granted = (refl, refl)
reply_of_no_call (reply.Pending blockers) = (refl, refl)
reply_of_no_call (reply.Frozen lead) = (refl, refl)
reply_of_no_call reply.InDoubt = (refl, refl)
reply_of_no_call (reply.RolledBack mark recorded unrecorded) = (refl, refl)
reply_of_no_call (reply.TrailFull entries) = (refl, refl)
reply_of_no_call (reply.Load page marks) = (refl, refl)

acquire_of_no_call : (state : State) (who : ℕ) (wants : List Want) (calls : ℕ) (outside : Outside) → IsOfNoCall (acquire_step state who wants calls outside).answer
acquire_of_no_call state who wants calls outside = unless _ _ (reply_of_no_call (acquire state.shared (own_at state who) wants calls).reply)
  where
    unless : (failed : Bool) (turn : Turn) → IsOfNoCall turn.answer → IsOfNoCall (unless_load_failed state failed turn).answer
    unless true turn never = (refl, refl)
    unless false turn never = never

-- what a client sees after its hit
seen_by_hit : (state : State) (who : ℕ) (act : Op) (page word value : ℕ) → InOrder state → IsClient who
    → value_seen (with_own state (with_call (own_at state who) act page word value)) who page word
    ≡ value_after page word (value_seen state who page word) (entry_by who (record { op = act; page = page; word = word; value = value }))
seen_by_hit state who act page word value order is =
    let own = own_at state who in
    let next = with_call own act page word value in
    ap (λ (part : Own). value_of state.base (view state.shared part) page word)
    (set_own state next state.shared (in_owns state who next order is refl) who (sym (order.shaped.numbers who)))
    ∙ seen_with_call state.base state.shared own act page word value page word

module _ (state : State) (order : InOrder state) (who page word value : ℕ) (outside : Outside) (is : IsClient who) where
  abbrev ReadsIt : Turn → Type 0
  ReadsIt turn = turn.answer ≡ answer.Value value → value_seen turn.state who page word ≡ value

  no_value : {P : Type 0} (given : Answer) → value_given given ≡ None → given ≡ answer.Value value → P
  no_value given never e = absurd (true≢false (sym (ap is_some (sym never ∙ ap value_given e))))

  read_by_hit : (after : State) → InOrder after → ReadsIt (record {
    answer = answer.Value (value_seen after who page word);
    state = with_own after (with_call (own_at after who) op.Read page word (value_seen after who page word));
  })
  read_by_hit after ordered e =
      seen_by_hit after who op.Read page word (value_seen after who page word) ordered is ∙ ap (λ given. unwrap_or (value_given given) value) e

  reads_it : ReadsIt (step state (event.Read who page word) outside)
  reads_it =
      let turn = read_turn who page word outside in
      let want : Want = record { page = page; right = may.Read } in
      guarded_turn ReadsIt (is_live state.shared who) answer.Absent state (within (is_in_range page word) turn) (no_value answer.Absent refl)
      (λ live.
      guarded_turn ReadsIt (is_in_range page word state) answer.Range state turn (no_value answer.Range refl)
      (λ inside.
      called ReadsIt who op.Read page word (λ after. answer.Value (value_seen after who page word)) (λ after. value_seen after who page word) state want outside
      (λ can. read_by_hit state order)
      (no_value (acquire_step state who (want ∷ []) 1 outside).answer (acquire_of_no_call state who (want ∷ []) 1 outside).0)
      (λ can. read_by_hit (acquire_step state who (want ∷ []) 1 outside).state (ordered_acquire state who (want ∷ []) 1 outside order is live))
      (can_hit (own_at state who) page may.Read) refl))

  abbrev WritesIt : Turn → Type 0
  WritesIt turn = turn.answer ≡ answer.Ok → value_seen turn.state who page word ≡ value

  not_ok : {P : Type 0} (given : Answer) → is_ok given ≡ false → given ≡ answer.Ok → P
  not_ok given never e = absurd (true≢false (sym (ap is_ok e) ∙ never))

  written_by_hit : (after : State) → InOrder after → WritesIt (record { answer = answer.Ok; state = with_own after (with_call (own_at after who) op.Write page word value) })
  written_by_hit after ordered e =
      seen_by_hit after who op.Write page word value ordered is
      ∙ cond-true ((page == page) && (word == word)) value (value_seen after who page word)
      (and_from (page == page) (word == word) (eq-eqb page page refl) (eq-eqb word word refl))

  writes_it : WritesIt (step state (event.Write who page word value) outside)
  writes_it =
      let turn = write_turn who page word value outside in
      let want : Want = record { page = page; right = may.Write } in
      guarded_turn WritesIt (is_live state.shared who) answer.Absent state (within (is_in_range page word) turn) (not_ok answer.Absent refl)
      (λ live.
      guarded_turn WritesIt (is_in_range page word state) answer.Range state turn (not_ok answer.Range refl)
      (λ inside.
      called WritesIt who op.Write page word (λ after. answer.Ok) (λ after. value) state want outside (λ can. written_by_hit state order)
      (not_ok (acquire_step state who (want ∷ []) 1 outside).answer (acquire_of_no_call state who (want ∷ []) 1 outside).1)
      (λ can. written_by_hit (acquire_step state who (want ∷ []) 1 outside).state (ordered_acquire state who (want ∷ []) 1 outside order is live))
      (can_hit (own_at state who) page may.Write) refl))

pub every_read_of_what_is_seen : EveryReadIsOfWhatIsSeen
every_read_of_what_is_seen vault pages limit capacity happenings named who page word value outside is =
    reads_it (state_after (start vault pages limit capacity) happenings) (every_run_history vault pages limit capacity happenings named).order who page word value outside is

pub every_write_is_seen : EveryWriteIsSeen
every_write_is_seen vault pages limit capacity happenings named who page word value outside is =
    writes_it (state_after (start vault pages limit capacity) happenings) (every_run_history vault pages limit capacity happenings named).order who page word value outside is
