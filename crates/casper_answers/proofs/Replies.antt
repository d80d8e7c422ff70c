use Rattle.std.proofs.Common.{◌≡◌, ◌==◌, ℕ, List, Bool, true, false, refl, sym, ap, ◌∙◌, subst, true≢false}
use Rattle.std.specs.Prelude.{Option, None, Some}
use Rattle.std.proofs.lemmas.Bool.{cond_both}
use Rattle.casper_model.specs.declared.outcome.Kept.{Kept}
use Rattle.casper_model.specs.declared.outcome.Kept.TheVariants as kept
use Rattle.casper_model.specs.declared.outcome.Outcome.{Outcome}
use Rattle.casper_model.specs.declared.outcome.Outcome.TheVariants as outcome
use Rattle.casper_model.specs.declared.outcome.Finished.{Finished}
use Rattle.casper_model.specs.declared.outcome.Finished.TheVariants as finished
use Rattle.casper_model.specs.declared.reply.JoinRefusal.{JoinRefusal}
use Rattle.casper_model.specs.declared.reply.JoinRefusal.TheVariants as refusal
use Rattle.casper_model.specs.declared.reply.StabReply.{StabReply}
use Rattle.casper_model.specs.declared.reply.StabReply.TheVariants as stab
use Rattle.casper_model.specs.Answers.{of_reply}
use Rattle.casper_model.specs.Both.{Both, Turned}
use Rattle.casper_model.specs.Client.{Client, Fallen}
use Rattle.casper_model.specs.Finish.{failed, finished_as, finished_by, stabilisation_led_by}
use Rattle.casper_model.specs.Frozen.{stabilisation_of}
use Rattle.casper_model.specs.Join.{joined_by}
use Rattle.casper_model.specs.Opening.{opened}
use Rattle.casper_model.specs.Own.{Own}
use Rattle.casper_model.specs.Room.{free_room}
use Rattle.casper_model.specs.Run.{state_after}
use Rattle.casper_model.specs.Shared.{Shared, client_at, fallen_at}
use Rattle.casper_model.specs.Stabilisation.{Stabilisation, Phase, Gathering, Sealed, Doubtful, is_empty}
use Rattle.casper_model.specs.Stabilise.{kept_at, reply_in_phase, reply_awaiting, stabilised_in, stabilised, stabilised_by}
use Rattle.casper_model.specs.State.{own_at, start}
use Rattle.casper_laws.specs.AnswerLaws.{is_over}
use Rattle.casper_laws.specs.Additions.{is_without_turn}
use Rattle.casper_laws.proofs.AnswerLawsKept.{every_kept_over}
use Rattle.casper_answers.specs.Replies.{NoJoinLacksMemory, NoAcquireLoads, EachFinishFailsAsItsWriteOut, EachToldFailureIsReal}
use Rattle.casper_answers.proofs.StepWalk.{acquire_is_turn}

-- What no turn replies.

abbrev lacks_memory : Option JoinRefusal → Bool
lacks_memory (Some refusal.Memory) = true
lacks_memory other = false

joins_have_memory : (shared : Shared) (own : Own) (place : Option Client) → lacks_memory (joined_by shared own place).reply ≡ false
joins_have_memory shared own (Some client) = refl
joins_have_memory shared own None =
    cond_both (free_room shared == 0) _ _ (λ (turn : Turned (Option JoinRefusal)). lacks_memory turn.reply ≡ false) (λ full. refl) (λ free. refl)

pub no_join_lacks_memory : NoJoinLacksMemory
no_join_lacks_memory shared own is = true≢false (sym (ap lacks_memory is) ∙ joins_have_memory shared own (client_at shared own.who))

pub no_acquire_loads : NoAcquireLoads
no_acquire_loads shared own wants calls page marks is =
    true≢false (sym (ap (λ one. is_without_turn (of_reply one)) is) ∙ acquire_is_turn shared own wants calls (fallen_at shared own.who))

-- the cause that a finish tells, and another where it tells none
abbrev cause_in : Outcome → Option Finished → Outcome
cause_in other (Some (finished.Failed cause)) = cause
cause_in other none = other

abbrev has_failed : Option Finished → Bool
has_failed (Some (finished.Failed cause)) = true
has_failed other = false

-- what has to be so of the reply of a finish
abbrev FailsWell : Outcome → Option Finished → Type 0
FailsWell how told = has_failed told ≡ true → (cause_in how told ≡ how) × (is_over (kept.Failed (cause_in how told)) ≡ true)

failed_well : (shared : Shared) (one : Stabilisation) (cause : Outcome) (noted : Option ℕ) → is_over (kept.Failed cause) ≡ true
    → FailsWell cause (Some (failed shared one cause noted).reply)
failed_well shared one cause None over fails = (refl, over)
failed_well shared one cause (Some lost) over fails = absurd (true≢false (sym fails))

finished_well : (shared : Shared) (one : Stabilisation) (how : Outcome) → FailsWell how (Some (finished_as shared one how).reply)
finished_well shared one (outcome.Ok version) fails = absurd (true≢false (sym fails))
finished_well shared one (outcome.Full need free) fails = failed_well shared one (outcome.Full need free) one.noted refl fails
finished_well shared one outcome.Worn fails = failed_well shared one outcome.Worn one.noted refl fails
finished_well shared one outcome.Disk fails = failed_well shared one outcome.Disk one.noted refl fails
finished_well shared one outcome.Doubt fails = absurd (true≢false (sym fails))

finish_well : (shared : Shared) (how : Outcome) (one : Option Stabilisation) → FailsWell how (finished_by shared how one).reply
finish_well shared how None fails = absurd (true≢false (sym fails))
finish_well shared how (Some one) fails = finished_well shared one how fails

pub finish_fails_well : EachFinishFailsAsItsWriteOut
finish_fails_well shared lead how cause is =
    let well = finish_well shared how (stabilisation_led_by shared lead) (ap has_failed is) in
    let same : cause_in how (finished_by shared how (stabilisation_led_by shared lead)).reply ≡ cause = ap (cause_in how) is in
    (sym same ∙ well.0, subst (λ one. is_over (kept.Failed one) ≡ true) same well.1)

-- whether a stabilise tells a failure
abbrev tells_failure : StabReply → Bool
tells_failure (stab.Failed cause) = true
tells_failure other = false

abbrev failure_in : Outcome → StabReply → Outcome
failure_in other (stab.Failed cause) = cause
failure_in other none = other

phase_tells_none : (one : Stabilisation) (phase : Phase) → tells_failure (reply_in_phase one phase) ≡ false
phase_tells_none one Gathering = refl
phase_tells_none one Sealed = refl
phase_tells_none one Doubtful = refl

awaiting_tells_none : (awaited : List ℕ) (pages : ℕ) → tells_failure (reply_awaiting awaited pages) ≡ false
awaiting_tells_none awaited pages = cond_both (is_empty awaited) _ _ (λ (told : StabReply). tells_failure told ≡ false) (λ none. refl) (λ some. refl)

in_tells_none : (both : Both) (one : Option Stabilisation) → tells_failure (stabilised_in both one).reply ≡ false
in_tells_none both None = awaiting_tells_none _ _
in_tells_none both (Some one) = phase_tells_none one one.phase

kept_tells_over : (shared : Shared) (both : Both) (cause : Outcome) (held : Option Kept) → ((told : Kept) → held ≡ Some told → is_over told ≡ true)
    → (stabilised both held).reply ≡ stab.Failed cause → is_over (kept.Failed cause) ≡ true
kept_tells_over shared both cause None over is =
    absurd (true≢false (sym (ap tells_failure is) ∙ in_tells_none both (stabilisation_of both.shared both.own.who)))
kept_tells_over shared both cause (Some (kept.Committed mark)) over is = absurd (true≢false (sym (ap tells_failure is)))
kept_tells_over shared both cause (Some (kept.Failed told)) over is =
    subst (λ one. is_over (kept.Failed one) ≡ true) (ap (failure_in told) is) (over (kept.Failed told) refl)

told_over : (shared : Shared) (own : Own) (cause : Outcome) (fallen : Option Fallen) → ((told : Kept) → kept_at shared own.who ≡ Some told → is_over told ≡ true)
    → (stabilised_by shared own fallen).reply ≡ stab.Failed cause → is_over (kept.Failed cause) ≡ true
told_over shared own cause (Some fallen) over is = absurd (true≢false (sym (ap tells_failure is)))
told_over shared own cause None over is = kept_tells_over shared (opened shared own) cause (kept_at shared own.who) over is

pub every_failure_real : EachToldFailureIsReal
every_failure_real vault pages limit capacity happenings none named who cause client is =
    let state = state_after (start vault pages limit capacity) happenings in
    let own = own_at state who in
    told_over state.shared own cause (fallen_at state.shared own.who)
    (λ told held. every_kept_over vault pages limit capacity happenings named own.who told held) is
