use Rattle.std.proofs.Common.{◌≡◌, ℕ, [], ◌++◌, length, not, ◌==◌, refl, sym, ap, ◌∙◌}
use Rattle.std.specs.Prelude.{Option, None, Some, is_some, option_and_then}
use Rattle.std.proofs.lemmas.Bool.{cond_both, eqb-true}
use Rattle.casper_space.specs.declared.answer.Answer.TheVariants as answer
use Rattle.casper_model.specs.declared.outcome.Outcome.{Outcome}
use Rattle.casper_model.specs.declared.outcome.Outcome.TheVariants as outcome
use Rattle.casper_model.specs.declared.reply.Loss.{Loss}
use Rattle.casper_model.specs.Answers.{of_failure, of_finish, of_vanish, of_lose}
use Rattle.casper_model.specs.Both.{Changed}
use Rattle.casper_model.specs.Client.{Fallen}
use Rattle.casper_model.specs.Finish.{failed, finished_as, finished_by, settled_by, stabilisation_led_by, doubtful_of}
use Rattle.casper_model.specs.Frozen.{stabilisation_of}
use Rattle.casper_model.specs.Leave.{vanished_by}
use Rattle.casper_model.specs.Loss.{lose_by, lost_in}
use Rattle.casper_model.specs.Outside.{Outside, is_settle_failed}
use Rattle.casper_model.specs.Own.{Own}
use Rattle.casper_model.specs.Shared.{Shared, fallen_at}
use Rattle.casper_model.specs.Stabilisation.{Stabilisation, is_gathering}
use Rattle.casper_model.specs.State.{State, Unfinished}
use Rattle.casper_model.specs.WriteOutStep.{of_settled, finish_turn, finish_step, settle_turn, settle_step}
use Rattle.casper_laws.specs.Additions.{commit_mark, rollback_mark, mark_of, finish_marks, settle_marks, vanish_marks, lose_marks}
use Rattle.casper_laws.proofs.CompletedCalls.{guarded_turn}
use Rattle.casper_laws.proofs.ExactAdditions.{none_added}
use Rattle.casper_laws.proofs.OwnListSteps.{picked, passed}
use Rattle.casper_turns.proofs.Lists.{find_found}

-- what a loss adds, by vanishing or by being declared lost
lost_adds : (shared : Shared) (who unrecorded : ℕ) (one : Option Stabilisation) → fallen_at shared who ≡ None
    → (lost_in shared who unrecorded one).shared.trail ≡ shared.trail ++ vanish_marks shared who (of_vanish (lost_in shared who unrecorded one).reply)
lost_adds shared who unrecorded one up = by_one one
  where
    rolls_back : shared.trail ++ rollback_mark shared.trail who ≡ shared.trail ++ vanish_marks shared who (answer.VanishLost (length shared.trail) unrecorded)
    rolls_back = ap (λ items. shared.trail ++ items) (sym (passed (is_some (fallen_at shared who)) [] (rollback_mark shared.trail who) (ap is_some up)))

    by_one : (one : Option Stabilisation) → (lost_in shared who unrecorded one).shared.trail ≡ shared.trail ++ vanish_marks shared who (of_vanish (lost_in shared who unrecorded one).reply)
    by_one None = rolls_back
    by_one (Some one) =
        cond_both (is_gathering one.phase) _ _ (λ (done : Changed Loss). done.shared.trail ≡ shared.trail ++ vanish_marks shared who (of_vanish done.reply))
        (λ gathering. rolls_back) (λ sealed. none_added shared.trail)

pub vanished_adds : (shared : Shared) (own : Own) (fallen : Option Fallen) → fallen_at shared own.who ≡ fallen
    → (vanished_by shared own fallen).shared.trail ≡ shared.trail ++ vanish_marks shared own.who (of_vanish (vanished_by shared own fallen).reply)
vanished_adds shared own (Some fallen) e =
    none_added shared.trail
    ∙ ap (λ items. shared.trail ++ items) (sym (picked (is_some (fallen_at shared own.who)) [] (rollback_mark shared.trail own.who) (ap is_some e)))
vanished_adds shared own None e = lost_adds shared own.who _ (stabilisation_of shared own.who) e

declared_adds : (shared : Shared) (who : ℕ) (one : Option Stabilisation)
    → (lost_in shared who 0 one).shared.trail ≡ shared.trail ++ lose_marks shared who (of_lose (lost_in shared who 0 one).reply)
declared_adds shared who None = refl
declared_adds shared who (Some one) =
    cond_both (is_gathering one.phase) _ _ (λ (done : Changed Loss). done.shared.trail ≡ shared.trail ++ lose_marks shared who (of_lose done.reply)) (λ gathering. refl)
    (λ sealed. none_added shared.trail)

pub lose_adds : (shared : Shared) (who : ℕ) (fallen : Option Fallen)
    → (lose_by shared who fallen).shared.trail ≡ shared.trail ++ lose_marks shared who (of_lose (lose_by shared who fallen).reply)
lose_adds shared who (Some fallen) = none_added shared.trail
lose_adds shared who None = declared_adds shared who (stabilisation_of shared who)

-- a finish
module _ (shared : Shared) (lead : ℕ) (one : Stabilisation) (e : stabilisation_led_by shared lead ≡ Some one) where
  same_lead : one.lead ≡ lead
  same_lead = eqb-true one.lead lead (find_found (λ (other : Stabilisation). other.lead == lead) shared.stabilisations one e).1

  failure_adds : (cause : Outcome) → shared.trail ≡ shared.trail ++ finish_marks shared lead (of_failure cause)
  failure_adds (outcome.Ok version) = none_added shared.trail
  failure_adds (outcome.Full need free) = none_added shared.trail
  failure_adds outcome.Worn = none_added shared.trail
  failure_adds outcome.Disk = none_added shared.trail
  failure_adds outcome.Doubt = none_added shared.trail

  failed_adds : (cause : Outcome) (noted : Option ℕ) → one.noted ≡ noted
      → (failed shared one cause noted).shared.trail ≡ shared.trail ++ finish_marks shared lead (of_finish (Some (failed shared one cause noted).reply))
  failed_adds cause None is = failure_adds cause
  failed_adds cause (Some lost) is =
      ap (λ (noted : Option ℕ). shared.trail ++ mark_of (rollback_mark shared.trail) noted)
      (sym (ap (option_and_then (λ (other : Stabilisation). other.noted)) e ∙ is))

  finished_adds : (how : Outcome) → (finished_as shared one how).shared.trail ≡ shared.trail ++ finish_marks shared lead (of_finish (Some (finished_as shared one how).reply))
  finished_adds (outcome.Ok version) = ap (λ number. shared.trail ++ commit_mark shared.trail number) same_lead
  finished_adds (outcome.Full need free) = failed_adds (outcome.Full need free) one.noted refl
  finished_adds outcome.Worn = failed_adds outcome.Worn one.noted refl
  finished_adds outcome.Disk = failed_adds outcome.Disk one.noted refl
  finished_adds outcome.Doubt = none_added shared.trail

finished_by_adds : (shared : Shared) (lead : ℕ) (how : Outcome) (one : Option Stabilisation) → stabilisation_led_by shared lead ≡ one
    → (finished_by shared how one).shared.trail ≡ shared.trail ++ finish_marks shared lead (of_finish (finished_by shared how one).reply)
finished_by_adds shared lead how None e = none_added shared.trail
finished_by_adds shared lead how (Some one) e = finished_adds shared lead one e how

pub finish_step_adds : (state : State) (lead : ℕ) (unfinished : Option Unfinished)
    → (finish_step state lead unfinished).state.shared.trail ≡ state.shared.trail ++ finish_marks state.shared lead (finish_step state lead unfinished).answer
finish_step_adds state lead None = none_added state.shared.trail
finish_step_adds state lead (Some unfinished) =
    guarded_turn (λ turn. turn.state.shared.trail ≡ state.shared.trail ++ finish_marks state.shared lead turn.answer) (unfinished.lead == lead) answer.NoJob state
    (finish_turn lead unfinished.outcome) (none_added state.shared.trail)
    (λ is. finished_by_adds state.shared lead unfinished.outcome (stabilisation_led_by state.shared lead) refl)

-- a settle
settled_by_adds : (shared : Shared) (one : Option Stabilisation) → doubtful_of shared ≡ one
    → (settled_by shared one).shared.trail ≡ shared.trail ++ settle_marks shared (of_settled (settled_by shared one).reply)
settled_by_adds shared None e = none_added shared.trail
settled_by_adds shared (Some one) e =
    ap (λ (lead : Option ℕ). shared.trail ++ mark_of (commit_mark shared.trail) lead) (sym (ap (option_and_then (λ (other : Stabilisation). Some other.lead)) e))

pub settle_step_adds : (state : State) (outside : Outside) (one : Option Stabilisation)
    → (settle_step state outside one).state.shared.trail ≡ state.shared.trail ++ settle_marks state.shared (settle_step state outside one).answer
settle_step_adds state outside None = none_added state.shared.trail
settle_step_adds state outside (Some one) =
    guarded_turn (λ turn. turn.state.shared.trail ≡ state.shared.trail ++ settle_marks state.shared turn.answer) (not (is_settle_failed outside)) answer.Disk state settle_turn
    (none_added state.shared.trail) (λ is. settled_by_adds state.shared (doubtful_of state.shared) refl)
