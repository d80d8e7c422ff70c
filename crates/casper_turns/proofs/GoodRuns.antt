use Rattle.std.proofs.Common.{◌≡◌, ◌≢◌, ℕ, List, true, false, ◌==◌, ◌&&◌, Bool, cond, Contains, refl, sym, ap, ◌∙◌, subst, true≢false}
use Rattle.std.specs.Prelude.{Option, None, Some, ⊤}
use Rattle.std.proofs.lemmas.Bool.{and_parts, eqb-true}
use Rattle.casper_words.specs.Crew.{IsClient}
use Rattle.casper_trail.specs.Calls.{entries_by}
use Rattle.casper_trail.specs.Legal.{AreRightAfter}
use Rattle.casper_trail.specs.Parts.{live_entries}
use Rattle.casper_model.specs.Client.{Client}
use Rattle.casper_model.specs.Finish.{doubtful_of, settled}
use Rattle.casper_model.specs.LegalHistory.{HasHistory}
use Rattle.casper_model.specs.Own.{Own}
use Rattle.casper_model.specs.Rights.{Agrees}
use Rattle.casper_model.specs.Shared.{Shared, client_at, of_client, fallen_at, is_live}
use Rattle.casper_model.specs.Stabilisation.{Stabilisation, Phase, Gathering, Sealed, Doubtful, is_gathering, is_sealed, is_doubtful}
use Rattle.casper_model.specs.State.{State, Unfinished, own_at, with_own, with_shared, start}
use Rattle.casper_model.specs.Run.{state_after}
use Rattle.casper_model.specs.WriteOutStep.{settle_turn, is_unfinished_of, sealed_of, job_of}
use Rattle.casper_model.proofs.RunHistory.{start_history, run_history}
use Rattle.casper_model.proofs.StateHistory.{good_now}
use Rattle.casper_turns.specs.Frozen.{IsSealedBy}
use Rattle.casper_turns.specs.GoodRuns.{UnfinishedIsSealed, IsGoodMoment, EachStepIsGood, EveryRunIsGood, EveryRunIsRight}
use Rattle.casper_turns.specs.GoodStates.{IsGoodState, IsRightState}
use Rattle.casper_turns.specs.Kept.{KeptByTurn, OtherLeadsStandStill, IsHeld}
use Rattle.casper_turns.specs.CommitsNothing.{StandsStill, CommitsNothing}
use Rattle.casper_model.specs.Hits.{with_call}
use Rattle.casper_model.specs.Loss.{lose}
use Rattle.casper_turns.proofs.Compose.{still_itself}
use Rattle.casper_turns.proofs.Finishes.{finish_kept, settled_kept, settled_others}
use Rattle.casper_turns.proofs.FrozenChanges.{one_of_lead}
use Rattle.casper_turns.proofs.GoodStates.{start_is_good, good_with_each, good_behind_turn, good_behind_change}
use Rattle.casper_turns.proofs.HitTurns.{hit_keeps}
use Rattle.casper_turns.proofs.KeptByTurns.{KeptByTurns, step_keeps, run_keeps}
use Rattle.casper_turns.proofs.Lists.{find_found, not_some}
use Rattle.casper_turns.proofs.Losses.{lose_kept, lose_still, vanish_kept}
use Rattle.casper_turns.proofs.Stages.{join_kept}
use Rattle.casper_turns.proofs.Turns.{acquire_kept, serve_kept, stabilise_kept, depart_kept}

-- a sealed association is not gathering
sealed_waits : (phase : Phase) → is_sealed phase ≡ true → (is_gathering phase ≡ false) × (is_doubtful phase ≡ false)
sealed_waits Gathering is = absurd (true≢false (sym is))
sealed_waits Sealed is = (refl, refl)
sealed_waits Doubtful is = absurd (true≢false (sym is))

-- a sealed association stays so while nothing is committed
sealed_while_still : (shared after : Shared) (lead : ℕ) → CommitsNothing shared after → IsSealedBy shared lead → IsSealedBy after lead
sealed_while_still shared after lead still seal =
    let stands = still.held seal.0 seal.1 (sealed_waits seal.0.phase seal.3).0 in
    (stands.same, stands.there, stands.lead ∙ seal.2, ap is_sealed stands.phase ∙ seal.3)

unfinished_while_still : (state : State) (after : Shared) (owns : List Own) (unfinished : Option Unfinished) → CommitsNothing state.shared after
    → UnfinishedIsSealed state unfinished → UnfinishedIsSealed (record state { shared = after; owns = owns }) unfinished
unfinished_while_still state after owns None still is = tt
unfinished_while_still state after owns (Some unfinished) still seal = sealed_while_still state.shared after unfinished.lead still seal

-- after a turn of a client
moment_behind : (state : State) (who : ℕ) (after : Shared) (own_after : Own) → IsClient who → IsGoodMoment state → KeptByTurn state.shared (own_at state who) after own_after
    → IsGoodMoment (with_own (with_shared state after) own_after)
moment_behind state who after own_after is moment kept = record {
  good = good_behind_turn state who after own_after is moment.good kept;
  unfinished = unfinished_while_still state after (with_own (with_shared state after) own_after).owns state.unfinished kept.still moment.unfinished;
}

live_own : (state : State) (who : ℕ) → IsGoodState state → is_live state.shared who ≡ true → is_live state.shared (own_at state who).who ≡ true
live_own state who good live = ap (is_live state.shared) (good.numbers who) ∙ live

-- the association whose write-out is finished
held_by_unfinished : (state : State) (lead : ℕ) (unfinished : Unfinished) → IsGoodMoment state → state.unfinished ≡ Some unfinished → (unfinished.lead == lead) ≡ true
    → IsHeld state.shared lead
held_by_unfinished state lead unfinished moment e same one inside led =
    let seal : IsSealedBy state.shared unfinished.lead = subst (UnfinishedIsSealed state) e moment.unfinished in
    let is : one ≡ seal.0 =
    one_of_lead state.shared one seal.0 moment.good.shared.frozen inside seal.1 (led ∙ sym (eqb-true unfinished.lead lead same) ∙ sym seal.2) in
    ap (λ (x : Stabilisation). is_gathering x.phase) is ∙ (sealed_waits seal.0.phase seal.3).0

-- a job is of a sealed association
job_is_sealed : (state : State) (lead : ℕ) (one : Stabilisation) → job_of state lead ≡ Some one → IsSealedBy state.shared one.lead
job_is_sealed state lead one job = by_test (is_unfinished_of lead state.unfinished) job
  where
    by_test : (test : Bool) → cond test None (sealed_of state.shared lead) ≡ Some one → IsSealedBy state.shared one.lead
    by_test true never = absurd (not_some one never)
    by_test false e =
        let found = find_found (λ (x : Stabilisation). (x.lead == lead) && is_sealed x.phase) state.shared.stabilisations one e in
        (one, found.0, refl, (and_parts (one.lead == lead) (is_sealed one.phase) found.1).1)

-- a settle leaves an association that is sealed
sealed_behind_settle : (state : State) (one : Stabilisation) (unfinished : Option Unfinished) → IsGoodState state → doubtful_of state.shared ≡ Some one
    → UnfinishedIsSealed state unfinished → (again : State) → again.shared ≡ (settled state.shared).shared → UnfinishedIsSealed again unfinished
sealed_behind_settle state one None good e is again same = tt
sealed_behind_settle state one (Some unfinished) good e seal again same =
    subst (λ shared. IsSealedBy shared unfinished.lead) (sym same)
    (stands.same, stands.there, stands.lead ∙ seal.2, ap is_sealed stands.phase ∙ seal.3)
  where
    found : Contains state.shared.stabilisations one × (is_doubtful one.phase ≡ true)
    found = find_found (λ (x : Stabilisation). is_doubtful x.phase) state.shared.stabilisations one e

    waits : (is_gathering seal.0.phase ≡ false) × (is_doubtful seal.0.phase ≡ false)
    waits = sealed_waits seal.0.phase seal.3

    other : seal.0.lead ≢ one.lead
    other led =
        let is : seal.0 ≡ one = one_of_lead state.shared seal.0 one good.shared.frozen seal.1 found.0 led in
        true≢false (sym found.1 ∙ sym (ap (λ (x : Stabilisation). is_doubtful x.phase) is) ∙ waits.1)

    left : OtherLeadsStandStill state.shared one.lead (settled state.shared).shared
    left = settled_others state.shared good.shared one e

    stands : StandsStill state.shared (settled state.shared).shared left.more seal.0
    stands = left.held seal.0 seal.1 waits.0 other

good_by_turns : KeptByTurns (λ state. ⊤) (λ state. ⊤) IsGoodMoment
good_by_turns = record {
  hit = λ state who act page word value is calls known moment can. record {
    good =
        good_with_each state who state.shared (with_call (own_at state who) act page word value) is moment.good refl moment.good.shared
        (hit_keeps state.shared (own_at state who) act page word value can (moment.good.each who is)) (λ number client away. moment.good.each number client);
    unfinished = unfinished_while_still state state.shared (with_own state (with_call (own_at state who) act page word value)).owns state.unfinished (still_itself state.shared) moment.unfinished;
  };
  joining = λ state who is known moment. moment_behind state who _ _ is moment (join_kept state.shared (own_at state who) moment.good.shared (moment.good.each who is));
  acquiring = λ state who wants calls any is live known moment.
      moment_behind state who _ _ is moment
      (acquire_kept state.shared (own_at state who) moment.good.shared (moment.good.each who is) (live_own state who moment.good live) wants calls);
  serving = λ state who is live known moment.
      moment_behind state who _ _ is moment (serve_kept state.shared (own_at state who) moment.good.shared (moment.good.each who is) (live_own state who moment.good live));
  stabilising = λ state who is live known moment.
      moment_behind state who _ _ is moment (stabilise_kept state.shared (own_at state who) moment.good.shared (moment.good.each who is) (live_own state who moment.good live));
  departing = λ state who is live known moment.
      moment_behind state who _ _ is moment (depart_kept state.shared (own_at state who) moment.good.shared (moment.good.each who is) (live_own state who moment.good live));
  vanishing = λ state who is live known moment.
      moment_behind state who _ _ is moment (vanish_kept state.shared (own_at state who) moment.good.shared (moment.good.each who is));
  losing = λ state who is live known moment. record {
    good = good_behind_change state _ moment.good (lose_kept state.shared who moment.good.shared is);
    unfinished = unfinished_while_still state (lose state.shared who).shared state.owns state.unfinished (lose_still state.shared who moment.good.shared is) moment.unfinished;
  };
  writing = λ state outside lead one known moment job free. record {
    good = record { owns = moment.good.owns; numbers = moment.good.numbers; shared = moment.good.shared; each = moment.good.each };
    unfinished = job_is_sealed state lead one job;
  };
  finishing = λ state lead unfinished known moment e same.
      let good = good_behind_change state _ moment.good (finish_kept state.shared lead unfinished.outcome moment.good.shared (held_by_unfinished state lead unfinished moment e same)) in
      record { good = record { owns = good.owns; numbers = good.numbers; shared = good.shared; each = good.each }; unfinished = tt };
  settling = λ state one known moment e.
      let good = good_behind_change state _ moment.good (settled_kept state.shared moment.good.shared) in
      record {
        good = record { owns = good.owns; numbers = good.numbers; shared = good.shared; each = good.each };
        unfinished = sealed_behind_settle state one state.unfinished moment.good e moment.unfinished (settle_turn state).state refl;
      };
}

pub each_step_is_good : EachStepIsGood
each_step_is_good state event outside named moment =
    step_keeps (λ one. ⊤) (λ one. ⊤) IsGoodMoment (λ one e o n is. tt) (λ one is. tt) good_by_turns state event outside named tt moment

pub every_run_is_good : EveryRunIsGood
every_run_is_good vault pages limit capacity happenings named =
    run_keeps (λ one. ⊤) IsGoodMoment (λ one e o n is. tt) (λ one e o n is moment. each_step_is_good one e o n moment) (start vault pages limit capacity) happenings named tt
    (record { good = start_is_good vault pages limit capacity; unfinished = tt })

-- where the history is legal
right_by_history : (state : State) → HasHistory state → IsGoodState state → IsRightState state
right_by_history state has good = record { legal = has.history.legal; reads = λ who is up. by_place who is up (client_at state.shared who) refl }
  where
    by_place : (who : ℕ) → IsClient who → fallen_at state.shared (own_at state who).who ≡ None → (place : Option Client) → client_at state.shared who ≡ place
        → AreRightAfter state.base (live_entries state.shared.trail) (entries_by (own_at state who).who (own_at state who).pending)
    by_place who is up None e =
        let nothing : Agrees None (own_at state who) =
        subst (λ place. Agrees place (own_at state who)) (ap (client_at state.shared) (good.numbers who) ∙ e) (good.each who is).agrees in
        subst (λ calls. AreRightAfter state.base (live_entries state.shared.trail) (entries_by (own_at state who).who calls)) (sym nothing.1) tt
    by_place who is up (Some client) e =
        (good_now state.base state.shared.trail (client_at state.shared who) (own_at state who) client (has.history.good who) e
        (sym (ap (of_client None (λ (one : Client). one.fallen)) e) ∙ sym (ap (fallen_at state.shared) (good.numbers who)) ∙ up)).right

pub every_run_is_right : EveryRunIsRight
every_run_is_right vault pages limit capacity happenings named =
    right_by_history (state_after (start vault pages limit capacity) happenings)
    (run_history (start vault pages limit capacity) happenings named (start_history vault pages limit capacity))
    (every_run_is_good vault pages limit capacity happenings named).good
