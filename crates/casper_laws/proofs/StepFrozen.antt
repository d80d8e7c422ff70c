use Rattle.std.proofs.Common.{◌≡◌, ◌<◌, ℕ, true, false, length, Contains, refl, sym, ap, ◌∙◌, subst, arith, true≢false}
use Rattle.std.specs.Prelude.{Some, is_some, ⊤}
use Rattle.casper_words.specs.Crew.{IsClient}
use Rattle.casper_words.specs.declared.call.Op.{Op}
use Rattle.casper_words.specs.declared.call.Op.TheVariants as op
use Rattle.casper_words.specs.declared.page.Right.TheVariants as may
use Rattle.casper_trail.specs.Value.{is_write}
use Rattle.casper_model.specs.Held.{allows}
use Rattle.casper_model.specs.Stabilisation.{Stabilisation, is_gathering}
use Rattle.casper_model.specs.Run.{state_after}
use Rattle.casper_model.specs.Own.{Own}
use Rattle.casper_model.specs.Shared.{Shared, client_at}
use Rattle.casper_model.specs.Acquire.{acquire}
use Rattle.casper_model.specs.State.{State, own_at, with_own, with_shared, start}
use Rattle.casper_model.specs.Rights.{InOrder}
use Rattle.casper_model.specs.LegalHistory.{right_for, IsGoodNow, HasHistory}
use Rattle.casper_model.proofs.OpeningRights.{IsUp}
use Rattle.casper_model.proofs.StateHistory.{good_now, rights_as_held}
use Rattle.casper_model.proofs.RunHistory.{start_history, step_history, run_history}
use Rattle.casper_model.proofs.StepRights.{stands_at}
use Rattle.casper_laws.specs.FrozenLaws.{HasOrderlyStabilisations, StartsWithoutStabilisations, EachStepKeepsStabilisationsInOrder, EveryRunKeepsStabilisationsInOrder, IsSilent, EveryRunKeepsHeldAssociationsSilent}
use Rattle.casper_turns.specs.Good.{MayRecord}
use Rattle.casper_turns.proofs.Lists.{nothing_in}
use Rattle.casper_turns.proofs.KeptByTurns.{KeptByTurns, step_keeps, run_keeps}
use Rattle.casper_turns.proofs.FrozenChanges.{StaysFrozen, stays_itself}
use Rattle.casper_laws.proofs.WriteOutsLeft.{write_outs_left}
use Rattle.casper_laws.proofs.TurnFrozen.{acquire_stays, serve_stays}
use Rattle.casper_laws.proofs.LeaveFrozen.{stabilise_stays, depart_stays, vanish_stays, join_stays}
use Rattle.casper_turns.proofs.LeaveFrozen.{lose_stays}
use Rattle.casper_laws.proofs.FinishFrozen.{finish_order, settle_order, write_out_order}

pub named : (state : State) (who : ℕ) → InOrder state → IsClient who → IsClient (own_at state who).who
named state who order is = subst IsClient (sym (order.shaped.numbers who)) is

pub good_if_up : (state : State) (who : ℕ) → HasHistory state → IsUp state.shared (own_at state who).who → IsGoodNow state.base state.shared.trail (own_at state who)
good_if_up state who sound is =
    good_now state.base state.shared.trail (client_at state.shared who) (own_at state who) is.client (sound.history.good who)
    (subst (λ number. client_at state.shared number ≡ Some is.client) (sound.order.shaped.numbers who) is.live) is.up

-- so it may record its calls
pub recording_if_up : (state : State) (who : ℕ) → HasHistory state → IsUp state.shared (own_at state who).who → MayRecord state.shared.trail (own_at state who)
recording_if_up state who sound is = let good = good_if_up state who sound is in record { held = good.held; writers = good.writers }

-- after a turn that leaves the stabilisations in order
orderly_after : (state : State) (after : Shared) (own : Own) → HasOrderlyStabilisations state → StaysFrozen state.shared after
    → HasOrderlyStabilisations (with_own (with_shared state after) own)
orderly_after state after own orderly stays = record {
  frozen = stays.frozen;
  written = write_outs_left state after (with_own (with_shared state after) own).owns state.unfinished stays orderly.written;
}

pub below_places : (state : State) (who : ℕ) → InOrder state → IsClient who → (own_at state who).who < length state.shared.clients
below_places state who order is =
    subst (λ number. number < length state.shared.clients) (sym (order.shaped.numbers who)) (subst (λ count. who < count) (sym order.shaped.clients) (omega (arith, is.1)))

orderly_by_turns : KeptByTurns (λ state. ⊤) HasHistory HasOrderlyStabilisations
orderly_by_turns = record {
  hit = λ state who act page word value is calls known orderly can.
      record { frozen = orderly.frozen; written = write_outs_left state state.shared _ state.unfinished (stays_itself state.shared orderly.frozen) orderly.written };
  joining = λ state who is sound orderly.
      orderly_after state _ _ orderly (join_stays state.shared (own_at state who) (below_places state who sound.order is) orderly.frozen);
  acquiring = λ state who wants calls any is live sound orderly.
      let own = own_at state who in
      orderly_after state (acquire state.shared own wants calls).shared (acquire state.shared own wants calls).own orderly
      (acquire_stays wants calls state.shared own (named state who sound.order is) (stands_at state who sound.order live) (recording_if_up state who sound)
      sound.exact.clients orderly.frozen);
  serving = λ state who is live sound orderly.
      orderly_after state _ _ orderly
      (serve_stays state.shared (own_at state who) (named state who sound.order is) (stands_at state who sound.order live) (recording_if_up state who sound) orderly.frozen);
  stabilising = λ state who is live sound orderly.
      orderly_after state _ _ orderly
      (stabilise_stays state.shared (own_at state who) (named state who sound.order is) (stands_at state who sound.order live) (recording_if_up state who sound) orderly.frozen);
  departing = λ state who is live sound orderly.
      orderly_after state _ _ orderly
      (depart_stays state.shared (own_at state who) (named state who sound.order is) (stands_at state who sound.order live) (recording_if_up state who sound) orderly.frozen);
  vanishing = λ state who is live sound orderly.
      orderly_after state _ _ orderly
      (vanish_stays state.shared (own_at state who) (named state who sound.order is) (stands_at state who sound.order live) orderly.frozen);
  losing = λ state who is live sound orderly.
      let stays = lose_stays state.shared who is orderly.frozen in
      record { frozen = stays.frozen; written = write_outs_left state _ state.owns state.unfinished stays orderly.written };
  writing = λ state outside lead one sound orderly job free. write_out_order state outside lead one orderly job free;
  finishing = λ state lead unfinished sound orderly e same. finish_order state lead unfinished orderly e same;
  settling = λ state one sound orderly e. settle_order state one orderly e;
}

pub step_orderly : EachStepKeepsStabilisationsInOrder
step_orderly = step_keeps (λ one. ⊤) HasHistory HasOrderlyStabilisations (λ one e o n known. tt) (λ one known. tt) orderly_by_turns

pub start_orderly : StartsWithoutStabilisations
start_orderly vault pages limit capacity none = record {
  frozen = record { leads = λ one inside. absurd (nothing_in one inside); apart = tt; quiet = λ one inside. absurd (nothing_in one inside) };
  written = record { most = λ one other inside. absurd (nothing_in one inside); doubt = ap is_some none };
}

pub every_run_orderly : EveryRunKeepsStabilisationsInOrder
every_run_orderly vault pages limit capacity happenings none named =
    run_keeps HasHistory HasOrderlyStabilisations step_history step_orderly (start vault pages limit capacity) happenings named
    (start_history vault pages limit capacity) (start_orderly vault pages limit capacity none)

-- a member of a held association has no write pending, since it may write no page
silent : (state : State) → HasHistory state → HasOrderlyStabilisations state → (one : Stabilisation) → Contains state.shared.stabilisations one
    → is_gathering one.phase ≡ false → IsSilent state one
silent state known orderly one inside held who client call member live up pending = by_op call.op refl
  where
    good : IsGoodNow state.base state.shared.trail (own_at state who)
    good = good_now state.base state.shared.trail (client_at state.shared who) (own_at state who) client (known.history.good who) live up

    by_op : (act : Op) → call.op ≡ act → is_write act ≡ false
    by_op op.Read e = refl
    by_op op.Touch e = refl
    by_op op.Write e =
        let writes : allows (own_at state who).held call.page may.Write ≡ true = ap (λ act. allows (own_at state who).held call.page (right_for act)) (sym e) ∙ good.held call pending in
        absurd (true≢false
        (sym (orderly.frozen.quiet one inside who call.page member (rights_as_held state who client known.order live up call.page may.Write ∙ writes)).0 ∙ held))

pub every_run_silent : EveryRunKeepsHeldAssociationsSilent
every_run_silent vault pages limit capacity happenings none names =
    silent (state_after (start vault pages limit capacity) happenings) (run_history (start vault pages limit capacity) happenings names (start_history vault pages limit capacity))
    (every_run_orderly vault pages limit capacity happenings none names)
