use Rattle.std.proofs.Common.{◌≡◌, ◌≢◌, ℕ, true, false, ◌==◌, refl, sym, ap, ◌∙◌, subst, true≢false, arith, ◌<◌, length}
use Rattle.std.specs.Prelude.{Some}
use Rattle.std.proofs.lemmas.Bool.{eqb-true}
use Rattle.casper_words.specs.Crew.{IsClient}
use Rattle.casper_model.specs.declared.event.Event.{Event}
use Rattle.casper_model.specs.Outside.{Outside}
use Rattle.casper_model.specs.Own.{Own}
use Rattle.casper_model.specs.Hits.{with_call}
use Rattle.casper_model.specs.Rights.{NamesClients}
use Rattle.casper_model.specs.Shared.{Shared, is_live}
use Rattle.casper_model.specs.Stabilisation.{Stabilisation, Phase, Gathering, Sealed, Doubtful, is_gathering, is_sealed}
use Rattle.casper_model.specs.State.{State, Unfinished, own_at, with_own, with_shared}
use Rattle.casper_model.specs.Step.{step}
use Rattle.casper_model.proofs.StateHistory.{other_own}
use Rattle.casper_turns.specs.Frozen.{IsSealedBy}
use Rattle.casper_turns.specs.GoodRuns.{UnfinishedIsSealed, IsGoodMoment}
use Rattle.casper_turns.specs.Kept.{KeptByTurn, KeptForAll, IsHeld}
use Rattle.casper_turns.proofs.Finishes.{finish_kept, settled_kept}
use Rattle.casper_turns.proofs.FrozenChanges.{one_of_lead}
use Rattle.casper_turns.proofs.GoodRuns.{each_step_is_good}
use Rattle.casper_turns.proofs.KeptByTurns.{KeptByTurns, step_keeps}
use Rattle.casper_turns.proofs.Losses.{lose_kept, vanish_kept}
use Rattle.casper_turns.proofs.Stages.{join_kept}
use Rattle.casper_turns.proofs.Turns.{acquire_kept, serve_kept, stabilise_kept, depart_kept}
use Rattle.casper_sessions.specs.Chain.{Limits}

-- Every step of the machine leaves the pages of the store, and how many pages a client may hold.

-- a state has the limits of its store: a place that no client has tells how many pages one may hold
pub record HasLimits (limits : Limits) (state : State) : Type 0 where
  pub pages : state.shared.pages ≡ limits.pages
  pub held : (own_at state 0).capacity ≡ limits.held

-- nobody has the number 0
no_client : (number : ℕ) → IsClient number → 0 ≢ number
no_client number is zero = absurd (omega (arith, is.0, zero))

module _ (limits : Limits) (state : State) (moment : IsGoodMoment state) (has : HasLimits limits state) where
  -- after a turn of a client
  behind : (who : ℕ) (after : Shared) (own_after : Own) → IsClient who → KeptByTurn state.shared (own_at state who) after own_after
      → HasLimits limits (with_own (with_shared state after) own_after)
  behind who after own_after is kept =
      let named : own_after.who ≡ who = kept.who ∙ moment.good.numbers who in
      let below : own_after.who < length state.owns = let places : length state.owns ≡ 33 = moment.good.owns in let most = is.1 in omega (arith, named, places, most) in
      record {
        pages = (kept.others 0 (λ zero. no_client who is (zero ∙ moment.good.numbers who))).pages ∙ has.pages;
        held = ap (λ (own : Own). own.capacity) (other_own state own_after after below 0 (λ zero. no_client who is (zero ∙ named))) ∙ has.held;
      }

  -- after what is no turn of one
  changed : (after : Shared) → KeptForAll state.shared after → HasLimits limits (with_shared state after)
  changed after kept = record { pages = (kept.apart 0).pages ∙ has.pages; held = has.held }

  live_own : (who : ℕ) → is_live state.shared who ≡ true → is_live state.shared (own_at state who).who ≡ true
  live_own who live = ap (is_live state.shared) (moment.good.numbers who) ∙ live

-- a sealed association is not gathering
sealed_waits : (phase : Phase) → is_sealed phase ≡ true → is_gathering phase ≡ false
sealed_waits Gathering is = absurd (true≢false (sym is))
sealed_waits Sealed is = refl
sealed_waits Doubtful is = absurd (true≢false (sym is))

-- the association whose write-out is finished
held_by_unfinished : (state : State) (lead : ℕ) (unfinished : Unfinished) → IsGoodMoment state → state.unfinished ≡ Some unfinished → (unfinished.lead == lead) ≡ true
    → IsHeld state.shared lead
held_by_unfinished state lead unfinished moment e same one inside led =
    let seal : IsSealedBy state.shared unfinished.lead = subst (UnfinishedIsSealed state) e moment.unfinished in
    let is : one ≡ seal.0 =
    one_of_lead state.shared one seal.0 moment.good.shared.frozen inside seal.1 (led ∙ sym (eqb-true unfinished.lead lead same) ∙ sym seal.2) in
    ap (λ (x : Stabilisation). is_gathering x.phase) is ∙ sealed_waits seal.0.phase seal.3

limits_by_turns : (limits : Limits) → KeptByTurns IsGoodMoment IsGoodMoment (HasLimits limits)
limits_by_turns limits = record {
  hit = λ state who act page word value is calls moment has can.
      let own : Own = with_call (own_at state who) act page word value in
      let named : own.who ≡ who = moment.good.numbers who in
      let below : own.who < length state.owns = let places : length state.owns ≡ 33 = moment.good.owns in let most = is.1 in omega (arith, named, places, most) in
      record {
        pages = has.pages;
        held = ap (λ (one : Own). one.capacity) (other_own state own state.shared below 0 (λ zero. no_client who is (zero ∙ named))) ∙ has.held;
      };
  joining = λ state who is moment has. behind limits state moment has who _ _ is (join_kept state.shared (own_at state who) moment.good.shared (moment.good.each who is));
  acquiring = λ state who wants calls any is live moment has.
      behind limits state moment has who _ _ is
      (acquire_kept state.shared (own_at state who) moment.good.shared (moment.good.each who is) (live_own limits state moment has who live) wants calls);
  serving = λ state who is live moment has.
      behind limits state moment has who _ _ is (serve_kept state.shared (own_at state who) moment.good.shared (moment.good.each who is) (live_own limits state moment has who live));
  stabilising = λ state who is live moment has.
      behind limits state moment has who _ _ is (stabilise_kept state.shared (own_at state who) moment.good.shared (moment.good.each who is) (live_own limits state moment has who live));
  departing = λ state who is live moment has.
      behind limits state moment has who _ _ is (depart_kept state.shared (own_at state who) moment.good.shared (moment.good.each who is) (live_own limits state moment has who live));
  vanishing = λ state who is live moment has.
      behind limits state moment has who _ _ is (vanish_kept state.shared (own_at state who) moment.good.shared (moment.good.each who is));
  losing = λ state who is live moment has. changed limits state moment has _ (lose_kept state.shared who moment.good.shared is);
  writing = λ state outside lead one moment has job free. record { pages = has.pages; held = has.held };
  finishing = λ state lead unfinished moment has e same.
      let after = changed limits state moment has _ (finish_kept state.shared lead unfinished.outcome moment.good.shared (held_by_unfinished state lead unfinished moment e same)) in
      record { pages = after.pages; held = after.held };
  settling = λ state one moment has e.
      let after = changed limits state moment has _ (settled_kept state.shared moment.good.shared) in record { pages = after.pages; held = after.held };
}

pub limits_stay : (limits : Limits) (state : State) (event : Event) (outside : Outside) → NamesClients event → IsGoodMoment state → HasLimits limits state
    → HasLimits limits (step state event outside).state
limits_stay limits state event outside named moment has =
    step_keeps IsGoodMoment IsGoodMoment (HasLimits limits) (λ one e o n is. each_step_is_good one e o n is) (λ one is. is) (limits_by_turns limits) state event outside named moment has
