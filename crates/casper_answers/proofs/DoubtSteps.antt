use Rattle.std.proofs.Common.{◌≡◌, ◌⊎◌, ℕ, Bool, true, false, cond, ◌&&◌, ◌==◌, length, Contains, refl, sym, ap, ◌∙◌, subst, inl, inr, ⊎_elim, true≢false}
use Rattle.std.specs.Prelude.{Option, None, Some, is_some, unwrap_or}
use Rattle.std.proofs.lemmas.Bool.{cond_both, and_parts, cases_Bool}
use Rattle.casper_words.specs.Crew.{has_member}
use Rattle.casper_space.specs.declared.answer.Answer.{Answer}
use Rattle.casper_space.specs.declared.answer.Answer.TheVariants as answer
use Rattle.casper_trail.specs.Association.{association_of}
use Rattle.casper_trail.proofs.Rounds.{association_goes_both_ways}
use Rattle.casper_model.specs.declared.event.Event.{Event}
use Rattle.casper_model.specs.declared.event.Event.TheVariants as event
use Rattle.casper_model.specs.declared.reply.Loss.{Loss}
use Rattle.casper_model.specs.declared.reply.Loss.TheVariants as loss
use Rattle.casper_model.specs.Answers.{of_vanish, of_lose}
use Rattle.casper_model.specs.Both.{Changed}
use Rattle.casper_model.specs.Client.{Fallen}
use Rattle.casper_model.specs.Frozen.{is_member, stabilisation_of}
use Rattle.casper_model.specs.Leave.{vanished_by}
use Rattle.casper_model.specs.Loss.{rolled_back, lose_by, lost_in}
use Rattle.casper_model.specs.Outside.{Outside, is_settle_failed}
use Rattle.casper_model.specs.Rights.{NamesClients}
use Rattle.casper_model.specs.Shared.{Shared, fallen_at, change_stabilisation}
use Rattle.casper_model.specs.Stabilisation.{Stabilisation, Phase, is_gathering, is_doubtful, with_noted}
use Rattle.casper_model.specs.State.{State, Unfinished, own_at}
use Rattle.casper_model.specs.Step.{step, vanish_turn, lose_turn}
use Rattle.casper_model.specs.WriteOutStep.{finish_step}
use Rattle.casper_laws.specs.FrozenLaws.{AreWriteOutsInOrder, is_any_doubtful}
use Rattle.casper_turns.proofs.ApartLeads.{one_with_member}
use Rattle.casper_laws.proofs.CompletedCalls.{live_turn}
use Rattle.casper_turns.proofs.Lists.{any_of, none_passes, find_found, find_none}
use Rattle.casper_laws.proofs.StepImage.{IsOrderly}
use Rattle.casper_answers.specs.Acknowledgement.{may_end, tells_outcome}
use Rattle.casper_answers.specs.Lives.{is_settle, StaysInDoubt}
use Rattle.casper_answers.specs.Losses.{carried_out}
use Rattle.casper_answers.proofs.LossTurns.{is_lost}
use Rattle.casper_answers.proofs.Moves.{PhaseMoves, Moves, Ends}
use Rattle.casper_answers.proofs.StepMoves.{step_moved}
use Rattle.casper_answers.proofs.WriteOutTurns.{settles_a_doubt}

-- A doubt stands until a settle answers the commit.

doubtful_is : (phase : Phase) → is_doubtful phase ≡ true → is_gathering phase ≡ false
doubtful_is Phase.Gathering doubt = absurd (true≢false (sym doubt))
doubtful_is Phase.Sealed doubt = refl
doubtful_is Phase.Doubtful doubt = refl

module _ (state : State) (known : IsOrderly state) (one : Stabilisation) (inside : Contains state.shared.stabilisations one) (doubt : is_doubtful one.phase ≡ true) where
  abbrev shared : Shared
  shared = state.shared

  no_loss : {T : Type 0} (lost : ℕ) → None ≡ Some lost → T
  no_loss lost some = absurd (true≢false (sym (ap is_some some)))

  -- no finish comes
  finish_quiet : (lead : ℕ) (outside : Outside) → (step state (event.Finish lead) outside).answer ≡ answer.NoJob
  finish_quiet lead outside = by_unfinished state.unfinished known.orderly.written
    where
      by_unfinished : (unfinished : Option Unfinished) → AreWriteOutsInOrder state unfinished → (finish_step state lead unfinished).answer ≡ answer.NoJob
      by_unfinished None order = refl
      by_unfinished (Some unfinished) order =
          absurd (true≢false (sym doubt ∙ none_passes (λ (x : Stabilisation). is_doubtful x.phase) state.shared.stabilisations one order.alone inside))

  -- the loss of a member is noted
  held_is_noted : (who unrecorded : ℕ) → is_member state.shared who one ≡ true → (found : Option Stabilisation) → stabilisation_of state.shared who ≡ found
      → is_lost (lost_in state.shared who unrecorded found).reply ≡ false
  held_is_noted who unrecorded member None e = absurd (find_none (is_member state.shared who) state.shared.stabilisations e one inside member)
  held_is_noted who unrecorded member (Some other) e = by_phase (is_gathering other.phase) gathers
    where
      gathers : is_gathering other.phase ≡ false
      gathers =
          let found = find_found (is_member state.shared who) state.shared.stabilisations other e in
          ap (λ (x : Stabilisation). is_gathering x.phase)
          (one_with_member state.shared.trail state.shared.stabilisations other one who known.orderly.frozen.apart found.0 inside found.1 member)
          ∙ doubtful_is one.phase doubt

      by_phase : (gathering : Bool) → gathering ≡ false
          → is_lost
          (cond {A = Changed Loss} gathering (record { reply = loss.Lost (length state.shared.trail) unrecorded; shared = rolled_back state.shared who })
          (record { reply = loss.Noted other.lead unrecorded; shared = change_stabilisation other.lead (with_noted who) state.shared })).reply ≡ false
      by_phase true none = absurd (true≢false none)
      by_phase false none = refl

  lose_carries_lost : (who : ℕ) (reply : Loss) → is_lost reply ≡ false → carried_out state (event.Lose who) (of_lose reply) ≡ None
  lose_carries_lost who (loss.Lost mark count) none = absurd (true≢false none)
  lose_carries_lost who (loss.Noted lead count) none = refl
  lose_carries_lost who (loss.Already mark) none = refl

  vanish_carries_lost : (who : ℕ) (reply : Loss) → is_lost reply ≡ false → carried_out state (event.Vanish who) (of_vanish reply) ≡ None
  vanish_carries_lost who (loss.Lost mark count) none = absurd (true≢false none)
  vanish_carries_lost who (loss.Noted lead count) none = refl
  vanish_carries_lost who (loss.Already mark) none = refl

  lost_is : (happened : Event) (who lost : ℕ) → ((given : Answer) → carried_out state happened given ≡ Some lost → lost ≡ who) → has_member one.lead (association_of state.shared.trail lost) ≡ true
      → (given : Answer) → carried_out state happened given ≡ Some lost → is_member state.shared who one ≡ true
  lost_is happened who lost only member given carried =
      subst (λ number. has_member number (association_of state.shared.trail one.lead) ≡ true) (only given carried) (association_goes_both_ways state.shared.trail lost one.lead member)

  never_lost : (who lost : ℕ) (outside : Outside) → has_member one.lead (association_of state.shared.trail lost) ≡ true
      → carried_out state (event.Lose who) (step state (event.Lose who) outside).answer ≡ Some lost → ⊥
  never_lost who lost outside member carried =
      live_turn (λ turn. carried_out state (event.Lose who) turn.answer ≡ Some lost → ⊥) who state (lose_turn who) (λ none. no_loss lost none)
      (λ live. by_fallen (fallen_at state.shared who)) carried
    where
      only : (given : Answer) → carried_out state (event.Lose who) given ≡ Some lost → lost ≡ who
      only (answer.LoseLost mark) some = ap (λ (x : Option ℕ). unwrap_or x lost) (sym some)
      only other none = no_loss lost none

      by_fallen : (fallen : Option Fallen) → carried_out state (event.Lose who) (of_lose (lose_by state.shared who fallen).reply) ≡ Some lost → ⊥
      by_fallen (Some fallen) none = no_loss lost none
      by_fallen None some =
          no_loss lost
          (sym (lose_carries_lost who (lost_in state.shared who 0 (stabilisation_of state.shared who)).reply
          (held_is_noted who 0 (lost_is (event.Lose who) who lost only member (of_lose (lost_in state.shared who 0 (stabilisation_of state.shared who)).reply) some)
          (stabilisation_of state.shared who) refl)) ∙ some)

  never_vanished : (who lost : ℕ) (outside : Outside) → has_member one.lead (association_of state.shared.trail lost) ≡ true
      → carried_out state (event.Vanish who) (step state (event.Vanish who) outside).answer ≡ Some lost → ⊥
  never_vanished who lost outside member carried =
      live_turn (λ turn. carried_out state (event.Vanish who) turn.answer ≡ Some lost → ⊥) who state (vanish_turn who) (λ none. no_loss lost none)
      (λ live. by_fallen (fallen_at state.shared (own_at state who).who) refl) carried
    where
      it : (own_at state who).who ≡ who
      it = known.history.order.shaped.numbers who

      only : (given : Answer) → carried_out state (event.Vanish who) given ≡ Some lost → lost ≡ who
      only (answer.VanishLost mark unrecorded) found =
          cond_both (is_some (fallen_at state.shared who)) None (Some who) (λ (x : Option ℕ). x ≡ Some lost → lost ≡ who) (λ fallen none. no_loss lost none)
          (λ up some. ap (λ (x : Option ℕ). unwrap_or x lost) (sym some)) found
      only other none = no_loss lost none

      by_fallen : (fallen : Option Fallen) → fallen_at state.shared (own_at state who).who ≡ fallen
          → carried_out state (event.Vanish who) (of_vanish (vanished_by state.shared (own_at state who) fallen).reply) ≡ Some lost → ⊥
      by_fallen (Some fallen) e some =
          no_loss lost (sym (ap (λ (x : Option Fallen). cond (is_some x) None (Some who)) (ap (fallen_at state.shared) (sym it) ∙ e)) ∙ some)
      by_fallen None e some =
          let own = own_at state who in
          no_loss lost
          (sym (vanish_carries_lost who (lost_in state.shared own.who (length own.pending) (stabilisation_of state.shared own.who)).reply
          (held_is_noted own.who (length own.pending)
          (subst (λ number. is_member state.shared number one ≡ true) (sym it)
          (lost_is (event.Vanish who) who lost only member (of_vanish (lost_in state.shared own.who (length own.pending) (stabilisation_of state.shared own.who)).reply) some))
          (stabilisation_of state.shared own.who) refl)) ∙ some)

  no_carry : (happened : Event) (outside : Outside) (lost : ℕ) → has_member one.lead (association_of state.shared.trail lost) ≡ true
      → carried_out state happened (step state happened outside).answer ≡ Some lost → ⊥
  no_carry (event.Vanish who) outside lost member carried = never_vanished who lost outside member carried
  no_carry (event.Lose who) outside lost member carried = never_lost who lost outside member carried
  no_carry (event.Finish lead) outside lost member carried = no_loss lost (sym (ap (carried_out state (event.Finish lead)) (finish_quiet lead outside)) ∙ carried)
  no_carry other outside lost member none = no_loss lost none

  ends_by_settle : (happened : Event) (outside : Outside) → (may_end happened one && tells_outcome (step state happened outside).answer) ≡ true
      → (is_settle happened ≡ true) × ((place : ℕ) × ((step state happened outside).answer ≡ answer.Commit place))
  ends_by_settle (event.Finish lead) outside both =
      absurd
      (true≢false
      (sym (and_parts (one.lead == lead) (tells_outcome (step state (event.Finish lead) outside).answer) both).1 ∙ ap tells_outcome (finish_quiet lead outside)))
  ends_by_settle event.Settle outside both = (refl, by_failed (cases_Bool (is_settle_failed outside)))
    where
      any : is_any_doubtful state.shared ≡ true
      any = any_of (λ (x : Stabilisation). is_doubtful x.phase) state.shared.stabilisations one inside doubt

      by_failed : (is_settle_failed outside ≡ true) ⊎ (is_settle_failed outside ≡ false) → (place : ℕ) × ((step state event.Settle outside).answer ≡ answer.Commit place)
      by_failed (inl failed) =
          absurd
          (true≢false
          (sym (and_parts (is_doubtful one.phase) (tells_outcome (step state event.Settle outside).answer) both).1
          ∙ ap tells_outcome ((settles_a_doubt state known outside).1 any failed)))
      by_failed (inr well) = (length state.shared.trail, (settles_a_doubt state known outside).2 any well)
  ends_by_settle other outside both = absurd (true≢false (sym both))

pub stays_in_doubt : (state : State) → IsOrderly state → (happened : Event) (outside : Outside) → NamesClients happened → StaysInDoubt state happened outside (step state happened outside)
stays_in_doubt state known happened outside is one inside doubt =
    ⊎_elim
    (λ (on : (next : Stabilisation) × Contains (step state happened outside).state.shared.stabilisations next
    × Moves happened (step state happened outside).answer state.shared (step state happened outside).state.shared one next).
    inl (on.0, on.1, on.2.lead, by_phase on.0 on.2.phase))
    (λ (end : Ends state happened (step state happened outside).answer (step state happened outside).state.shared one).
    ⊎_elim (λ both. inr (ends_by_settle state known one inside doubt happened outside both))
    (λ (carried : (lost : ℕ) × (carried_out state happened (step state happened outside).answer ≡ Some lost) × (has_member one.lead (association_of state.shared.trail lost) ≡ true)).
    absurd (no_carry state known one inside doubt happened outside carried.0 carried.2 carried.1)) end.cause)
    ((step_moved state known happened outside is).to one inside)
  where
    by_phase : (next : Stabilisation) → PhaseMoves happened (step state happened outside).answer one next → is_doubtful next.phase ≡ true
    by_phase next (PhaseMoves.same phase) = ap is_doubtful phase ∙ doubt
    by_phase next (PhaseMoves.gathered gathering sure) = absurd (true≢false (sym gathering ∙ doubtful_is one.phase doubt))
    by_phase next (PhaseMoves.doubted may given doubtful) = doubtful
