use Rattle.std.proofs.Common.{◌≡◌, ℕ, List, [], ◌∷◌, true, false, not, ◌&&◌, ◌==◌, map, length, Contains, refl, sym, ap, ◌∙◌, subst, true≢false}
use Rattle.std.specs.Prelude.{Option, None, Some, is_some, unwrap_or, option_and_then}
use Rattle.std.proofs.lemmas.Bool.{cond_both, cond-true, or_left, or_right, not-true, eq-eqb, eqb-true, false_from_ne_true}
use Rattle.casper_words.specs.Crew.{IsClient, has_member}
use Rattle.casper_words.proofs.CrewLemmas.{has_member_filter}
use Rattle.casper_space.specs.declared.answer.Answer.{Answer}
use Rattle.casper_space.specs.declared.answer.Answer.TheVariants as answer
use Rattle.casper_trail.specs.Association.{association_of}
use Rattle.casper_trail.proofs.Rounds.{association_goes_both_ways}
use Rattle.casper_model.specs.declared.event.Event.{Event}
use Rattle.casper_model.specs.declared.event.Event.TheVariants as event
use Rattle.casper_model.specs.declared.outcome.Outcome.{Outcome}
use Rattle.casper_model.specs.declared.outcome.Outcome.TheVariants as outcome
use Rattle.casper_model.specs.declared.reply.Loss.{Loss}
use Rattle.casper_model.specs.declared.reply.Loss.TheVariants as loss
use Rattle.casper_model.specs.Answers.{of_depart, of_finish, of_vanish, of_lose, of_failure}
use Rattle.casper_model.specs.Both.{Both, Changed}
use Rattle.casper_model.specs.Client.{Fallen}
use Rattle.casper_model.specs.Finish.{failed, finished_as, finished_by, finish, stabilisation_led_by}
use Rattle.casper_model.specs.Frozen.{stabilisation_of}
use Rattle.casper_model.specs.Leave.{absent, departed_by, vanish, vanished_by}
use Rattle.casper_model.specs.Loss.{rolled_back, lose, lose_by, lost_in}
use Rattle.casper_model.specs.Opening.{opened}
use Rattle.casper_model.specs.Outside.{Outside}
use Rattle.casper_model.specs.Own.{Own}
use Rattle.casper_model.specs.Rights.{NamesClients}
use Rattle.casper_model.specs.Shared.{Shared, fallen_at}
use Rattle.casper_model.specs.Stabilisation.{Stabilisation, is_gathering, without}
use Rattle.casper_model.specs.State.{State, own_at}
use Rattle.casper_model.specs.Step.{step, depart_turn, vanish_turn}
use Rattle.casper_model.specs.Turn.{Turn}
use Rattle.casper_model.proofs.Additions.{who_opened}
use Rattle.casper_laws.proofs.CompletedCalls.{live_turn}
use Rattle.casper_turns.proofs.Lists.{contains_map, contains_mapped, contains_filter, contains_filtered}
use Rattle.casper_laws.proofs.StepImage.{IsOrderly}
use Rattle.casper_answers.specs.Acknowledgement.{is_leave_of, AskersAreMembers}
use Rattle.casper_answers.specs.Aftermath.{is_gone}
use Rattle.casper_answers.specs.Losses.{carried_out}
use Rattle.casper_answers.proofs.StepPlaces.{still_carries, acquires_carry_nothing, vanished_reply_carries}
use Rattle.casper_answers.proofs.StepWalk.{ShownByTurns, on_step}

-- What a loss that is carried out makes of the stabilisations, and who leaves waits for no outcome.

-- no stabilisation of the association is left, and each other one stays as it is
pub record Carried (state : State) (lost : ℕ) (after : Shared) : Type 0 where
  pub gone : (next : Stabilisation) → Contains after.stabilisations next → has_member next.lead (association_of state.shared.trail lost) ≡ false
  pub left : (one : Stabilisation) → Contains state.shared.stabilisations one → has_member one.lead (association_of state.shared.trail lost) ≡ false → Contains after.stabilisations one

abbrev pub CarriesOut : State → Event → Answer → Shared → Type 0
CarriesOut state happened given after = (lost : ℕ) → carried_out state happened given ≡ Some lost → Carried state lost after

carries_nothing : (state : State) (happened : Event) (given : Answer) (after : Shared) → carried_out state happened given ≡ None → CarriesOut state happened given after
carries_nothing state happened given after none lost some = absurd (true≢false (sym (sym (ap is_some none) ∙ ap is_some some)))

-- no loss is none
no_loss : {T : Type 0} (lost : ℕ) → None ≡ Some lost → T
no_loss lost some = absurd (true≢false (sym (ap is_some some)))

-- a filter that keeps all
without_none : (who : ℕ) (members : List ℕ) → has_member who members ≡ false → without who members ≡ members
without_none who [] out = refl
without_none who (member ∷ members) out =
    cond-true (not (member == who)) (member ∷ without who members) (without who members)
    (ap not (false_from_ne_true (member == who) (λ same. true≢false (sym (or_left (member == who) (has_member who members) same) ∙ out))))
    ∙ ap (λ rest. member ∷ rest)
    (without_none who members
    (false_from_ne_true (has_member who members) (λ found. true≢false (sym (or_right (member == who) (has_member who members) found) ∙ out))))

module _ (state : State) (known : IsOrderly state) (members : AskersAreMembers state) where
  abbrev shared : Shared
  shared = state.shared

  carried_back : (lost : ℕ) → Carried state lost (rolled_back shared lost)
  carried_back lost = record {
    gone = λ next inside.
        not-true (has_member next.lead (association_of shared.trail lost))
        (contains_filter (λ (x : Stabilisation). not (has_member x.lead (association_of shared.trail lost))) shared.stabilisations next inside).1;
    left = λ one inside out.
        contains_filtered (λ (x : Stabilisation). not (has_member x.lead (association_of shared.trail lost))) shared.stabilisations one inside (ap not out);
  }

  rolled : (happened : Event) (given : Answer) (lost : ℕ) → carried_out state happened given ≡ Some lost → CarriesOut state happened given (rolled_back shared lost)
  rolled happened given lost carried other some =
      subst (λ number. Carried state number (rolled_back shared lost)) (ap (λ (x : Option ℕ). unwrap_or x other) (sym carried ∙ some)) (carried_back lost)

  lost_carries : (happened : Event) (who unrecorded : ℕ) (answer_of : Loss → Answer) (found : Option Stabilisation)
      → ((mark : ℕ) → carried_out state happened (answer_of (loss.Lost mark unrecorded)) ≡ Some who)
      → ((lead : ℕ) → carried_out state happened (answer_of (loss.Noted lead unrecorded)) ≡ None)
      → CarriesOut state happened (answer_of (lost_in shared who unrecorded found).reply) (lost_in shared who unrecorded found).shared
  lost_carries happened who unrecorded answer_of None lost noted = rolled happened _ who (lost (length shared.trail))
  lost_carries happened who unrecorded answer_of (Some one) lost noted =
      cond_both {A = Changed Loss} (is_gathering one.phase) _ _ (λ done. CarriesOut state happened (answer_of done.reply) done.shared)
      (λ gathering. rolled happened _ who (lost (length shared.trail))) (λ held. carries_nothing state happened _ _ (noted one.lead))

  lose_carries : (who : ℕ) → CarriesOut state (event.Lose who) (of_lose (lose shared who).reply) (lose shared who).shared
  lose_carries who = by_fallen (fallen_at shared who)
    where
      by_fallen : (fallen : Option Fallen) → CarriesOut state (event.Lose who) (of_lose (lose_by shared who fallen).reply) (lose_by shared who fallen).shared
      by_fallen (Some fallen) = λ lost some. no_loss lost some
      by_fallen None = lost_carries (event.Lose who) who 0 of_lose (stabilisation_of shared who) (λ mark. refl) (λ lead. refl)

  -- who left waited only in its own association
  absent_carries : (happened : Event) (given : Answer) (middle : Shared) (own : Own) → ((lost : ℕ) → carried_out state happened given ≡ Some lost → lost ≡ own.who)
      → IsClient own.who → CarriesOut state happened given middle → CarriesOut state happened given (absent (record { shared = middle; own = own })).shared
  absent_carries happened given middle own is client carries lost some = record {
    gone = λ next inside.
        let was = contains_map change middle.stabilisations next inside in
        ap (λ (x : Stabilisation). has_member x.lead (association_of shared.trail lost)) (sym was.2) ∙ (carries lost some).gone was.0 was.1;
    left = λ one inside out.
        subst (Contains (map change middle.stabilisations))
        (ap (λ list. record one { askers = list }) (without_none own.who one.askers
        (false_from_ne_true (has_member own.who one.askers)
        (λ asker.
        true≢false
        (sym (subst (λ number. has_member one.lead (association_of shared.trail number) ≡ true) (sym (is lost some))
        (association_goes_both_ways shared.trail one.lead own.who (members one own.who inside asker))) ∙ out)))))
        (contains_mapped change middle.stabilisations one ((carries lost some).left one inside out));
  }
    where
      change : Stabilisation → Stabilisation
      change one = record one { askers = without own.who one.askers }

  vanish_carries : (who : ℕ) → IsClient who
      → CarriesOut state (event.Vanish who) (of_vanish (vanish shared (own_at state who)).reply) (vanish shared (own_at state who)).shared
  vanish_carries who is = absent_carries (event.Vanish who) _ _ own only (subst IsClient (sym it) is) (by_fallen (fallen_at shared own.who) refl)
    where
      own : Own
      own = own_at state who

      it : own.who ≡ who
      it = known.history.order.shaped.numbers who

      only : (lost : ℕ) → carried_out state (event.Vanish who) (of_vanish (vanish shared own).reply) ≡ Some lost → lost ≡ own.who
      only lost some = by_answer (of_vanish (vanish shared own).reply) some ∙ sym it
        where
          by_answer : (given : Answer) → carried_out state (event.Vanish who) given ≡ Some lost → lost ≡ who
          by_answer (answer.VanishLost mark unrecorded) found =
              cond_both (is_some (fallen_at shared who)) None (Some who) (λ (x : Option ℕ). x ≡ Some lost → lost ≡ who)
              (λ fallen none. absurd (true≢false (sym (ap is_some none)))) (λ up same. ap (λ (x : Option ℕ). unwrap_or x lost) (sym same)) found
          by_answer other found = absurd (true≢false (sym (ap is_some found)))

      by_fallen : (fallen : Option Fallen) → fallen_at shared own.who ≡ fallen
          → CarriesOut state (event.Vanish who) (of_vanish (vanished_by shared own fallen).reply) (vanished_by shared own fallen).shared
      by_fallen (Some fallen) e =
          carries_nothing state (event.Vanish who) (answer.VanishLost fallen.mark (length own.pending)) shared
          (vanished_reply_carries state known who fallen.mark (length own.pending) (Some fallen) (ap (fallen_at shared) (sym it) ∙ e))
      by_fallen None e =
          lost_carries (event.Vanish who) own.who (length own.pending) of_vanish (stabilisation_of shared own.who)
          (λ mark. vanished_reply_carries state known who mark (length own.pending) None (ap (fallen_at shared) (sym it) ∙ e) ∙ ap Some (sym it)) (λ lead. refl)

  finish_carries : (lead : ℕ) (how : Outcome) → CarriesOut state (event.Finish lead) (of_finish (finish shared lead how).reply) (finish shared lead how).shared
  finish_carries lead how = by_found (stabilisation_led_by shared lead) refl
    where
      by_noted : (one : Stabilisation) (cause : Outcome) (noted : Option ℕ) → stabilisation_led_by shared lead ≡ Some one → one.noted ≡ noted
          → carried_out state (event.Finish lead) (of_failure cause) ≡ None
          → CarriesOut state (event.Finish lead) (of_finish (Some (failed shared one cause noted).reply)) (failed shared one cause noted).shared
      by_noted one cause None found none nothing = λ lost some. no_loss lost (sym nothing ∙ some)
      by_noted one cause (Some lost) found some nothing =
          rolled (event.Finish lead) (answer.Undone (length shared.trail)) lost
          (ap (λ (x : Option Stabilisation). option_and_then (λ (y : Stabilisation). y.noted) x) found ∙ some)

      by_end : (one : Stabilisation) (end : Outcome) → stabilisation_led_by shared lead ≡ Some one
          → CarriesOut state (event.Finish lead) (of_finish (Some (finished_as shared one end).reply)) (finished_as shared one end).shared
      by_end one (outcome.Ok version) found = λ lost some. no_loss lost some
      by_end one (outcome.Full need free) found = by_noted one (outcome.Full need free) one.noted found refl refl
      by_end one outcome.Worn found = by_noted one outcome.Worn one.noted found refl refl
      by_end one outcome.Disk found = by_noted one outcome.Disk one.noted found refl refl
      by_end one outcome.Doubt found = λ lost some. no_loss lost some

      by_found : (one : Option Stabilisation) → stabilisation_led_by shared lead ≡ one
          → CarriesOut state (event.Finish lead) (of_finish (finished_by shared how one).reply) (finished_by shared how one).shared
      by_found None e = λ lost some. no_loss lost some
      by_found (Some one) e = by_end one how e

  carried_by_turns : ShownByTurns state (CarriesOut state)
  carried_by_turns = record {
    still = λ happened given is none. carries_nothing state happened given shared (still_carries state happened given is);
    joining = λ who is lost some. no_loss lost some;
    acquiring = λ happened who wants calls given is live acquires turns. carries_nothing state happened given _ (acquires_carry_nothing state known who happened given acquires);
    serving = λ who is live lost some. no_loss lost some;
    stabilising = λ who is live lost some. no_loss lost some;
    departing = λ who is live lost some. no_loss lost some;
    vanishing = λ who is live. vanish_carries who is;
    losing = λ who is live. lose_carries who;
    finishing = λ lead unfinished e same. finish_carries lead unfinished.outcome;
    settling = λ one e lost some. no_loss lost some;
  }

  pub step_carries : (happened : Event) (outside : Outside) → NamesClients happened
      → CarriesOut state happened (step state happened outside).answer (step state happened outside).state.shared
  step_carries happened outside is = on_step state (CarriesOut state) carried_by_turns happened outside is

-- who left waits for nothing
abbrev pub LeaverWaitsNot : ℕ → Turn → Type 0
LeaverWaitsNot who turn = is_gone turn.answer ≡ true → (next : Stabilisation) → Contains turn.state.shared.stabilisations next → has_member who next.askers ≡ false

absent_waits_not : (both : Both) (next : Stabilisation) → Contains (absent both).shared.stabilisations next → has_member both.own.who next.askers ≡ false
absent_waits_not both next inside =
    let was = contains_map (λ (x : Stabilisation). record x { askers = without both.own.who x.askers }) both.shared.stabilisations next inside in
    ap (λ (x : Stabilisation). has_member both.own.who x.askers) (sym was.2)
    ∙ has_member_filter (λ member. not (member == both.own.who)) both.own.who was.0.askers
    ∙ ap (λ same. not same && has_member both.own.who was.0.askers) (eq-eqb both.own.who both.own.who refl)

pub leaver_waits_not : (state : State) → IsOrderly state → (happened : Event) (outside : Outside) (who : ℕ) → is_leave_of who happened ≡ true
    → LeaverWaitsNot who (step state happened outside)
leaver_waits_not state known (event.Depart one) outside who by =
    subst (λ number. LeaverWaitsNot number (step state (event.Depart one) outside)) (eqb-true one who by)
    (live_turn (LeaverWaitsNot one) one state (depart_turn one) (λ gone. absurd (true≢false (sym gone))) (λ live. by_fallen (fallen_at state.shared own.who)))
  where
    own : Own
    own = own_at state one

    by_fallen : (fallen : Option Fallen)
        → is_gone (of_depart (departed_by state.shared own fallen).reply) ≡ true → (next : Stabilisation)
        → Contains (departed_by state.shared own fallen).shared.stabilisations next → has_member one next.askers ≡ false
    by_fallen (Some fallen) gone next inside = absurd (true≢false (sym gone))
    by_fallen None gone next inside =
        subst (λ number. has_member number next.askers ≡ false) (who_opened state.shared own ∙ known.history.order.shaped.numbers one)
        (absent_waits_not (opened state.shared own) next inside)
leaver_waits_not state known (event.Vanish one) outside who by =
    subst (λ number. LeaverWaitsNot number (step state (event.Vanish one) outside)) (eqb-true one who by)
    (live_turn (LeaverWaitsNot one) one state (vanish_turn one) (λ gone. absurd (true≢false (sym gone)))
    (λ live gone next inside.
    let own = own_at state one in
    subst (λ number. has_member number next.askers ≡ false) (known.history.order.shaped.numbers one)
    (absent_waits_not (record { shared = (vanished_by state.shared own (fallen_at state.shared own.who)).shared; own = own }) next inside)))
leaver_waits_not state known other outside who by = absurd (true≢false (sym by))
