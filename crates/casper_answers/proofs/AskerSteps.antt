use Rattle.std.proofs.Common.{◌≡◌, ◌⊎◌, ℕ, true, false, not, ◌==◌, filter, Contains, refl, sym, ap, ◌∙◌, subst, inl, inr, ⊎_elim, true≢false}
use Rattle.std.specs.Prelude.{Option, None, Some, is_some, option_map}
use Rattle.std.proofs.lemmas.Bool.{and_from, not-true, eq-eqb, eqb-true}
use Rattle.casper_words.specs.Crew.{has_member}
use Rattle.casper_space.specs.declared.answer.Answer.{Answer}
use Rattle.casper_trail.specs.Association.{association_of}
use Rattle.casper_trail.proofs.Rounds.{association_of_a_member, association_holds_its_client}
use Rattle.casper_model.specs.declared.event.Event.{Event}
use Rattle.casper_model.specs.declared.event.Event.TheVariants as event
use Rattle.casper_model.specs.declared.outcome.Outcome.{Outcome}
use Rattle.casper_model.specs.declared.outcome.Outcome.TheVariants as outcome
use Rattle.casper_model.specs.Acquire.{acquire}
use Rattle.casper_model.specs.Answers.{of_finish}
use Rattle.casper_model.specs.Client.{Client}
use Rattle.casper_model.specs.Finish.{failed, finished_as, finished_by, finish, settled_by, settled, stabilisation_led_by, doubtful_of}
use Rattle.casper_model.specs.Outside.{Outside}
use Rattle.casper_model.specs.Rights.{NamesClients}
use Rattle.casper_model.specs.Shared.{Shared, client_at, of_client}
use Rattle.casper_model.specs.Stabilisation.{Stabilisation, is_doubtful}
use Rattle.casper_model.specs.Stabilise.{kept_at}
use Rattle.casper_model.specs.State.{State, own_at}
use Rattle.casper_model.specs.Step.{step}
use Rattle.casper_model.specs.WriteOutStep.{of_settled}
use Rattle.casper_laws.specs.Additions.{is_without_turn}
use Rattle.casper_laws.specs.OwnLists.{IsStanding}
use Rattle.casper_turns.proofs.ApartLeads.{one_with_member}
use Rattle.casper_turns.proofs.Lists.{find_found, contains_filter}
use Rattle.casper_laws.proofs.StepImage.{IsOrderly}
use Rattle.casper_answers.specs.Acknowledgement.{AskersAreMembers, AskersStand, AskersHaveNothingKept, is_stabilise_of, is_leave_of, may_end, tells_outcome, makes_turn}
use Rattle.casper_answers.proofs.Carried.{step_carries, leaver_waits_not}
use Rattle.casper_answers.proofs.Moves.{Joins, Moves, Begins}
use Rattle.casper_answers.proofs.PlaceMoves.{FellPlace, PlaceMoves}
use Rattle.casper_answers.proofs.StepMoves.{step_moved}
use Rattle.casper_answers.proofs.StepPlaces.{step_places, still_tells, doubtful_once}
use Rattle.casper_answers.proofs.StepWalk.{Acquires, by_read, by_write, by_wants, by_hold, ShownByTurns, on_step}

-- Who waits for an outcome is live and not fallen, and has nothing kept.

-- a stabilisation whose outcome is told is over
abbrev pub ToldIsOver : State → Event → Answer → Shared → Type 0
ToldIsOver state happened given after =
    (one next : Stabilisation) → Contains state.shared.stabilisations one → may_end happened one ≡ true → tells_outcome given ≡ true → Contains after.stabilisations next
    → next.lead ≡ one.lead → ⊥

module _ (state : State) (known : IsOrderly state) where
  abbrev shared : Shared
  shared = state.shared

  filtered_is_over : (one it next : Stabilisation) → Contains (filter (λ (x : Stabilisation). not (x.lead == it.lead)) shared.stabilisations) next
      → one.lead ≡ it.lead → next.lead ≡ one.lead → ⊥
  filtered_is_over one it next there led same =
      true≢false
      (sym (eq-eqb next.lead it.lead (same ∙ led))
      ∙ not-true (next.lead == it.lead) (contains_filter (λ (x : Stabilisation). not (x.lead == it.lead)) shared.stabilisations next there).1)

  finish_is_over : (lead : ℕ) (how : Outcome) → ToldIsOver state (event.Finish lead) (of_finish (finish shared lead how).reply) (finish shared lead how).shared
  finish_is_over lead how one next inside may tells there same = by_found (stabilisation_led_by shared lead) refl tells there
    where
      led : (it : Stabilisation) → stabilisation_led_by shared lead ≡ Some it → one.lead ≡ it.lead
      led it found = eqb-true one.lead lead may ∙ sym (eqb-true it.lead lead (find_found (λ (x : Stabilisation). x.lead == lead) shared.stabilisations it found).1)

      by_noted : (it : Stabilisation) (cause : Outcome) (noted : Option ℕ) → stabilisation_led_by shared lead ≡ Some it
          → tells_outcome (of_finish (Some (failed shared it cause noted).reply)) ≡ true → Contains (failed shared it cause noted).shared.stabilisations next → ⊥
      by_noted it cause None found told inside_after = filtered_is_over one it next inside_after (led it found) same
      by_noted it cause (Some lost) found told inside_after = true≢false (sym told)

      by_end : (it : Stabilisation) (end : Outcome) → stabilisation_led_by shared lead ≡ Some it
          → tells_outcome (of_finish (Some (finished_as shared it end).reply)) ≡ true → Contains (finished_as shared it end).shared.stabilisations next → ⊥
      by_end it (outcome.Ok version) found told inside_after = filtered_is_over one it next inside_after (led it found) same
      by_end it (outcome.Full need free) found told inside_after = by_noted it (outcome.Full need free) it.noted found told inside_after
      by_end it outcome.Worn found told inside_after = by_noted it outcome.Worn it.noted found told inside_after
      by_end it outcome.Disk found told inside_after = by_noted it outcome.Disk it.noted found told inside_after
      by_end it outcome.Doubt found told inside_after = true≢false (sym told)

      by_found : (found : Option Stabilisation) → stabilisation_led_by shared lead ≡ found → tells_outcome (of_finish (finished_by shared how found).reply) ≡ true
          → Contains (finished_by shared how found).shared.stabilisations next → ⊥
      by_found None e told inside_after = true≢false (sym told)
      by_found (Some it) e told inside_after = by_end it how e told inside_after

  settle_is_over : ToldIsOver state event.Settle (of_settled (settled shared).reply) (settled shared).shared
  settle_is_over one next inside may tells there same = by_found (doubtful_of shared) refl tells there
    where
      by_found : (found : Option Stabilisation) → doubtful_of shared ≡ found → tells_outcome (of_settled (settled_by shared found).reply) ≡ true
          → Contains (settled_by shared found).shared.stabilisations next → ⊥
      by_found None e told inside_after = true≢false (sym told)
      by_found (Some it) e told inside_after =
          let found = find_found (λ (x : Stabilisation). is_doubtful x.phase) shared.stabilisations it e in
          filtered_is_over one it next inside_after
          (ap (λ (x : Stabilisation). x.lead) (doubtful_once state known one it inside found.0 may found.1)) same

  acquires_never_end : (who : ℕ) (happened : Event) (given : Answer) (after : Shared) → Acquires who happened → ToldIsOver state happened given after
  acquires_never_end who happened given after (by_read page word) one next inside may tells there same = true≢false (sym may)
  acquires_never_end who happened given after (by_write page word value) one next inside may tells there same = true≢false (sym may)
  acquires_never_end who happened given after (by_wants wanted) one next inside may tells there same = true≢false (sym may)
  acquires_never_end who happened given after (by_hold wanted) one next inside may tells there same = true≢false (sym may)

  over_by_turns : ShownByTurns state (ToldIsOver state)
  over_by_turns = record {
    still = λ happened given is none one next inside may tells there same. still_tells given is tells;
    joining = λ who is one next inside may tells there same. true≢false (sym may);
    acquiring = λ happened who wants calls given is live acquires turns. acquires_never_end who happened given (acquire state.shared (own_at state who) wants calls).shared acquires;
    serving = λ who is live one next inside may tells there same. true≢false (sym may);
    stabilising = λ who is live one next inside may tells there same. true≢false (sym may);
    departing = λ who is live one next inside may tells there same. true≢false (sym may);
    vanishing = λ who is live one next inside may tells there same. true≢false (sym may);
    losing = λ who is live one next inside may tells there same. true≢false (sym may);
    finishing = λ lead unfinished e same. finish_is_over lead unfinished.outcome;
    settling = λ one e. settle_is_over;
  }

  -- who stabilises makes a turn, and does not leave
  stabilise_turns : (happened : Event) (given : Answer) (who : ℕ) → is_stabilise_of who happened ≡ true → is_without_turn given ≡ false → makes_turn state happened given who ≡ true
  stabilise_turns (event.Stabilise one) given who by turn = and_from (one == who) (not (is_without_turn given)) by (ap not turn)
  stabilise_turns other given who by turn = absurd (true≢false (sym by))

  stabilise_is_no_leave : (happened : Event) (who : ℕ) → is_stabilise_of who happened ≡ true → is_leave_of who happened ≡ true → ⊥
  stabilise_is_no_leave (event.Stabilise one) who by leaves = true≢false (sym leaves)
  stabilise_is_no_leave other who by leaves = true≢false (sym by)

  stabilise_is_no_join : (happened : Event) (who : ℕ) → is_stabilise_of who happened ≡ true → happened ≡ event.Join who → ⊥
  stabilise_is_no_join happened who by joins = true≢false (sym (sym (ap (is_stabilise_of who) joins) ∙ by))

  module _ (members : AskersAreMembers state) (stand : AskersStand state) (nothing : AskersHaveNothingKept state) (happened : Event) (outside : Outside) (is : NamesClients happened) where
    abbrev after : Shared
    after = (step state happened outside).state.shared

    abbrev given : Answer
    given = (step state happened outside).answer

    pub told_is_over : ToldIsOver state happened given after
    told_is_over = on_step state (ToldIsOver state) over_by_turns happened outside is

    -- a client that waited, and one that makes its turn to wait
    abbrev Waited : ℕ → Stabilisation → Type 0
    Waited who next =
        ((one : Stabilisation) × Contains state.shared.stabilisations one × (next.lead ≡ one.lead) × (has_member who one.askers ≡ true))
        ⊎ ((is_stabilise_of who happened ≡ true) × (makes_turn state happened given who ≡ true))

    waited : (next : Stabilisation) (who : ℕ) → Contains after.stabilisations next → has_member who next.askers ≡ true → Waited who next
    waited next who there waits =
        ⊎_elim
        (λ (on : (one : Stabilisation) × Contains state.shared.stabilisations one × Moves happened given state.shared after one next).
        ⊎_elim (λ old. inl (on.0, on.1, on.2.lead, old))
        (λ (new : Joins happened given after who next). inr (new.by, stabilise_turns happened given who new.by new.turn)) (on.2.adds who waits))
        (λ (new : Begins happened given after next).
        let by = ap (λ number. is_stabilise_of number happened) (new.askers who waits) ∙ new.by in inr (by, stabilise_turns happened given who by new.turn))
        ((step_moved state known happened outside is).from next there)

    abbrev UpPlace : Option Client → Type 0
    UpPlace place = (client : Client) × (place ≡ Some client) × (client.fallen ≡ None)

    up_mapped : (change : Client → Client) (place : Option Client) → ((client : Client) → (change client).fallen ≡ client.fallen) → UpPlace place
        → UpPlace (option_map change place)
    up_mapped change place keeps up = (change up.0, ap (option_map change) up.1, keeps up.0 ∙ up.2)

    -- what falls with the association does not wait on
    falls_end : (next : Stabilisation) (who : ℕ) → Contains after.stabilisations next → Waited who next → FellPlace state happened given after who → ⊥
    falls_end next who there (inr new) it = true≢false (sym new.1 ∙ it.no_turn)
    falls_end next who there (inl old) it =
        true≢false
        (sym (ap (has_member next.lead) (sym (association_of_a_member shared.trail it.lost who it.member))
        ∙ ap (has_member next.lead) (association_of_a_member shared.trail old.0.lead who (members old.0 who old.1 old.3))
        ∙ ap (λ lead. has_member lead (association_of shared.trail old.0.lead)) old.2
        ∙ association_holds_its_client shared.trail old.0.lead (known.orderly.frozen.leads old.0 old.1))
        ∙ (step_carries state known members happened outside is it.lost it.carried).gone next there)

    pub askers_stand : AskersStand (step state happened outside).state
    askers_stand next who there waits = by_place (step_places state known happened outside is who) (waited next who there waits)
      where
        by_place : PlaceMoves state happened given after who → Waited who next → IsStanding (step state happened outside).state who
        by_place (PlaceMoves.stays it) (inl old) =
            let up = stand old.0 who old.1 old.3 in (up.0, it.still ∙ up.1, up.2)
        by_place (PlaceMoves.stays it) (inr new) = absurd (true≢false (sym new.1 ∙ it.no_turn))
        by_place (PlaceMoves.turns it) waits_before = (it.turned.client, it.turned.live, it.turned.up)
        by_place (PlaceMoves.falls it) waits_before = absurd (falls_end next who there waits_before it)
        by_place (PlaceMoves.ends it) (inl old) =
            let up = up_mapped (λ client. record client { kept = Some it.outcome }) (client_at shared who) (λ client. refl) (stand old.0 who old.1 old.3) in
            (up.0, it.ended ∙ up.1, up.2)
        by_place (PlaceMoves.ends it) (inr new) = absurd (true≢false (sym new.1 ∙ it.no_turn))
        by_place (PlaceMoves.begins it) (inl old) = absurd (true≢false (ap is_some (sym (stand old.0 who old.1 old.3).1) ∙ ap is_some it.absent))
        by_place (PlaceMoves.begins it) (inr new) = absurd (stabilise_is_no_join happened who new.0 it.by)
        by_place (PlaceMoves.leaves it) waits_before =
            absurd (true≢false (sym waits ∙ leaver_waits_not state known happened outside who it.by it.gone next there))

    kept_mapped : (change : Client → Client) (place : Option Client) → ((client : Client) → (change client).kept ≡ client.kept)
        → of_client None (λ client. client.kept) (option_map change place) ≡ of_client None (λ client. client.kept) place
    kept_mapped change None keeps = refl
    kept_mapped change (Some client) keeps = keeps client

    pub askers_have_nothing : AskersHaveNothingKept (step state happened outside).state
    askers_have_nothing next who there waits = by_place (step_places state known happened outside is who) (waited next who there waits)
      where
        by_place : PlaceMoves state happened given after who → Waited who next → kept_at after who ≡ None
        by_place (PlaceMoves.stays it) (inl old) = ap (of_client None (λ client. client.kept)) it.still ∙ nothing old.0 who old.1 old.3
        by_place (PlaceMoves.stays it) (inr new) = absurd (true≢false (sym new.1 ∙ it.no_turn))
        by_place (PlaceMoves.turns it) waits_before = ap (of_client None (λ client. client.kept)) it.turned.live ∙ it.turned.kept
        by_place (PlaceMoves.falls it) waits_before = absurd (falls_end next who there waits_before it)
        by_place (PlaceMoves.ends it) (inl old) =
            let same : it.one ≡ old.0 =
            one_with_member shared.trail shared.stabilisations it.one old.0 who known.orderly.frozen.apart it.inside old.1 (members it.one who it.inside it.asker)
            (members old.0 who old.1 old.3) in
            absurd
            (told_is_over old.0 next old.1 (subst (λ (x : Stabilisation). may_end happened x ≡ true) same it.may)
            it.told there old.2)
        by_place (PlaceMoves.ends it) (inr new) = absurd (true≢false (sym new.1 ∙ it.no_turn))
        by_place (PlaceMoves.begins it) waits_before = ap (of_client None (λ client. client.kept)) it.joined
        by_place (PlaceMoves.leaves it) waits_before = ap (of_client None (λ client. client.kept)) it.left
