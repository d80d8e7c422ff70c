use Rattle.std.proofs.Common.{◌<◌, sym, subst, ◌≡◌, ◌==◌, length, refl, ℕ}
use Rattle.std.specs.Prelude.{⊤, Option, None, Some}
use Rattle.casper_model.specs.declared.event.Event.{Event}
use Rattle.casper_model.specs.Acquire.{acquire}
use Rattle.casper_model.specs.Leave.{serve, depart, vanish, vanished_by}
use Rattle.casper_model.specs.Outside.{Outside}
use Rattle.casper_model.specs.Rights.{NamesClients}
use Rattle.casper_model.specs.Shared.{Shared, fallen_at, client_at}
use Rattle.casper_model.specs.Stabilise.{stabilise}
use Rattle.casper_model.specs.State.{State, own_at, start}
use Rattle.casper_model.specs.Step.{step}
use Rattle.casper_model.proofs.LeaveRights.{vanished_spares}
use Rattle.casper_model.proofs.RunHistory.{start_history, step_history}
use Rattle.casper_model.proofs.StepRights.{stands_at}
use Rattle.casper_turns.specs.Noted.{NotedAreMembers, NotedAreUp}
use Rattle.casper_laws.specs.RunFacts.{EveryRunNotesTheUnfallen}
use Rattle.casper_turns.proofs.Lists.{nothing_in}
use Rattle.casper_laws.proofs.HeldWordFalls.{falls_acquired, falls_served, falls_stabilised, falls_departed, falls_absent, falls_joined}
use Rattle.casper_turns.proofs.KeptByTurns.{KeptByTurns, step_keeps, run_keeps}
use Rattle.casper_laws.proofs.NotedMembers.{notes_acquired, notes_served, notes_stabilised_by, notes_departed}
use Rattle.casper_turns.proofs.NotedMembers.{notes_absent, NotesNoMore, notes_same, notes_by_lead}
use Rattle.casper_laws.proofs.StepFrozen.{below_places, start_orderly, step_orderly}
use Rattle.casper_laws.proofs.StepImage.{IsOrderly}
use Rattle.casper_laws.proofs.MarkSteps.{step_noted}
use Rattle.casper_turns.proofs.NotedUp.{up_still, lose_up, lost_up, committed_up, ended_up, rolled_back_up}
use Rattle.std.proofs.lemmas.Bool.{cond_both}
use Rattle.casper_model.specs.declared.reply.JoinRefusal.{JoinRefusal}
use Rattle.casper_model.specs.Both.{Turned}
use Rattle.casper_model.specs.Client.{Client, Fallen}
use Rattle.casper_model.specs.Frozen.{stabilisation_of}
use Rattle.casper_model.specs.Join.{join, joined_by}
use Rattle.casper_model.specs.Own.{Own}
use Rattle.casper_model.specs.Room.{free_room}
use Rattle.casper_turns.specs.Frozen.{AreFrozen}
use Rattle.casper_model.specs.declared.outcome.Outcome.{Outcome}
use Rattle.casper_model.specs.Finish.{finish, finished_by, finished_as, failed, settled, settled_by, stabilisation_led_by, doubtful_of}
use Rattle.casper_model.specs.Stabilisation.{Stabilisation, Doubtful}
use Rattle.casper_model.specs.declared.outcome.Kept.TheVariants as kept
use Rattle.casper_model.specs.declared.outcome.Outcome.TheVariants as outcome

pub vanished_up : (shared : Shared) (own : Own) → AreFrozen shared → NotedAreMembers shared → NotedAreUp shared
    → NotedAreUp (vanished_by shared own (fallen_at shared own.who)).shared
vanished_up shared own frozen members up = by_fallen (fallen_at shared own.who) refl
  where
    by_fallen : (fallen : Option Fallen) → fallen_at shared own.who ≡ fallen → NotedAreUp (vanished_by shared own fallen).shared
    by_fallen (Some fallen) e = up
    by_fallen None e = lost_up shared own.who _ (stabilisation_of shared own.who) frozen members e up

pub join_up : (shared : Shared) (own : Own) → own.who < length shared.clients → NotedAreUp shared → NotedAreUp (join shared own).shared
join_up shared own below = up_still shared (join shared own).shared (by_place (client_at shared own.who)) (falls_joined shared own (client_at shared own.who) below)
  where
    by_place : (place : Option Client) → NotesNoMore shared (joined_by shared own place).shared
    by_place (Some client) = notes_same shared shared refl
    by_place None =
        cond_both (free_room shared == 0) _ _ (λ (turn : Turned (Option JoinRefusal)). NotesNoMore shared turn.shared) (λ full. notes_same shared shared refl)
        (λ free one lost inside noted. (one, inside, refl, noted))

pub failed_up : (shared : Shared) (one : Stabilisation) (cause : Outcome) (noted : Option ℕ) → AreFrozen shared → NotedAreMembers shared → NotedAreUp shared
    → NotedAreUp (failed shared one cause noted).shared
failed_up shared one cause None frozen members up = ended_up shared one (kept.Failed cause) up
failed_up shared one cause (Some lost) frozen members up = rolled_back_up shared lost frozen members up

pub finished_up : (shared : Shared) (one : Stabilisation) (how : Outcome) → AreFrozen shared → NotedAreMembers shared → NotedAreUp shared
    → NotedAreUp (finished_as shared one how).shared
finished_up shared one (outcome.Ok version) frozen members up = committed_up shared one up
finished_up shared one (outcome.Full need free) frozen members up = failed_up shared one (outcome.Full need free) one.noted frozen members up
finished_up shared one outcome.Worn frozen members up = failed_up shared one outcome.Worn one.noted frozen members up
finished_up shared one outcome.Disk frozen members up = failed_up shared one outcome.Disk one.noted frozen members up
finished_up shared one outcome.Doubt frozen members up =
    up_still shared (finished_as shared one outcome.Doubt).shared
    (notes_by_lead shared one.lead (λ other. record other { phase = Doubtful }) (λ x. refl) (λ x. refl)) (λ who fallen is. is) up

pub finish_up : (shared : Shared) (lead : ℕ) (how : Outcome) → AreFrozen shared → NotedAreMembers shared → NotedAreUp shared → NotedAreUp (finish shared lead how).shared
finish_up shared lead how frozen members up = by_found (stabilisation_led_by shared lead)
  where
    by_found : (one : Option Stabilisation) → NotedAreUp (finished_by shared how one).shared
    by_found None = up
    by_found (Some one) = finished_up shared one how frozen members up

pub settled_up : (shared : Shared) → NotedAreUp shared → NotedAreUp (settled shared).shared
settled_up shared up = by_found (doubtful_of shared)
  where
    by_found : (one : Option Stabilisation) → NotedAreUp (settled_by shared one).shared
    by_found None = up
    by_found (Some one) = committed_up shared one up

-- what is known of a state beside its notes
record IsNotedWell (state : State) : Type 0 where
  known : IsOrderly state
  members : NotedAreMembers state.shared

up_by_turns : KeptByTurns (λ state. ⊤) IsNotedWell (λ state. NotedAreUp state.shared)
up_by_turns = record {
  hit = λ state who act page word value is calls well up can. up;
  joining = λ state who is well up. join_up state.shared (own_at state who) (below_places state who well.known.history.order is) up;
  acquiring = λ state who wants calls any is live well up.
      let own = own_at state who in
      up_still state.shared (acquire state.shared own wants calls).shared (notes_acquired wants calls state.shared own (fallen_at state.shared own.who))
      (falls_acquired wants calls state.shared own (stands_at state who well.known.history.order live)) up;
  serving = λ state who is live well up.
      let own = own_at state who in
      up_still state.shared (serve state.shared own).shared (notes_served state.shared own (fallen_at state.shared own.who))
      (falls_served state.shared own (stands_at state who well.known.history.order live)) up;
  stabilising = λ state who is live well up.
      let own = own_at state who in
      up_still state.shared (stabilise state.shared own).shared (notes_stabilised_by state.shared own (fallen_at state.shared own.who))
      (falls_stabilised state.shared own (stands_at state who well.known.history.order live)) up;
  departing = λ state who is live well up.
      let own = own_at state who in
      up_still state.shared (depart state.shared own).shared (notes_departed state.shared own (fallen_at state.shared own.who))
      (falls_departed state.shared own (stands_at state who well.known.history.order live)) up;
  vanishing = λ state who is live well up.
      let own = own_at state who in
      let lost : Shared = (vanished_by state.shared own (fallen_at state.shared own.who)).shared in
      up_still lost (vanish state.shared own).shared (notes_absent (record { shared = lost; own = own }))
      (falls_absent lost own
      (subst (λ places. own.who < places) (sym (vanished_spares state.shared own (fallen_at state.shared own.who)).places) (below_places state who well.known.history.order is)))
      (vanished_up state.shared own well.known.orderly.frozen well.members up);
  losing = λ state who is live well up. lose_up state.shared who well.known.orderly.frozen well.members up;
  writing = λ state outside lead one well up job free. up;
  finishing = λ state lead unfinished well up e same. finish_up state.shared lead unfinished.outcome well.known.orderly.frozen well.members up;
  settling = λ state one well up e. settled_up state.shared up;
}

well_step : (state : State) (event : Event) (outside : Outside) → NamesClients event → IsNotedWell state → IsNotedWell (step state event outside).state
well_step state event outside named well = record {
  known = record {
    history = step_history state event outside named well.known.history;
    orderly = step_orderly state event outside named well.known.history well.known.orderly;
  };
  members = step_noted state event outside named well.known.orderly well.members;
}

pub every_run_notes_the_unfallen : EveryRunNotesTheUnfallen
every_run_notes_the_unfallen vault pages limit capacity happenings none named =
    run_keeps IsNotedWell (λ state. NotedAreUp state.shared) well_step
    (step_keeps (λ one. ⊤) IsNotedWell (λ state. NotedAreUp state.shared) (λ one e o n is. tt) (λ one is. tt) up_by_turns)
    (start vault pages limit capacity) happenings named
    (record {
      known = record { history = start_history vault pages limit capacity; orderly = start_orderly vault pages limit capacity none };
      members = λ one lost inside noted. absurd (nothing_in one inside);
    })
    (λ one lost inside noted. absurd (nothing_in one inside))
