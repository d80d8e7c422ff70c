use Rattle.std.proofs.Common.{true≢false, sym, ap, ◌∙◌}
use Rattle.std.specs.Prelude.{None, is_some}
use Rattle.casper_model.specs.declared.event.Event.{Event}
use Rattle.casper_model.specs.Outside.{Outside}
use Rattle.casper_model.specs.Rights.{NamesClients, InOrder}
use Rattle.casper_model.specs.Shared.{of_client}
use Rattle.casper_model.specs.State.{State, start}
use Rattle.casper_model.specs.Step.{step}
use Rattle.casper_model.proofs.RunHistory.{start_history, step_history}
use Rattle.casper_model.proofs.RunRights.{nobody_at}
use Rattle.casper_model.proofs.StepRights.{step_rights}
use Rattle.casper_turns.specs.Noted.{NotedAreMembers}
use Rattle.casper_turns.proofs.KeptByTurns.{run_keeps, step_keeps}
use Rattle.casper_turns.proofs.Lists.{nothing_in}
use Rattle.casper_laws.proofs.MarkSteps.{step_noted}
use Rattle.casper_laws.proofs.StepFrozen.{step_orderly, start_orderly}
use Rattle.casper_answers.specs.Aftermath.{CapsAreAtMost}
use Rattle.casper_answers.proofs.Aftermath.{caps_stay}
use Rattle.casper_answers.specs.Lives.{GathersWhileAwaiting, AwaitsMembers}
use Rattle.casper_answers.specs.Losses.{GatheringHasNoNote, FallenAreMarked}
use Rattle.casper_answers.specs.Sessions.{AtEachMoment}
use Rattle.casper_answers.proofs.AskerSteps.{askers_stand, askers_have_nothing}
use Rattle.casper_answers.proofs.CommitSteps.{IsAnswering, HoldCommits, commits_by_turns}
use Rattle.casper_answers.proofs.LossCounts.{fallen_stay_marked}
use Rattle.casper_answers.proofs.StepMoves.{askers_stay_members, gathering_notes_none, gathers_while, awaits_members}

-- What holds at each moment of a session.

pub record IsSession (state : State) : Type 0 where
  pub answering : IsAnswering state
  pub commits : HoldCommits state
  pub marked : FallenAreMarked state
  pub noted : NotedAreMembers state.shared
  pub unnoted : GatheringHasNoNote state
  pub caps : CapsAreAtMost state
  pub gathers : GathersWhileAwaiting state
  pub awaits : AwaitsMembers state

answering_step : (state : State) (happened : Event) (outside : Outside) → NamesClients happened → IsAnswering state → IsAnswering (step state happened outside).state
answering_step state happened outside is well = record {
  known = record {
    history = step_history state happened outside is well.known.history;
    orderly = step_orderly state happened outside is well.known.history well.known.orderly;
  };
  members = askers_stay_members state well.known happened outside is well.members;
  stand = askers_stand state well.known well.members well.stand well.nothing happened outside is;
  nothing = askers_have_nothing state well.known well.members well.stand well.nothing happened outside is;
}

pub session_step : (state : State) (happened : Event) (outside : Outside) → NamesClients happened → IsSession state → IsSession (step state happened outside).state
session_step state happened outside is session = record {
  answering = answering_step state happened outside is session.answering;
  commits =
      step_keeps InOrder IsAnswering HoldCommits (λ one event outside named order. step_rights one event outside named order) (λ one well. well.known.history.order) commits_by_turns
      state happened outside is session.answering session.commits;
  marked = fallen_stay_marked state session.answering.known happened outside is session.marked;
  noted = step_noted state happened outside is session.answering.known.orderly session.noted;
  unnoted = gathering_notes_none state session.answering.known happened outside is session.unnoted;
  caps = caps_stay state session.answering.known happened outside is session.caps;
  gathers = gathers_while state session.answering.known happened outside is session.gathers;
  awaits = awaits_members state session.answering.known happened outside is session.awaits;
}

pub every_session : AtEachMoment IsSession
every_session vault pages limit capacity happenings none named =
    run_keeps IsSession IsSession session_step (λ state event outside is session same. session_step state event outside is session) (start vault pages limit capacity) happenings named
    starts starts
  where
    starts : IsSession (start vault pages limit capacity)
    starts = record {
      answering = record {
        known = record { history = start_history vault pages limit capacity; orderly = start_orderly vault pages limit capacity none };
        members = λ one who inside. absurd (nothing_in one inside);
        stand = λ one who inside. absurd (nothing_in one inside);
        nothing = λ one who inside. absurd (nothing_in one inside);
      };
      commits = λ who place is.
          absurd (true≢false (sym (ap is_some is) ∙ ap (λ place. is_some (of_client None (λ client. client.kept) place)) (nobody_at pages limit who)));
      marked = λ who fallen is.
          absurd (true≢false (sym (ap is_some is) ∙ ap (λ place. is_some (of_client None (λ client. client.fallen) place)) (nobody_at pages limit who)));
      noted = λ one lost inside. absurd (nothing_in one inside);
      unnoted = λ one inside. absurd (nothing_in one inside);
      gathers = λ one inside. absurd (nothing_in one inside);
      awaits = λ one who inside. absurd (nothing_in one inside);
      caps = λ who client live. absurd (true≢false (sym (ap is_some live) ∙ ap is_some (nobody_at pages limit who)));
    }
