use Rattle.std.proofs.Common.{◌≡◌, ◌<◌, ℕ, ◌++◌, refl, sym, ap, ◌∙◌, subst, inl, ⊎_elim}
use Rattle.std.specs.Prelude.{Option, None, Some, unwrap_or}
use Rattle.casper_words.specs.Crew.{has_member}
use Rattle.casper_trail.specs.Value.{value_of}
use Rattle.casper_trail.specs.Calls.{entries_by}
use Rattle.casper_trail.proofs.Growth.{alone_without_entries}
use Rattle.casper_trail.proofs.Rounds.{alone_is, association_goes_both_ways}
use Rattle.casper_model.specs.declared.event.Event.{Event}
use Rattle.casper_model.specs.Acquire.{acquire}
use Rattle.casper_model.specs.Client.{Client, Fallen}
use Rattle.casper_model.specs.FallLaw.{EachFallenIsMarked}
use Rattle.casper_model.specs.Finish.{finish, settled}
use Rattle.casper_model.specs.Join.{join}
use Rattle.casper_model.specs.Leave.{serve, depart, vanish, vanished_by}
use Rattle.casper_model.specs.Loss.{lose}
use Rattle.casper_model.specs.Outside.{Outside}
use Rattle.casper_model.specs.Own.{Own}
use Rattle.casper_model.specs.Rights.{InOrder, NamesClients}
use Rattle.casper_model.specs.Run.{state_after}
use Rattle.casper_model.specs.Shared.{Shared, client_at, fallen_at, of_client}
use Rattle.casper_model.specs.Stabilise.{stabilise}
use Rattle.casper_model.specs.State.{State, own_at, start}
use Rattle.casper_model.specs.Step.{step}
use Rattle.casper_model.specs.View.{value_seen, seen_by}
use Rattle.casper_model.proofs.FallSteps.{every_run_marked}
use Rattle.casper_model.proofs.LeaveRights.{vanished_spares}
use Rattle.casper_model.proofs.RunHistory.{base_stays}
use Rattle.casper_model.proofs.StepRights.{step_rights, stands_at}
use Rattle.casper_laws.specs.HeldWordSteps.{TheFallenSeeTheSame, TheFallenSeeOn}
use Rattle.casper_turns.specs.Noted.{NotedAreUp}
use Rattle.casper_turns.proofs.Lists.{not_some}
use Rattle.casper_laws.proofs.HeldWordFalls.{FallsNow, FallsWell, falls_by_none, falls_joined, falls_acquired, falls_served, falls_stabilised, falls_departed, falls_absent, falls_vanished, falls_lose, falls_finish, falls_settled}
use Rattle.casper_laws.proofs.HeldWordOwn.{others_leave}
use Rattle.casper_laws.proofs.HeldWords.{sees_as}
use Rattle.casper_turns.proofs.KeptByTurns.{KeptByTurns, step_keeps}
use Rattle.casper_laws.proofs.RunFacts.{every_run_history}
use Rattle.casper_turns.proofs.NotedUp.{not_fallen}
use Rattle.casper_laws.proofs.RunFactsNotes.{every_run_notes_the_unfallen}
use Rattle.casper_laws.proofs.StepFrozen.{below_places}

-- a state as a step begins
record IsBegun (origin state : State) : Type 0 where
  same : state ≡ origin
  order : InOrder state
  up : NotedAreUp state.shared

begun_falls : (origin state : State) (after : Shared) → IsBegun origin state → FallsWell state.shared after → FallsWell origin.shared after
begun_falls origin state after begun falls = subst (λ (one : State). FallsWell one.shared after) begun.same falls

falls_by_turns : (origin : State) → KeptByTurns InOrder (IsBegun origin) (λ after. FallsWell origin.shared after.shared)
falls_by_turns origin = record {
  hit = λ state who act page word value is kind order falls can. falls;
  joining = λ state who is begun falls.
      let own = own_at state who in
      begun_falls origin state (join state.shared own).shared begun
      (falls_by_none state.shared (join state.shared own).shared (falls_joined state.shared own (client_at state.shared own.who) (below_places state who begun.order is)));
  acquiring = λ state who wants calls any is live begun falls.
      let own = own_at state who in
      begun_falls origin state (acquire state.shared own wants calls).shared begun
      (falls_by_none state.shared (acquire state.shared own wants calls).shared (falls_acquired wants calls state.shared own (stands_at state who begun.order live)));
  serving = λ state who is live begun falls.
      let own = own_at state who in
      begun_falls origin state (serve state.shared own).shared begun
      (falls_by_none state.shared (serve state.shared own).shared (falls_served state.shared own (stands_at state who begun.order live)));
  stabilising = λ state who is live begun falls.
      let own = own_at state who in
      begun_falls origin state (stabilise state.shared own).shared begun
      (falls_by_none state.shared (stabilise state.shared own).shared (falls_stabilised state.shared own (stands_at state who begun.order live)));
  departing = λ state who is live begun falls.
      let own = own_at state who in
      begun_falls origin state (depart state.shared own).shared begun
      (falls_by_none state.shared (depart state.shared own).shared (falls_departed state.shared own (stands_at state who begun.order live)));
  vanishing = λ state who is live begun falls.
      let own = own_at state who in
      let lost : Shared = (vanished_by state.shared own (fallen_at state.shared own.who)).shared in
      begun_falls origin state (vanish state.shared own).shared begun
      (λ number fallen fell.
      falls_vanished state.shared own number fallen
      (falls_absent lost own
      (subst (λ places. own.who < places) (sym (vanished_spares state.shared own (fallen_at state.shared own.who)).places) (below_places state who begun.order is))
      number fallen fell));
  losing = λ state who is live begun falls. begun_falls origin state (lose state.shared who).shared begun (falls_lose state.shared who);
  writing = λ state outside lead one begun falls job free. falls;
  finishing = λ state lead unfinished begun falls e same.
      begun_falls origin state (finish state.shared lead unfinished.outcome).shared begun (falls_finish state.shared lead unfinished.outcome begun.up);
  settling = λ state one begun falls e.
      begun_falls origin state (settled state.shared).shared begun (falls_by_none state.shared (settled state.shared).shared (falls_settled state.shared));
}

step_falls : (state : State) (event : Event) (outside : Outside) → NamesClients event → InOrder state → NotedAreUp state.shared
    → FallsWell state.shared (step state event outside).state.shared
step_falls state event outside named order up =
    step_keeps InOrder (IsBegun state) (λ after. FallsWell state.shared after.shared) step_rights (λ one begun. begun.order) (falls_by_turns state) state event outside named
    (record { same = refl; order = order; up = up }) (λ who fallen is. inl is)

-- a fallen client is with no other, so it does not fall again
falls_once : (shared : Shared) (who : ℕ) (fallen : Fallen) → EachFallenIsMarked shared → FallsNow shared who fallen → fallen_at shared who ≡ None
falls_once shared who fallen marked now = not_fallen (fallen_at shared who) (λ before fell. by_place before fell (client_at shared who) refl)
  where
    by_client : (before : Fallen) (client : Client) → fallen_at shared who ≡ Some before → client_at shared who ≡ Some client → ⊥
    by_client before client fell live =
        let has = marked who client before live (sym (ap (of_client None (λ one. one.fallen)) live) ∙ fell) in
        let is : now.0 ≡ who =
        (alone_is who now.0
        (ap (has_member now.0) (sym (alone_without_entries shared.trail who has.no_open)) ∙ association_goes_both_ways shared.trail now.0 who now.1)).1 in
        not_some before (sym now.2 ∙ ap (fallen_at shared) is ∙ fell)

    by_place : (before : Fallen) → fallen_at shared who ≡ Some before → (place : Option Client) → client_at shared who ≡ place → ⊥
    by_place before fell None here = not_some before (sym (ap (of_client None (λ one. one.fallen)) here) ∙ fell)
    by_place before fell (Some client) here = by_client before client fell here

the_fallen_see : (state : State) (event : Event) (outside : Outside) → NamesClients event → InOrder state → EachFallenIsMarked state.shared → NotedAreUp state.shared
    → TheFallenSeeTheSame state event (step state event outside)
the_fallen_see state event outside named order marked up who fallen other is =
    ⊎_elim
    (λ was. (λ page word. seen_before page word (Some fallen) was refl, λ before fell. ap (λ one. unwrap_or one before) (sym was ∙ fell)))
    (λ now.
    let none = falls_once state.shared who fallen marked now in
    (λ page word. seen_before page word None none now.3, λ before fell. absurd (not_some before (sym none ∙ fell))))
    (step_falls state event outside named order up who fallen is)
  where
    after : State
    after = (step state event outside).state

    own : own_at after who ≡ own_at state who
    own = others_leave state event outside named order who other

    seen_before : (page word : ℕ) (before : Option Fallen) → fallen_at state.shared who ≡ before → fallen.seen ≡ seen_by state.shared before
        → value_seen after who page word ≡ value_seen state who page word
    seen_before page word before fell seen =
        sees_as after who page word (ap (λ (one : Own). one.who) own ∙ order.shaped.numbers who) (Some fallen) is
        ∙ ap (λ base. value_of base (fallen.seen ++ entries_by who (own_at after who).pending) page word) (base_stays state event outside)
        ∙ ap (λ (one : Own). value_of state.base (fallen.seen ++ entries_by who one.pending) page word) own
        ∙ ap (λ entries. value_of state.base (entries ++ entries_by who (own_at state who).pending) page word) seen
        ∙ sym (sees_as state who page word (order.shaped.numbers who) before fell)

pub the_fallen_see_on : TheFallenSeeOn
the_fallen_see_on vault pages limit capacity happenings none named event outside is =
    the_fallen_see (state_after (start vault pages limit capacity) happenings) event outside is (every_run_history vault pages limit capacity happenings named).order
    (every_run_marked vault pages limit capacity happenings named) (every_run_notes_the_unfallen vault pages limit capacity happenings none named)
