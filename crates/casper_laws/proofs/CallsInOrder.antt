use Rattle.std.proofs.Common.{◌≡◌, ℕ, List, [], ◌∷◌, ◌++◌, true, not, sym, ap, ◌∙◌, append_assoc, append-nil}
use Rattle.std.proofs.lemmas.Bool.{and_parts, not-true}
use Rattle.casper_model.specs.Rights.{InOrder, AllNameClients}
use Rattle.casper_model.specs.Run.{Happening, state_after}
use Rattle.casper_model.specs.State.{State, start}
use Rattle.casper_model.specs.Step.{step}
use Rattle.casper_model.specs.Turn.{Turn}
use Rattle.casper_model.proofs.RunRights.{start_in_order, blank_at}
use Rattle.casper_model.proofs.StepRights.{step_rights}
use Rattle.casper_laws.specs.OwnLists.{own_list_of, completed_calls, drops_pending, ArePendingCalls, all_completed, never_drops, EveryRunHasCallsInOrder}
use Rattle.casper_laws.proofs.CompletedCalls.{step_completes}
use Rattle.casper_laws.proofs.KeptCalls.{step_calls, every_run_calls}
use Rattle.casper_laws.proofs.OwnListSteps.{passed}

-- a run that drops nothing of a client adds what it completes for it
run_in_order : (state : State) (happenings : List Happening) → AllNameClients happenings → InOrder state → ArePendingCalls state → (who : ℕ)
    → never_drops state happenings who ≡ true → own_list_of (state_after state happenings) who ≡ own_list_of state who ++ all_completed state happenings who
run_in_order state [] named order pending who never = sym (append-nil (own_list_of state who))
run_in_order state (first ∷ following) named order pending who never =
    let turn : Turn = step state first.event first.outside in
    let dropped = drops_pending state first.event turn.answer who in
    let completed = completed_calls first.event turn.answer who in
    let later = all_completed turn.state following who in
    let parts = and_parts (not dropped) (never_drops turn.state following who) never in
    run_in_order turn.state following named.1 (step_rights state first.event first.outside named.0 order)
    (step_calls state first.event first.outside named.0 order pending) who parts.1
    ∙ ap (λ calls. calls ++ later)
    (step_completes state first.event first.outside named.0 order pending who ∙ ap (λ calls. calls ++ completed) (passed dropped _ _ (not-true dropped parts.0)))
    ∙ append_assoc (own_list_of state who) completed later

pub every_run_in_order : EveryRunHasCallsInOrder
every_run_in_order vault pages limit capacity happenings named who never =
    let first = start vault pages limit capacity in
    run_in_order first happenings named (start_in_order vault pages limit capacity) (every_run_calls vault pages limit capacity [] tt) who never
    ∙ ap (λ calls. calls ++ all_completed first happenings who) (blank_at vault pages limit capacity who).pending
