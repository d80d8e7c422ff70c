use Rattle.std.proofs.Common.{◌≡◌, ℕ, Bool, true, false, not, ◌&&◌, ◌||◌, ◌==◌, List, [], ◌∷◌, ◌++◌, refl, sym, ap, subst, ◌∙◌}
use Rattle.std.specs.Prelude.{is_some}
use Rattle.std.proofs.lemmas.Bool.{and_parts, and_from}
use Rattle.casper_words.specs.declared.call.Call.{Call}
use Rattle.casper_space.specs.declared.answer.Answer.{Answer}
use Rattle.casper_model.specs.declared.event.Event.{Event}
use Rattle.casper_model.specs.declared.event.Event.TheVariants as event
use Rattle.casper_model.specs.Shared.{fallen_at, is_live}
use Rattle.casper_model.specs.State.{State, start}
use Rattle.casper_model.specs.Step.{step}
use Rattle.casper_model.specs.Run.{answers_of, state_after}
use Rattle.casper_model.specs.Turn.{Turn}
use Rattle.casper_laws.specs.OwnLists.{own_list_of, completed_calls, drops_pending, calls_left, is_rolled_back, all_completed, never_drops, ArePendingCalls}
use Rattle.casper_laws.proofs.CallsInOrder.{every_run_in_order}
use Rattle.casper_laws.proofs.CompletedCalls.{step_completes}
use Rattle.casper_laws.proofs.KeptCalls.{step_calls, every_run_calls}
use Rattle.casper_model.proofs.RunRights.{start_in_order, blank_at}
use Rattle.casper_model.proofs.StepRights.{step_rights}
use Rattle.casper_model.specs.Rights.{InOrder, AllNameClients}
use Rattle.casper_app.specs.Machine.{calls_answered, calls_kept, may_drop, none_dropped, SessionsKeepCalls, SessionsKeepCallsButDropped}
use Rattle.casper_core.specs.Acting.{outside_in}
use Rattle.casper_core.specs.Stepping.{happenings_of}

-- what two tests refuse, three refuse
refused_by_more : (first second third : Bool) → not (first && third) ≡ true → not (first && (second && third)) ≡ true
refused_by_more true true true refused = refused
refused_by_more true true false refused = refl
refused_by_more true false third refused = refl
refused_by_more false second third refused = refl

refused_by_both : (first second : Bool) → not first ≡ true → not (first && second) ≡ true
refused_by_both true second refused = cc
refused_by_both false second refused = refl

or_parts : (first second : Bool) → not (first || second) ≡ true → not first ≡ true
or_parts true second refused = refused
or_parts false second refused = refl

-- a step whose answer can have dropped nothing of a client has dropped nothing of it
none_by : (state : State) (asked : Event) (given : Answer) (client : ℕ) → not (may_drop asked given client) ≡ true → not (drops_pending state asked given client) ≡ true
none_by state (event.Join who) given client none = refl
none_by state (event.Read who page word) given client none = refused_by_more (who == client) (is_some (fallen_at state.shared who)) (is_rolled_back given) none
none_by state (event.Write who page word value) given client none = refused_by_more (who == client) (is_some (fallen_at state.shared who)) (is_rolled_back given) none
none_by state (event.Acquire who wants) given client none = refused_by_more (who == client) (is_some (fallen_at state.shared who)) (is_rolled_back given) none
none_by state (event.Hold who wants) given client none = refused_by_more (who == client) (is_some (fallen_at state.shared who)) (is_rolled_back given) none
none_by state (event.Serve who) given client none = refused_by_more (who == client) (is_some (fallen_at state.shared who)) (is_rolled_back given) none
none_by state (event.Stabilise who) given client none = refused_by_more (who == client) (is_some (fallen_at state.shared who)) (is_rolled_back given) none
none_by state (event.WriteOut lead) given client none = refl
none_by state (event.Finish lead) given client none = refl
none_by state event.Settle given client none = refl
none_by state (event.Depart who) given client none = refused_by_more (who == client) (is_some (fallen_at state.shared who)) (is_rolled_back given) none
none_by state (event.Vanish who) given client none = refused_by_both (who == client) (is_live state.shared who) (or_parts (who == client) _ none)
none_by state (event.Lose who) given client none = refl

-- what a list of answers begins with, and what follows
first_given : (one other : Answer) (given others : List Answer) → one ∷ given ≡ other ∷ others → (one ≡ other) × (given ≡ others)
first_given one other given others same = (cc, cc)

never_by : (state : State) (events : List Event) (given : List Answer) (client : ℕ) → given ≡ answers_of state (happenings_of events given)
    → none_dropped events given client ≡ true → never_drops state (happenings_of events given) client ≡ true
never_by state events [] client is none = refl
never_by state [] (one ∷ given) client is none = refl
never_by state (asked ∷ events) (one ∷ given) client is none =
    let turn : Turn = step state asked (outside_in asked one) in
    let heads = first_given one turn.answer given (answers_of turn.state (happenings_of events given)) is in
    let parts = and_parts (not (may_drop asked one client)) (none_dropped events given client) none in
    and_from (not (drops_pending state asked turn.answer client)) (never_drops turn.state (happenings_of events given) client)
    (none_by state asked turn.answer client (subst (λ (a : Answer). not (may_drop asked a client) ≡ true) heads.0 parts.0))
    (never_by turn.state events given client heads.1 parts.1)

completed_by : (state : State) (events : List Event) (given : List Answer) (client : ℕ) → given ≡ answers_of state (happenings_of events given)
    → all_completed state (happenings_of events given) client ≡ calls_answered events given client
completed_by state [] [] client is = refl
completed_by state (asked ∷ events) [] client is = refl
completed_by state [] (one ∷ given) client is = refl
completed_by state (asked ∷ events) (one ∷ given) client is =
    let turn : Turn = step state asked (outside_in asked one) in
    let heads = first_given one turn.answer given (answers_of turn.state (happenings_of events given)) is in
    ap (λ (a : Answer). completed_calls asked a client ++ all_completed turn.state (happenings_of events given) client) (sym heads.0)
    ∙ ap (λ (calls : List Call). completed_calls asked one client ++ calls) (completed_by turn.state events given client heads.1)

pub sessions_keep_calls : SessionsKeepCalls
sessions_keep_calls vault pages limit capacity events given who named session none =
    let begun : State = start vault pages limit capacity in
    every_run_in_order vault pages limit capacity (happenings_of events given) named who
    (never_by begun events given who session.answers none)
    ∙ completed_by begun events given who session.answers

-- each step leaves a client what it leaves, and adds what its answer completes
kept_from : (state : State) (events : List Event) (given : List Answer) (who : ℕ) → AllNameClients (happenings_of events given) → InOrder state
    → ArePendingCalls state → given ≡ answers_of state (happenings_of events given)
    → own_list_of (state_after state (happenings_of events given)) who ≡ calls_kept state events given who (own_list_of state who)
kept_from state [] [] who named order pending is = refl
kept_from state (asked ∷ events) [] who named order pending is = refl
kept_from state [] (one ∷ given) who named order pending is = refl
kept_from state (asked ∷ events) (one ∷ given) who named order pending is =
    let turn : Turn = step state asked (outside_in asked one) in
    let heads = first_given one turn.answer given (answers_of turn.state (happenings_of events given)) is in
    let made : own_list_of turn.state who ≡ calls_left state asked one who ++ completed_calls asked one who =
    step_completes state asked (outside_in asked one) named.0 order pending who
    ∙ ap (λ (a : Answer). calls_left state asked a who ++ completed_calls asked a who) (sym heads.0) in
    kept_from turn.state events given who named.1 (step_rights state asked (outside_in asked one) named.0 order)
    (step_calls state asked (outside_in asked one) named.0 order pending) heads.1
    ∙ ap (calls_kept turn.state events given who) made

pub sessions_keep_but_dropped : SessionsKeepCallsButDropped
sessions_keep_but_dropped vault pages limit capacity events given who named session =
    let begun : State = start vault pages limit capacity in
    kept_from begun events given who named (start_in_order vault pages limit capacity)
    (every_run_calls vault pages limit capacity [] tt) session.answers
    ∙ ap (calls_kept begun events given who) (blank_at vault pages limit capacity who).pending
