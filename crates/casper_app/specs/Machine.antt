use Rattle.std.specs.Prelude.{◌≡◌, ◌==◌, ◌&&◌, ◌||◌, not, Bool, true, false, ℕ, List, [], ◌∷◌, ◌++◌, map, cond}
use Rattle.casper_words.specs.declared.call.Call.{Call}
use Rattle.casper_trail.specs.Calls.{calls_of}
use Rattle.casper_trail.specs.Legal.{IsLegal}
use Rattle.casper_space.specs.declared.answer.Answer.{Answer}
use Rattle.casper_model.specs.declared.event.Event.{Event}
use Rattle.casper_model.specs.declared.event.Event.TheVariants as event
use Rattle.casper_model.specs.Outside.{NothingFailed}
use Rattle.casper_model.specs.Run.{Happening, state_after, answers_of}
use Rattle.casper_model.specs.Rights.{AllNameClients}
use Rattle.casper_model.specs.State.{State, start}
use Rattle.casper_model.specs.Step.{step}
use Rattle.casper_model.specs.Vault.{VaultState}
use Rattle.casper_model.specs.WholeHistory.{whole_of}
use Rattle.casper_core.specs.Acting.{outside_in}
use Rattle.casper_core.specs.Stepping.{happenings_of, failures_in}
use Rattle.casper_laws.specs.HeldWordSteps.{is_turn_of}
use Rattle.casper_laws.specs.OwnLists.{own_list_of, completed_calls, drops_pending, is_rolled_back}
use Rattle.casper_app.specs.Chain.{AllAskOfClients}
use Rattle.casper_app.specs.Lines.{asked_in}
use Rattle.casper_app.specs.Session.{IsSession, state_behind, trail_behind}

-- events in whose steps nothing failed
abbrev pub unfailing : List Event → List Happening
unfailing events = map (λ asked. record { event = asked; outside = NothingFailed }) events

-- where no answer of a session tells of a fault, its answers and its state are those of the machine when nothing fails
abbrev pub UnfailingSessions : Type 0
UnfailingSessions =
    (start : State) (events : List Event) (given : List Answer) → IsSession start events given → failures_in given ≡ 0
    → (given ≡ answers_of start (unfailing events)) × (state_behind start events given ≡ state_after start (unfailing events))

-- what lines ask for names clients
abbrev pub LinesNameClients : Type 0
LinesNameClients = (lines : List (List ℕ)) → AllAskOfClients (asked_in lines)

-- over every vault the trail of every session of clients is legal, and so is the whole history: the trail, and then the calls that are
-- pending
abbrev pub SessionsAreLegal : Type 0
SessionsAreLegal =
    (vault : VaultState) (pages limit capacity : ℕ) (events : List Event) (given : List Answer) → AllNameClients (happenings_of events given)
    → IsLegal vault.image (trail_behind (start vault pages limit capacity) events given)
    × IsLegal vault.image (whole_of (state_behind (start vault pages limit capacity) events given))

-- the calls of a client that events so answered complete, in the order of the answers
abbrev pub calls_answered : List Event → List Answer → ℕ → List Call
calls_answered [] answers client = []
calls_answered (asked ∷ events) [] client = []
calls_answered (asked ∷ events) (given ∷ answers) client = completed_calls asked given client ++ calls_answered events answers client

-- whether a client vanishes by an event
abbrev pub is_vanish_of : ℕ → Event → Bool
is_vanish_of client (event.Vanish who) = who == client
is_vanish_of client other = false

-- whether an event so answered may drop calls of a client: it vanishes, or it is told that it was rolled back
abbrev pub may_drop : Event → Answer → ℕ → Bool
may_drop asked given client = is_vanish_of client asked || (is_turn_of client asked && is_rolled_back given)

-- whether no call of a client may have been dropped
abbrev pub none_dropped : List Event → List Answer → ℕ → Bool
none_dropped [] answers client = true
none_dropped (asked ∷ events) [] client = true
none_dropped (asked ∷ events) (given ∷ answers) client = not (may_drop asked given client) && none_dropped events answers client

-- each client's recorded calls and then its pending ones are those that the answers complete, in their order, unless it is
-- answered that it was rolled back, or it vanishes
abbrev pub SessionsKeepCalls : Type 0
SessionsKeepCalls =
    (vault : VaultState) (pages limit capacity : ℕ) (events : List Event) (given : List Answer) (who : ℕ) → AllNameClients (happenings_of events given)
    → IsSession (start vault pages limit capacity) events given → none_dropped events given who ≡ true
    → own_list_of (state_behind (start vault pages limit capacity) events given) who ≡ calls_answered events given who

-- the calls of a client as events so answered leave them: those that an answer completes come last, and where the client is told that
-- it was rolled back, or vanishes, those that are recorded are left, and what was pending is dropped
abbrev pub calls_kept : State → List Event → List Answer → ℕ → List Call → List Call
calls_kept state [] answers client calls = calls
calls_kept state (asked ∷ events) [] client calls = calls
calls_kept state (asked ∷ events) (given ∷ answers) client calls =
    let recorded = calls_of state.shared.trail client in
    let left = cond (drops_pending state asked given client) recorded calls in
    calls_kept (step state asked (outside_in asked given)).state events answers client (left ++ completed_calls asked given client)

-- so each client's recorded calls and then its pending ones are those that the answers complete, in their order, but those that were
-- dropped
abbrev pub SessionsKeepCallsButDropped : Type 0
SessionsKeepCallsButDropped =
    (vault : VaultState) (pages limit capacity : ℕ) (events : List Event) (given : List Answer) (who : ℕ) → AllNameClients (happenings_of events given)
    → let begun = start vault pages limit capacity in
    IsSession begun events given
    → own_list_of (state_behind begun events given) who ≡ calls_kept begun events given who []
