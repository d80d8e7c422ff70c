use Rattle.std.specs.Prelude.{◌≡◌, ℕ, List, [], ◌∷◌, ◌++◌, Bool, true, false, not, ◌&&◌, ◌==◌, cond, is_some, Some, None}
use Rattle.std.specs.List.{list_all}
use Rattle.casper_words.specs.Crew.{IsClient}
use Rattle.casper_words.specs.declared.call.Op.TheVariants as op
use Rattle.casper_words.specs.declared.call.Call.{Call}
use Rattle.casper_space.specs.declared.answer.Answer.{Answer}
use Rattle.casper_space.specs.declared.answer.Answer.TheVariants as answer
use Rattle.casper_trail.specs.Calls.{is_read_or_write, calls_of, own_list}
use Rattle.casper_model.specs.declared.event.Event.{Event}
use Rattle.casper_model.specs.declared.event.Event.TheVariants as event
use Rattle.casper_model.specs.Client.{Client}
use Rattle.casper_model.specs.Outside.{Outside}
use Rattle.casper_model.specs.Shared.{client_at, fallen_at, is_live}
use Rattle.casper_model.specs.State.{State, own_at, start}
use Rattle.casper_model.specs.Turn.{Turn}
use Rattle.casper_model.specs.Step.{step}
use Rattle.casper_model.specs.Run.{Happening, state_after}
use Rattle.casper_model.specs.Rights.{InOrder, NamesClients, AllNameClients}
use Rattle.casper_model.specs.Vault.{VaultState}

-- the completed calls of a client: the recorded ones, and after them those that are pending
abbrev pub own_list_of : State → ℕ → List Call
own_list_of state who = own_list state.shared.trail who (own_at state who).pending

-- a client is live and not fallen
abbrev pub IsStanding : State → ℕ → Type 0
IsStanding state who = (client : Client) × (client_at state.shared who ≡ Some client) × (client.fallen ≡ None)

-- what is pending are reads and writes
abbrev pub ArePendingCalls : State → Type 0
ArePendingCalls state = (who : ℕ) → list_all (λ call. is_read_or_write call.op) (own_at state who).pending ≡ true

abbrev pub EachStepKeepsPendingCalls : Type 0
EachStepKeepsPendingCalls =
    (state : State) (event : Event) (outside : Outside) → NamesClients event → InOrder state → ArePendingCalls state → ArePendingCalls (step state event outside).state

abbrev pub EveryRunHasPendingCalls : Type 0
EveryRunHasPendingCalls =
    (vault : VaultState) (pages limit capacity : ℕ) (happenings : List Happening) → AllNameClients happenings
    → ArePendingCalls (state_after (start vault pages limit capacity) happenings)

-- who is absent has nothing pending
abbrev pub EveryAbsentClientHasNothingPending : Type 0
EveryAbsentClientHasNothingPending =
    (vault : VaultState) (pages limit capacity : ℕ) (happenings : List Happening) → AllNameClients happenings → (who : ℕ)
    → is_live (state_after (start vault pages limit capacity) happenings).shared who ≡ false
    → (own_at (state_after (start vault pages limit capacity) happenings) who).pending ≡ []

-- the call that an answer completes: a read that is answered a value, with this value, and a write that is answered Ok
abbrev pub read_completed : ℕ → ℕ → Answer → List Call
read_completed page word (answer.Value value) = record { op = op.Read; page = page; word = word; value = value } ∷ []
read_completed page word other = []

abbrev pub write_completed : ℕ → ℕ → ℕ → Answer → List Call
write_completed page word value answer.Ok = record { op = op.Write; page = page; word = word; value = value } ∷ []
write_completed page word value other = []

-- the calls of a client that a step with this event and this answer completed: none, or one
abbrev pub completed_calls : Event → Answer → ℕ → List Call
completed_calls (event.Read who page word) given client = cond (who == client) (read_completed page word given) []
completed_calls (event.Write who page word value) given client = cond (who == client) (write_completed page word value given) []
completed_calls other given client = []

abbrev pub is_rolled_back : Answer → Bool
is_rolled_back (answer.RolledBack mark recorded unrecorded) = true
is_rolled_back other = false

-- whether a client was fallen, and is told so
abbrev pub is_told : State → ℕ → Answer → Bool
is_told state who given = is_some (fallen_at state.shared who) && is_rolled_back given

-- whether a step drops what a client has pending: the client was fallen and is told so, or it was live and vanishes
abbrev pub drops_pending : State → Event → Answer → ℕ → Bool
drops_pending state (event.Read who page word) given client = (who == client) && is_told state who given
drops_pending state (event.Write who page word value) given client = (who == client) && is_told state who given
drops_pending state (event.Acquire who wants) given client = (who == client) && is_told state who given
drops_pending state (event.Hold who wants) given client = (who == client) && is_told state who given
drops_pending state (event.Serve who) given client = (who == client) && is_told state who given
drops_pending state (event.Stabilise who) given client = (who == client) && is_told state who given
drops_pending state (event.Depart who) given client = (who == client) && is_told state who given
drops_pending state (event.Vanish who) given client = (who == client) && is_live state.shared who
drops_pending state other given client = false

-- the calls that a step leaves a client: all that it had, or where the step drops what is pending, those that are recorded
abbrev pub calls_left : State → Event → Answer → ℕ → List Call
calls_left state event given who = cond (drops_pending state event given who) (calls_of state.shared.trail who) (own_list_of state who)

-- each client has the calls that the step leaves it, in their order, and after them exactly those that it completed
abbrev pub AddsCompletedCalls : State → Event → Turn → Type 0
AddsCompletedCalls state event turn =
    (who : ℕ) → own_list_of turn.state who ≡ calls_left state event turn.answer who ++ completed_calls event turn.answer who

abbrev pub EachStepAddsCompletedCalls : Type 0
EachStepAddsCompletedCalls =
    (state : State) (event : Event) (outside : Outside) → NamesClients event → InOrder state → ArePendingCalls state
    → AddsCompletedCalls state event (step state event outside)

-- so it is in each step of every run
abbrev pub EveryRunAddsCompletedCalls : Type 0
EveryRunAddsCompletedCalls =
    (vault : VaultState) (pages limit capacity : ℕ) (happenings : List Happening) → AllNameClients happenings → (event : Event) (outside : Outside)
    → NamesClients event
    → AddsCompletedCalls (state_after (start vault pages limit capacity) happenings) event
    (step (state_after (start vault pages limit capacity) happenings) event outside)

-- the calls of a client that a run completed, in the order in which they were answered
abbrev pub all_completed : State → List Happening → ℕ → List Call
all_completed state [] client = []
all_completed state (first ∷ following) client =
    let turn = step state first.event first.outside in
    completed_calls first.event turn.answer client ++ all_completed turn.state following client

-- whether no step of a run drops what a client has pending
abbrev pub never_drops : State → List Happening → ℕ → Bool
never_drops state [] client = true
never_drops state (first ∷ following) client =
    let turn = step state first.event first.outside in
    not (drops_pending state first.event turn.answer client) && never_drops turn.state following client

-- so the calls of a client that was never told of a fall and never vanished are exactly those that the run completed for
-- it, in their order
abbrev pub EveryRunHasCallsInOrder : Type 0
EveryRunHasCallsInOrder =
    (vault : VaultState) (pages limit capacity : ℕ) (happenings : List Happening) → AllNameClients happenings → (who : ℕ)
    → never_drops (start vault pages limit capacity) happenings who ≡ true
    → own_list_of (state_after (start vault pages limit capacity) happenings) who ≡ all_completed (start vault pages limit capacity) happenings who

-- the recorded calls of a client that has left are all its completed calls
abbrev pub RecordsAllAsItLeaves : State → ℕ → Turn → Type 0
RecordsAllAsItLeaves state who turn = turn.answer ≡ answer.Left → calls_of turn.state.shared.trail who ≡ own_list_of state who

abbrev pub EachDepartureRecordsAll : Type 0
EachDepartureRecordsAll =
    (state : State) (who : ℕ) (outside : Outside) → IsClient who → InOrder state → ArePendingCalls state
    → RecordsAllAsItLeaves state who (step state (event.Depart who) outside)

abbrev pub EveryDepartureRecordsAll : Type 0
EveryDepartureRecordsAll =
    (vault : VaultState) (pages limit capacity : ℕ) (happenings : List Happening) → AllNameClients happenings → (who : ℕ) (outside : Outside) → IsClient who
    → RecordsAllAsItLeaves (state_after (start vault pages limit capacity) happenings) who
    (step (state_after (start vault pages limit capacity) happenings) (event.Depart who) outside)
