use Rattle.std.specs.Prelude.{◌≡◌, ◌≤◌, ◌+◌, ◌-◌, ℕ, List, [], ◌∷◌, Bool, true, false, max, None}
use Rattle.casper_model.specs.declared.event.Event.{Event}
use Rattle.casper_model.specs.declared.event.Event.TheVariants as event
use Rattle.casper_model.specs.Outside.{Outside}
use Rattle.casper_model.specs.Rights.{InOrder, NamesClients, AllNameClients}
use Rattle.casper_model.specs.Run.{Happening, state_after}
use Rattle.casper_model.specs.Shared.{Shared}
use Rattle.casper_model.specs.State.{State, start}
use Rattle.casper_model.specs.Step.{step}
use Rattle.casper_model.specs.Vault.{VaultState}
use Rattle.casper_laws.specs.FrozenLaws.{HasOrderlyStabilisations}
use Rattle.casper_turns.specs.Noted.{NotedAreMembers}
use Rattle.casper_turns.specs.MarkRoom.{mark_count, marks_due, RecordsNoMore}

-- Which marks may still come before memory can be taken again, and that the room for them is there. A join and a
-- client's turn may take memory; a write-out's finish, a settle and a loss may not, and they alone record marks.

-- whether the step of an event is a join or a client's turn
abbrev pub may_take_memory : Event → Bool
may_take_memory (event.Join who) = true
may_take_memory (event.Read who page word) = true
may_take_memory (event.Write who page word value) = true
may_take_memory (event.Acquire who wants) = true
may_take_memory (event.Hold who wants) = true
may_take_memory (event.Serve who) = true
may_take_memory (event.Stabilise who) = true
may_take_memory (event.WriteOut lead) = false
may_take_memory (event.Finish lead) = false
may_take_memory event.Settle = false
may_take_memory (event.Depart who) = true
may_take_memory (event.Vanish who) = false
may_take_memory (event.Lose who) = false

-- what a step may record of marks: none where it may take memory, and otherwise no more than it leaves fewer due
abbrev pub MarksAreDue : Bool → Shared → Shared → Type 0
MarksAreDue true shared after = mark_count after.trail ≡ mark_count shared.trail
MarksAreDue false shared after = RecordsNoMore shared after

abbrev pub EachStepKeepsNotedMembers : Type 0
EachStepKeepsNotedMembers =
    (state : State) (event : Event) (outside : Outside) → NamesClients event → HasOrderlyStabilisations state → NotedAreMembers state.shared
    → NotedAreMembers (step state event outside).state.shared

abbrev pub EachStepRecordsMarksThatAreDue : Type 0
EachStepRecordsMarksThatAreDue =
    (state : State) (event : Event) (outside : Outside) → NamesClients event → InOrder state → HasOrderlyStabilisations state → NotedAreMembers state.shared
    → MarksAreDue (may_take_memory event) state.shared (step state event outside).state.shared

-- the room for marks after a step, where only what it must have is made. A step that may take memory makes room for
-- the marks that are due after it, where there is less. Any other step makes none, and each mark takes one
abbrev pub room_behind : Bool → ℕ → Shared → Shared → ℕ
room_behind true room shared after = max room (marks_due after)
room_behind false room shared after = room - (mark_count after.trail - mark_count shared.trail)

abbrev pub room_after_step : ℕ → State → Event → Outside → ℕ
room_after_step room state event outside = room_behind (may_take_memory event) room state.shared (step state event outside).state.shared

-- the room for marks after a run
abbrev pub mark_room_after : ℕ → State → List Happening → ℕ
mark_room_after room state [] = room
mark_room_after room state (first ∷ following) =
    mark_room_after (room_after_step room state first.event first.outside) (step state first.event first.outside).state following

-- at every moment of every run there is room for the marks that are due: one for each live client that is not fallen,
-- and one for each stabilisation
abbrev pub EveryRunKeepsRoomForMarks : Type 0
EveryRunKeepsRoomForMarks =
    (vault : VaultState) (pages limit capacity : ℕ) (happenings : List Happening) → vault.doubt ≡ None → AllNameClients happenings
    → marks_due (state_after (start vault pages limit capacity) happenings).shared ≤ mark_room_after 0 (start vault pages limit capacity) happenings

-- so a step that may take no memory has room for the mark that it records: a write-out, a finish, a settle, a vanish
-- and a loss never need memory for one
abbrev pub EveryMarkHasItsRoom : Type 0
EveryMarkHasItsRoom =
    (vault : VaultState) (pages limit capacity : ℕ) (happenings : List Happening) → vault.doubt ≡ None → AllNameClients happenings
    → (event : Event) (outside : Outside) → NamesClients event → may_take_memory event ≡ false
    → mark_count (step (state_after (start vault pages limit capacity) happenings) event outside).state.shared.trail
    ≤ mark_count (state_after (start vault pages limit capacity) happenings).shared.trail + mark_room_after 0 (start vault pages limit capacity) happenings
