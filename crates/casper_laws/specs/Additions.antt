use Rattle.std.specs.Prelude.{◌≡◌, ℕ, List, [], ◌∷◌, ◌++◌, Bool, true, false, ◌||◌, cond, is_some, option_and_then, Option, None, Some}
use Rattle.casper_words.specs.declared.page.Right.TheVariants as may
use Rattle.casper_words.specs.declared.page.Want.{Want}
use Rattle.casper_space.specs.declared.answer.Answer.{Answer}
use Rattle.casper_space.specs.declared.answer.Answer.TheVariants as answer
use Rattle.casper_trail.specs.declared.entry.Entry.{Entry}
use Rattle.casper_trail.specs.declared.item.Item.{Item}
use Rattle.casper_trail.specs.declared.item.Item.TheVariants as item
use Rattle.casper_trail.specs.declared.mark.Mark.TheVariants.{Commit, Rollback}
use Rattle.casper_trail.specs.Association.{association_of}
use Rattle.casper_trail.specs.Calls.{entries_by}
use Rattle.casper_trail.specs.Parts.{as_items}
use Rattle.casper_model.specs.declared.event.Event.{Event}
use Rattle.casper_model.specs.declared.event.Event.TheVariants as event
use Rattle.casper_model.specs.Acquire.{touches_by, missing_once_opened}
use Rattle.casper_model.specs.Finish.{stabilisation_led_by, doubtful_of}
use Rattle.casper_model.specs.Hits.{can_hit}
use Rattle.casper_model.specs.Outside.{Outside}
use Rattle.casper_model.specs.Rights.{InOrder, AllNameClients}
use Rattle.casper_model.specs.Run.{Happening, state_after}
use Rattle.casper_model.specs.Shared.{Shared, fallen_at}
use Rattle.casper_model.specs.Stabilisation.{Stabilisation}
use Rattle.casper_model.specs.State.{State, own_at, start}
use Rattle.casper_model.specs.Step.{step}
use Rattle.casper_model.specs.Turn.{Turn}
use Rattle.casper_model.specs.Vault.{VaultState}
use Rattle.casper_laws.specs.OwnLists.{is_told}

-- What each step adds to the trail, exactly, by its event and its answer.

-- whether a step ended before the turn of its client: the client is absent, a page or a word is out of range, or a load failed
abbrev pub is_without_turn : Answer → Bool
is_without_turn answer.Absent = true
is_without_turn answer.Range = true
is_without_turn answer.Disk = true
is_without_turn other = false

-- whether the pages of an acquire were granted, by the answer to it or to the call that it was for
abbrev pub grants_pages : Answer → Bool
grants_pages answer.Granted = true
grants_pages (answer.Value value) = true
grants_pages answer.Ok = true
grants_pages other = false

-- a turn records the pending calls of its client, in their order, unless the client is told of its fall
abbrev pub turn_entries : State → ℕ → Answer → List Entry
turn_entries state who given = cond (is_without_turn given || is_told state who given) [] (entries_by who (own_at state who).pending)

-- an acquire that is granted records after them a touch of each want that was missing, in order
abbrev pub acquire_entries : State → ℕ → List Want → Answer → List Entry
acquire_entries state who wants given =
    turn_entries state who given ++ cond (grants_pages given) (touches_by who (missing_once_opened state.shared (own_at state who) wants)) []

-- a call that is a hit records nothing, and any other what the acquire of its page does
abbrev pub call_entries : State → ℕ → Want → Answer → List Entry
call_entries state who want given = cond (can_hit (own_at state who) want.page want.right) [] (acquire_entries state who (want ∷ []) given)

-- the mark of an association of a lead that is made stable, and of one that is rolled back with a lost client
abbrev pub commit_mark : List Item → ℕ → List Item
commit_mark trail lead = item.Mark (Commit lead (association_of trail lead)) ∷ []

abbrev pub rollback_mark : List Item → ℕ → List Item
rollback_mark trail lost = item.Mark (Rollback lost (association_of trail lost)) ∷ []

-- the mark of somebody, if there is one
abbrev pub mark_of : (ℕ → List Item) → Option ℕ → List Item
mark_of mark None = []
mark_of mark (Some who) = mark who

-- the loss that was noted in the stabilisation of a lead, if there is one
abbrev pub noted_by : Shared → ℕ → Option ℕ
noted_by shared lead = option_and_then (λ (one : Stabilisation). one.noted) (stabilisation_led_by shared lead)

-- a finish adds the commit mark of its lead, or the rollback mark of the loss that was noted, or nothing
abbrev pub finish_marks : Shared → ℕ → Answer → List Item
finish_marks shared lead (answer.Commit place) = commit_mark shared.trail lead
finish_marks shared lead (answer.Undone place) = mark_of (rollback_mark shared.trail) (noted_by shared lead)
finish_marks shared lead other = []

-- a settle adds the commit mark of the lead that was in doubt, if there is one
abbrev pub settle_marks : Shared → Answer → List Item
settle_marks shared (answer.Commit place) =
    mark_of (commit_mark shared.trail) (option_and_then (λ (one : Stabilisation). Some one.lead) (doubtful_of shared))
settle_marks shared other = []

-- a client that vanishes adds its rollback mark, unless it had fallen, or its loss is noted
abbrev pub vanish_marks : Shared → ℕ → Answer → List Item
vanish_marks shared who (answer.VanishLost place unrecorded) = cond (is_some (fallen_at shared who)) [] (rollback_mark shared.trail who)
vanish_marks shared who other = []

-- a client that is declared lost adds its rollback mark, unless it had fallen, or its loss is noted
abbrev pub lose_marks : Shared → ℕ → Answer → List Item
lose_marks shared who (answer.LoseLost place) = rollback_mark shared.trail who
lose_marks shared who other = []

-- what a step with this event and this answer adds to the trail
abbrev pub items_added : State → Event → Answer → List Item
items_added state (event.Join who) given = []
items_added state (event.Read who page word) given = as_items (call_entries state who (record { page = page; right = may.Read }) given)
items_added state (event.Write who page word value) given = as_items (call_entries state who (record { page = page; right = may.Write }) given)
items_added state (event.Acquire who wants) given = as_items (acquire_entries state who wants given)
items_added state (event.Hold who wants) given = as_items (acquire_entries state who wants given)
items_added state (event.Serve who) given = as_items (turn_entries state who given)
items_added state (event.Stabilise who) given = as_items (turn_entries state who given)
items_added state (event.WriteOut lead) given = []
items_added state (event.Finish lead) given = finish_marks state.shared lead given
items_added state event.Settle given = settle_marks state.shared given
items_added state (event.Depart who) given = as_items (turn_entries state who given)
items_added state (event.Vanish who) given = vanish_marks state.shared who given
items_added state (event.Lose who) given = lose_marks state.shared who given

-- the trail after a step is the one before it and exactly that
abbrev pub AddsExactly : State → Event → Turn → Type 0
AddsExactly state event turn = turn.state.shared.trail ≡ state.shared.trail ++ items_added state event turn.answer

abbrev pub EachStepAddsExactly : Type 0
EachStepAddsExactly = (state : State) (event : Event) (outside : Outside) → InOrder state → AddsExactly state event (step state event outside)

-- so it is in each step of every run
abbrev pub EveryRunAddsExactly : Type 0
EveryRunAddsExactly =
    (vault : VaultState) (pages limit capacity : ℕ) (happenings : List Happening) → AllNameClients happenings → (event : Event) (outside : Outside)
    → AddsExactly (state_after (start vault pages limit capacity) happenings) event
    (step (state_after (start vault pages limit capacity) happenings) event outside)
