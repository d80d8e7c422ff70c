use Rattle.std.specs.Prelude.{◌≡◌, ℕ, List, [], ◌∷◌, ◌++◌}
use Rattle.casper_words.specs.declared.call.Call.{Call}
use Rattle.casper_words.specs.declared.page.Want.{Want}
use Rattle.casper_trail.specs.declared.item.Item.{Item}
use Rattle.casper_trail.specs.declared.item.Item.TheVariants as item
use Rattle.casper_trail.specs.declared.mark.Mark.{Mark}
use Rattle.casper_trail.specs.Marks.{IsExactMark}
use Rattle.casper_trail.specs.Parts.{as_items}
use Rattle.casper_trail.specs.Calls.{entries_by}
use Rattle.casper_model.specs.declared.event.Event.{Event}
use Rattle.casper_model.specs.declared.event.Event.TheVariants as event
use Rattle.casper_model.specs.Outside.{Outside}
use Rattle.casper_model.specs.Own.{Own}
use Rattle.casper_model.specs.Shared.{Shared}
use Rattle.casper_model.specs.Both.{Turned}
use Rattle.casper_model.specs.Acquire.{acquire, touches_by}
use Rattle.casper_model.specs.Stabilise.{stabilise}
use Rattle.casper_model.specs.Leave.{serve, depart}
use Rattle.casper_model.specs.State.{State, own_at}
use Rattle.casper_model.specs.Step.{step}

-- what a turn of a client may add to a trail: nothing; its pending calls, in order; these and then touches of its own
pub data AddsOwn (who : ℕ) (pending : List Call) (before : List Item) : List Item → Type 0 where
  nothing : AddsOwn who pending before before
  calls : AddsOwn who pending before (before ++ as_items (entries_by who pending))
  touches : (wants : List Want) → AddsOwn who pending before (before ++ as_items (entries_by who pending) ++ as_items (touches_by who wants))

-- what is no turn of a client that records its calls may add: nothing, or one exact mark
pub data AddsMark (before : List Item) : List Item → Type 0 where
  nothing : AddsMark before before
  mark : (mark : Mark) → IsExactMark before mark → AddsMark before (before ++ item.Mark mark ∷ [])

-- a turn adds the pending calls of its client and touches of its own alone
abbrev pub TurnAddsOwn : {R : Type 0} → (Shared → Own → Turned R) → Type 0
TurnAddsOwn turn = (shared : Shared) (own : Own) → AddsOwn own.who own.pending shared.trail (turn shared own).shared.trail

abbrev pub AcquireAddsOwn : Type 0
AcquireAddsOwn = (wants : List Want) (calls : ℕ) → TurnAddsOwn (λ shared own. acquire shared own wants calls)

abbrev pub ServeAddsOwn : Type 0
ServeAddsOwn = TurnAddsOwn serve

abbrev pub StabiliseAddsOwn : Type 0
StabiliseAddsOwn = TurnAddsOwn stabilise

abbrev pub DepartAddsOwn : Type 0
DepartAddsOwn = TurnAddsOwn depart

-- what a step of an event may add to the trail of a state
abbrev pub StepAdds : State → Event → List Item → Type 0
StepAdds state (event.Join who) after = after ≡ state.shared.trail
StepAdds state (event.Read who page word) after = AddsOwn (own_at state who).who (own_at state who).pending state.shared.trail after
StepAdds state (event.Write who page word value) after = AddsOwn (own_at state who).who (own_at state who).pending state.shared.trail after
StepAdds state (event.Acquire who wants) after = AddsOwn (own_at state who).who (own_at state who).pending state.shared.trail after
StepAdds state (event.Hold who wants) after = AddsOwn (own_at state who).who (own_at state who).pending state.shared.trail after
StepAdds state (event.Serve who) after = AddsOwn (own_at state who).who (own_at state who).pending state.shared.trail after
StepAdds state (event.Stabilise who) after = AddsOwn (own_at state who).who (own_at state who).pending state.shared.trail after
StepAdds state (event.WriteOut lead) after = after ≡ state.shared.trail
StepAdds state (event.Finish lead) after = AddsMark state.shared.trail after
StepAdds state event.Settle after = AddsMark state.shared.trail after
StepAdds state (event.Depart who) after = AddsOwn (own_at state who).who (own_at state who).pending state.shared.trail after
StepAdds state (event.Vanish who) after = AddsMark state.shared.trail after
StepAdds state (event.Lose who) after = AddsMark state.shared.trail after

-- each step extends the trail, and its new entries are the pending calls and touches of the acting client alone
abbrev pub EachStepExtendsTheTrail : Type 0
EachStepExtendsTheTrail = (state : State) (event : Event) (outside : Outside) → StepAdds state event (step state event outside).state.shared.trail
