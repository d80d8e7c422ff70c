use Rattle.std.specs.Prelude.{◌≡◌, ℕ, ◌+◌, ◌-◌, ◌^◌, ◌≤◌, min, cond, List, [], ◌∷◌, Bool, true, false, IsTrue, Contains, ⊤}
use Rattle.casper_space.specs.declared.answer.Answer.{Answer}
use Rattle.casper_space.specs.declared.answer.Answer.TheVariants as answer
use Rattle.casper_trail.specs.Legal.{IsLegal}
use Rattle.casper_model.specs.declared.event.Event.{Event}
use Rattle.casper_model.specs.declared.event.Event.TheVariants as event
use Rattle.casper_model.specs.State.{State}
use Rattle.casper_model.specs.Step.{step}
use Rattle.casper_model.specs.Run.{Happening, fits, all_fit, answers_of, state_after}
use Rattle.casper_model.specs.WholeHistory.{whole_of}
use Rattle.casper_core.specs.Acting.{outside_in}
use Rattle.casper_core.specs.CoreView.{CoreView}
use Rattle.casper_core.specs.Loading.{OnlyLoads}
use Rattle.casper_core.specs.Represents.{Represents}

-- an event for which there is a step as yet
abbrev pub IsBuilt : Event → Type 0
IsBuilt (event.Join who) = ⊤
IsBuilt (event.Read who page word) = ⊤
IsBuilt (event.Write who page word value) = ⊤
IsBuilt (event.Acquire who wants) = ⊤
IsBuilt (event.Hold who wants) = ⊥
IsBuilt (event.Serve who) = ⊤
IsBuilt (event.Stabilise who) = ⊤
IsBuilt (event.WriteOut lead) = ⊤
IsBuilt (event.Finish lead) = ⊤
IsBuilt event.Settle = ⊤
IsBuilt (event.Depart who) = ⊤
IsBuilt (event.Vanish who) = ⊤
IsBuilt (event.Lose who) = ⊤

-- an event whose step writes nothing to the vault
abbrev pub IsReadOnly : Event → Type 0
IsReadOnly (event.WriteOut lead) = ⊥
IsReadOnly event.Settle = ⊥
IsReadOnly other = ⊤

-- of a write-out this is said
abbrev pub IfWrittenOut : Event → Type 0 → Type 0
IfWrittenOut (event.WriteOut lead) it = it
IfWrittenOut other it = ⊤

-- an event, and what the outside did as its answer tells it
abbrev pub happening_of : Event → Answer → Happening
happening_of event answer = record { event = event; outside = outside_in event answer }

-- the answer to an event is that of the machine's step, and the core after it stands for the state after it
pub record IsAnswered {V : Type 0} (state : State) (event : Event) (answer : Answer) (after : CoreView V) : Type 0 where
  pub outside_fits : IsTrue (fits state (happening_of event answer))
  pub answers : answer ≡ (step state event (outside_in event answer)).answer
  pub stands : Represents (step state event (outside_in event answer)).state after

-- so it is from each state that the core stood for
abbrev pub Steps : {V : Type 0} → Event → Answer → CoreView V → CoreView V → Type 0
Steps event answer core after = (state : State) → Represents state core → IsAnswered state event answer after

-- nothing of the state has changed, but the server may have got frames
pub record IsUnchanged {V : Type 0} (core after : CoreView V) : Type 0 where
  pub hub : OnlyLoads core.hub after.hub
  pub caches : after.caches ≡ core.caches
  pub capacity : after.capacity ≡ core.capacity
  pub unfinished : after.unfinished ≡ core.unfinished
  pub calls : after.calls ≡ core.calls

-- whether an answer says that a call was completed
abbrev pub completes : Event → Answer → Bool
completes (event.Read who page word) (answer.Value value) = true
completes (event.Write who page word value) answer.Ok = true
completes other answer = false

-- the calls completed, of which no more are counted than a number of 64 bits tells
abbrev pub counted : Bool → ℕ → ℕ
counted true calls = min (calls + 1) (2 ^ 64 - 1)
counted false calls = calls

-- the trail is legal, and so it is with all pending calls after it
pub record HasLegalTrail {V : Type 0} (state : State) (core : CoreView V) : Type 0 where
  pub trail : IsLegal state.base core.hub.trail
  pub whole : IsLegal state.base (whole_of state)

-- events, and what the outside did in the step of each, as the answers tell it
abbrev pub happenings_of : List Event → List Answer → List Happening
happenings_of events [] = []
happenings_of [] (answer ∷ said) = []
happenings_of (event ∷ events) (answer ∷ said) = happening_of event answer ∷ happenings_of events said

-- the answers to the first of some events are those of the machine, and the core after them stands for the state after them
pub record IsRun {V : Type 0} (state : State) (events : List Event) (said : List Answer) (after : CoreView V) : Type 0 where
  pub outside_fits : IsTrue (all_fit state (happenings_of events said))
  pub answers : said ≡ answers_of state (happenings_of events said)
  pub stands : Represents (state_after state (happenings_of events said)) after

-- so it is from each state that the core stood for
abbrev pub Runs : {V : Type 0} → List Event → List Answer → CoreView V → CoreView V → Type 0
Runs events said core after = (state : State) → Represents state core → IsRun state events said after

-- how many calls were completed, by the answers to the first of some events
abbrev pub completed_in : List Event → List Answer → ℕ
completed_in events [] = 0
completed_in [] (answer ∷ said) = 0
completed_in (event ∷ events) (answer ∷ said) = cond (completes event answer) 1 0 + completed_in events said

-- whether an answer tells of a fault of the disk
abbrev pub is_fault : Answer → Bool
is_fault answer.Disk = true
is_fault answer.Doubt = true
is_fault other = false

-- how many of these answers tell of one
abbrev pub failures_in : List Answer → ℕ
failures_in [] = 0
failures_in (answer ∷ said) = cond (is_fault answer) 1 0 + failures_in said

-- a count of faults rose by so many at least, or stands at the end of its type
abbrev pub RoseBy : ℕ → ℕ → ℕ → Type 0
RoseBy count before now = min (before + count) (2 ^ 64 - 1) ≤ now

-- none of these events writes to the vault
abbrev pub AreReadOnly : List Event → Type 0
AreReadOnly events = (event : Event) → Contains events event → IsReadOnly event

-- each of these events is built
abbrev pub AreBuilt : List Event → Type 0
AreBuilt events = (event : Event) → Contains events event → IsBuilt event
