use Rattle.std.specs.Prelude.{◌≡◌, ℕ, ◌<◌, List, [], ◌∷◌, length, Option, None, Some}
use Rattle.casper_words.specs.declared.page.Right.TheVariants as may
use Rattle.casper_space.specs.declared.answer.Answer.{Answer}
use Rattle.casper_space.specs.declared.answer.Answer.TheVariants as answer
use Rattle.casper_cache.specs.Own as cache
use Rattle.casper_model.specs.declared.event.Event.{Event}
use Rattle.casper_model.specs.declared.event.Event.TheVariants as event
use Rattle.casper_model.specs.declared.outcome.Outcome.{Outcome}
use Rattle.casper_model.specs.declared.outcome.Outcome.TheVariants as outcome
use Rattle.casper_model.specs.Hits.{hit_read}
use Rattle.casper_model.specs.Outside.{NothingFailed}
use Rattle.casper_model.specs.State.{State, own_at}
use Rattle.casper_model.specs.CallStep.{call_step, hit_turn}
use Rattle.casper_model.specs.Stabilisation.{Stabilisation}
use Rattle.casper_model.specs.Step.{step, read_turn}
use Rattle.casper_model.specs.WriteOutStep.{job_of, busy_lead, write_out_step, written_out}
use Rattle.casper_model.specs.Turn.{Turn, of_live, within, is_in_range}
use Rattle.casper_hub.specs.HubView.{HubView}
use Rattle.casper_hub.specs.Owned.{own_of}
use Rattle.casper_hub.specs.Shows.{Shows}
use Rattle.casper_core.specs.Acting.{outside_of, outside_in, IsTurnResult}
use Rattle.casper_core.specs.ClientTurns.{client_turn}
use Rattle.casper_core.specs.CoreView.{CoreView, cache_at}
use Rattle.casper_core.specs.Represents.{own_part}

-- What holds over every vault, also one that tells nothing: each turn is the machine's, but that a read has the value that was answered,
-- and a write-out the outcome.

-- the turn of a read that was answered, with the value of that answer where it has one
abbrev pub read_with : ℕ → ℕ → ℕ → Answer → State → Turn
read_with who page word (answer.Value value) state =
    call_step state who (record { page = page; right = may.Read }) NothingFailed (λ after. hit_turn after (answer.Value value) (hit_read (own_at after who) page word value))
read_with who page word said state = read_turn who page word (outside_of said) state

-- the turn that an event of a client in which it keeps its cache is, where it was answered so
abbrev pub client_turn_with : ℕ → Event → Answer → State → Turn
client_turn_with who (event.Read one page word) said state = within (is_in_range page word) (read_with who page word said) state
client_turn_with who one said state = client_turn who one (outside_of said) state

-- how a write-out ended that was answered so, where the answer is one of a write-out that was made
abbrev pub outcome_told : Answer → Option Outcome
outcome_told (answer.Written version) = Some (outcome.Ok version)
outcome_told (answer.Full need free) = Some (outcome.Full need free)
outcome_told answer.Worn = Some outcome.Worn
outcome_told answer.Disk = Some outcome.Disk
outcome_told answer.Doubt = Some outcome.Doubt
outcome_told other = None

-- a write-out that is made and was answered, with the outcome of that answer where it has one
abbrev pub written_with : State → Answer → Stabilisation → Option Outcome → Turn
written_with state said one None = written_out state NothingFailed one None
written_with state said one (Some how) = record { answer = said; state = record state { unfinished = Some (record { lead = one.lead; outcome = how }) } }

-- and where another is unfinished or in doubt it is not made
abbrev pub written_unless : State → Answer → Stabilisation → Option ℕ → Turn
written_unless state said one None = written_with state said one (outcome_told said)
written_unless state said one (Some busy) = written_out state NothingFailed one (Some busy)

abbrev pub write_out_with : State → Answer → Option Stabilisation → Turn
write_out_with state said None = write_out_step state NothingFailed None
write_out_with state said (Some one) = written_unless state said one (busy_lead state)

-- the machine's step of an event that was answered, with the value of that answer where it is a read's, and with the outcome that it
-- tells where it is a write-out's
abbrev pub step_with : State → Event → Answer → Turn
step_with state (event.Read who page word) said = of_live who state (within (is_in_range page word) (read_with who page word said))
step_with state (event.WriteOut lead) said = write_out_with state said (job_of state lead)
step_with state other said = step state other (outside_in other said)

-- a state of the machine of which this hub and this cache of a client are parts, whatever the words
pub record IsShape (who : ℕ) (state : State) (hub : HubView) (own : cache.Own) : Type 0 where
  pub shared : Shows state.shared hub
  pub place : who < length state.owns
  pub part : own_at state who ≡ own_of own

-- from each state of which a hub and a client's cache are parts, the machine's turn gives this answer, hub and cache
abbrev pub RefinesTurnButValues : ℕ → (Answer → State → Turn) → HubView → cache.Own → Answer → HubView → cache.Own → Type 0
RefinesTurnButValues who turn hub own answer after own_after = (state : State) → IsShape who state hub own → IsTurnResult who state (turn answer state) answer after (own_of own_after)

-- the shared part, the own parts and the unfinished write-out of a core are those of a state of the machine; nothing is said of words, or
-- of what the vault tells
pub record RepresentsButWords {V : Type 0} (state : State) (core : CoreView V) : Type 0 where
  pub shared : Shows state.shared core.hub
  pub places : length state.owns ≡ 33
  pub owns : (who : ℕ) → who < 33 → own_at state who ≡ own_part core.capacity who (cache_at core who)
  pub unfinished : state.unfinished ≡ core.unfinished

-- the answer to an event is that of the machine's step, and the core after it has the shape of the state after it
pub record IsMade {V : Type 0} (state : State) (event : Event) (answer : Answer) (after : CoreView V) : Type 0 where
  pub answers : answer ≡ (step_with state event answer).answer
  pub shape : RepresentsButWords (step_with state event answer).state after

-- so it is from each state whose shape the core had
abbrev pub StepsInShape : {V : Type 0} → Event → Answer → CoreView V → CoreView V → Type 0
StepsInShape event answer core after = (state : State) → RepresentsButWords state core → IsMade state event answer after

-- the state after the first of some events, which were answered so
abbrev pub state_with : State → List Event → List Answer → State
state_with state events [] = state
state_with state [] (answer ∷ said) = state
state_with state (event ∷ events) (answer ∷ said) = state_with (step_with state event answer).state events said

-- the machine's answers to them
abbrev pub answers_with : State → List Event → List Answer → List Answer
answers_with state events [] = []
answers_with state [] (answer ∷ said) = []
answers_with state (event ∷ events) (answer ∷ said) =
    let turn = step_with state event answer in
    turn.answer ∷ answers_with turn.state events said

-- the answers to the first of some events are those of the machine, and the core after them has the shape of the state after them
pub record IsRunMade {V : Type 0} (state : State) (events : List Event) (said : List Answer) (after : CoreView V) : Type 0 where
  pub answers : said ≡ answers_with state events said
  pub shape : RepresentsButWords (state_with state events said) after

-- so it is from each state whose shape the core had
abbrev pub RunsInShape : {V : Type 0} → List Event → List Answer → CoreView V → CoreView V → Type 0
RunsInShape events said core after = (state : State) → RepresentsButWords state core → IsRunMade state events said after
