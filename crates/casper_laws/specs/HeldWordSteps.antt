use Rattle.std.specs.Prelude.{◌≡◌, ℕ, List, Bool, true, false, ◌&&◌, ◌==◌, None, Some}
use Rattle.casper_words.specs.Crew.{IsClient}
use Rattle.casper_space.specs.declared.answer.Answer.{Answer}
use Rattle.casper_space.specs.declared.answer.Answer.TheVariants as answer
use Rattle.casper_model.specs.declared.event.Event.{Event}
use Rattle.casper_model.specs.declared.event.Event.TheVariants as event
use Rattle.casper_model.specs.Outside.{Outside}
use Rattle.casper_model.specs.Client.{Fallen}
use Rattle.casper_model.specs.Run.{Happening, state_after}
use Rattle.casper_model.specs.Shared.{fallen_at}
use Rattle.casper_model.specs.State.{State, own_at, start}
use Rattle.casper_model.specs.Vault.{VaultState}
use Rattle.casper_model.specs.View.{value_seen}
use Rattle.casper_model.specs.Turn.{Turn}
use Rattle.casper_model.specs.Step.{step}
use Rattle.casper_model.specs.Rights.{NamesClients, AllNameClients}
use Rattle.casper_laws.specs.OwnLists.{IsStanding}
use Rattle.casper_laws.specs.RunFacts.{AtEveryMoment, HoldsPage}

-- What steps leave of the words that a client sees in the pages that it holds.

-- a fact of a state, an event, and the turn that the step of the event gives holds in each step of every run
abbrev pub InEveryStep : (State → Event → Turn → Type 0) → Type 0
InEveryStep Holds = AtEveryMoment (λ state. (event : Event) (outside : Outside) → NamesClients event → Holds state event (step state event outside))

-- whether an event is a turn of this client
abbrev pub is_turn_of : ℕ → Event → Bool
is_turn_of who (event.Join one) = one == who
is_turn_of who (event.Read one page word) = one == who
is_turn_of who (event.Write one page word value) = one == who
is_turn_of who (event.Acquire one wants) = one == who
is_turn_of who (event.Hold one wants) = one == who
is_turn_of who (event.Serve one) = one == who
is_turn_of who (event.Stabilise one) = one == who
is_turn_of who (event.WriteOut lead) = false
is_turn_of who (event.Finish lead) = false
is_turn_of who event.Settle = false
is_turn_of who (event.Depart one) = one == who
is_turn_of who (event.Vanish one) = one == who
is_turn_of who (event.Lose one) = false

-- whether it is a write of this word by this client
abbrev pub is_write_of_word : ℕ → ℕ → ℕ → Event → Bool
is_write_of_word who page word (event.Write one at place value) = (one == who) && ((at == page) && (place == word))
is_write_of_word who page word other = false

abbrev pub is_ok : Answer → Bool
is_ok answer.Ok = true
is_ok other = false

-- what others do leaves a client's own part: the pages that it holds, and its pending calls
abbrev pub OthersLeaveOwnParts : State → Event → Turn → Type 0
OthersLeaveOwnParts state event turn = (who : ℕ) → is_turn_of who event ≡ false → own_at turn.state who ≡ own_at state who

-- a client that is live and not fallen before and after a step sees in each page that it held the words that it saw,
-- but for a word that the step wrote for it
abbrev pub KeepsHeldWords : State → Event → Turn → Type 0
KeepsHeldWords state event turn =
    (who page word : ℕ) → (is_write_of_word who page word event && is_ok turn.answer) ≡ false → HoldsPage state who page → IsStanding turn.state who
    → value_seen turn.state who page word ≡ value_seen state who page word

-- so what others do leaves the words of the pages that it holds
abbrev pub OthersLeaveHeldWords : State → Event → Turn → Type 0
OthersLeaveHeldWords state event turn =
    (who page word : ℕ) → is_turn_of who event ≡ false → HoldsPage state who page → IsStanding turn.state who
    → HoldsPage turn.state who page × (value_seen turn.state who page word ≡ value_seen state who page word)

-- a client that is fallen after a step that is no turn of it sees each word as it saw it before, and if it was fallen
-- before, then by the same mark
abbrev pub TheFallenSeeTheSame : State → Event → Turn → Type 0
TheFallenSeeTheSame state event turn =
    (who : ℕ) (fallen : Fallen) → is_turn_of who event ≡ false → fallen_at turn.state.shared who ≡ Some fallen
    → ((page word : ℕ) → value_seen turn.state who page word ≡ value_seen state who page word)
    × ((before : Fallen) → fallen_at state.shared who ≡ Some before → fallen ≡ before)

-- a read that is answered a value gives the one that its client sees
abbrev pub ReadsWhatIsSeen : State → Type 0
ReadsWhatIsSeen state =
    (who page word value : ℕ) (outside : Outside) → IsClient who → (step state (event.Read who page word) outside).answer ≡ answer.Value value
    → value_seen (step state (event.Read who page word) outside).state who page word ≡ value

-- a write that is answered Ok is seen by its client
abbrev pub WritesAreSeen : State → Type 0
WritesAreSeen state =
    (who page word value : ℕ) (outside : Outside) → IsClient who → (step state (event.Write who page word value) outside).answer ≡ answer.Ok
    → value_seen (step state (event.Write who page word value) outside).state who page word ≡ value

-- so it is in each step of every run
abbrev pub OthersLeaveEachOwnPart : Type 0
OthersLeaveEachOwnPart = InEveryStep OthersLeaveOwnParts

abbrev pub EveryStepKeepsHeldWords : Type 0
EveryStepKeepsHeldWords = InEveryStep KeepsHeldWords

abbrev pub OthersLeaveEachHeldWord : Type 0
OthersLeaveEachHeldWord = InEveryStep OthersLeaveHeldWords

abbrev pub EveryReadIsOfWhatIsSeen : Type 0
EveryReadIsOfWhatIsSeen = AtEveryMoment ReadsWhatIsSeen

abbrev pub EveryWriteIsSeen : Type 0
EveryWriteIsSeen = AtEveryMoment WritesAreSeen

-- neither a fall nor what others do after it changes what a client sees, until a turn of its own tells it
abbrev pub TheFallenSeeOn : Type 0
TheFallenSeeOn =
    (vault : VaultState) (pages limit capacity : ℕ) (happenings : List Happening) → vault.doubt ≡ None → AllNameClients happenings → (event : Event) (outside : Outside)
    → NamesClients event
    → TheFallenSeeTheSame (state_after (start vault pages limit capacity) happenings) event (step (state_after (start vault pages limit capacity) happenings) event outside)
