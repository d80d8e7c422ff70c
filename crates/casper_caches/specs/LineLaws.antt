use Rattle.std.specs.Prelude.{◌≡◌, ◌<◌, ◌≤◌, ℕ, List, [], ◌∷◌, Bool, true, false, length, ⊤}
use Rattle.std.specs.List.{list_all}
use Rattle.casper_words.specs.Crew.{IsClient}
use Rattle.casper_words.specs.declared.page.Right.TheVariants as may
use Rattle.casper_words.specs.declared.page.Want.{Want}
use Rattle.casper_space.specs.declared.answer.Answer.{Answer}
use Rattle.casper_space.specs.declared.answer.Answer.TheVariants as answer
use Rattle.casper_model.specs.declared.event.Event.{Event}
use Rattle.casper_model.specs.declared.event.Event.TheVariants as event
use Rattle.casper_model.specs.Held.{allows}
use Rattle.casper_model.specs.Outside.{Outside}
use Rattle.casper_model.specs.Own.{room_of}
use Rattle.casper_model.specs.Run.{Happening, answers_of}
use Rattle.casper_model.specs.State.{State, own_at, with_own}
use Rattle.casper_model.specs.Step.{step}
use Rattle.casper_model.specs.View.{value_seen}
use Rattle.casper_laws.specs.RunFacts.{AtEveryMoment}

-- What a call over a held page answers, and a line of such calls.

-- a step changed nothing but one client's own part
abbrev pub ChangesOnlyItsOwn : State → ℕ → State → Type 0
ChangesOnlyItsOwn state who after = after ≡ with_own state (own_at after who)

-- a read of a page that is held, where there is room for one call, gives what the client sees
abbrev pub MakesHeldReads : State → Type 0
MakesHeldReads state =
    (who page word : ℕ) (outside : Outside) → IsClient who → page < state.shared.pages → word < 512 → allows (own_at state who).held page may.Read ≡ true
    → 0 < room_of (own_at state who)
    → ((step state (event.Read who page word) outside).answer ≡ answer.Value (value_seen state who page word))
    × ChangesOnlyItsOwn state who (step state (event.Read who page word) outside).state

-- and a write of a page that is held for writing is made
abbrev pub MakesHeldWrites : State → Type 0
MakesHeldWrites state =
    (who page word value : ℕ) (outside : Outside) → IsClient who → page < state.shared.pages → word < 512
    → allows (own_at state who).held page may.Write ≡ true → 0 < room_of (own_at state who)
    → ((step state (event.Write who page word value) outside).answer ≡ answer.Ok)
    × ChangesOnlyItsOwn state who (step state (event.Write who page word value) outside).state

-- a call of a line: by its client, over a page that is wanted with the right
abbrev pub IsCallOver : ℕ → List Want → Event → Type 0
IsCallOver who wants (event.Read one page word) = (one ≡ who) × (allows wants page may.Read ≡ true) × (word < 512)
IsCallOver who wants (event.Write one page word value) = (one ≡ who) × (allows wants page may.Write ≡ true) × (word < 512)
IsCallOver who wants other = ⊥

-- a line is a list of such calls, whatever the outside does in their steps
abbrev pub IsLine : ℕ → List Want → List Happening → Type 0
IsLine who wants [] = ⊤
IsLine who wants (first ∷ following) = IsCallOver who wants first.event × IsLine who wants following

-- a call that was made gave a value, or is done
abbrev pub is_made : Answer → Bool
is_made (answer.Value value) = true
is_made answer.Ok = true
is_made other = false

-- after the pages of a heap line are granted each of its calls is made, up to 600 of them
abbrev pub MakesHeldLines : State → Type 0
MakesHeldLines state =
    (who : ℕ) (wants : List Want) (outside : Outside) (line : List Happening) → IsClient who
    → (step state (event.Hold who wants) outside).answer ≡ answer.Granted → length line ≤ 600 → IsLine who wants line
    → list_all is_made (answers_of (step state (event.Hold who wants) outside).state line) ≡ true

abbrev pub EachHeldReadIsMade : Type 0
EachHeldReadIsMade = AtEveryMoment MakesHeldReads

abbrev pub EachHeldWriteIsMade : Type 0
EachHeldWriteIsMade = AtEveryMoment MakesHeldWrites

abbrev pub EachHeldLineIsMade : Type 0
EachHeldLineIsMade = AtEveryMoment MakesHeldLines
