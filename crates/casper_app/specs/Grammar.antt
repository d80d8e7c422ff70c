use Rattle.std.specs.Prelude.{◌≡◌, ℕ, ◌^◌, ◌<◌, List, [], ◌∷◌, ◌++◌, Some, All, map, codes, ⊤}
use Rattle.std.specs.Fmt.{decimal}
use Rattle.casper_words.specs.Crew.{IsClient}
use Rattle.casper_words.specs.Wants.{AreWants}
use Rattle.casper_words.specs.declared.page.Right.{Right}
use Rattle.casper_words.specs.declared.page.Right.TheVariants as may
use Rattle.casper_words.specs.declared.page.Want.{Want}
use Rattle.casper_model.specs.declared.event.Event.{Event}
use Rattle.casper_model.specs.declared.event.Event.TheVariants as event
use Rattle.casper_app.specs.declared.schedule.Asked.{Asked}
use Rattle.casper_app.specs.declared.schedule.Asked.TheVariants as asked
use Rattle.casper_app.specs.Schedule.{event_of, asked_of}

abbrev pub right_text : Right → List ℕ
right_text may.Read = codes "r"
right_text may.Write = codes "w"

-- the word that writes a want: its page and its right, with a colon between them
abbrev pub want_text : Want → List ℕ
want_text want = decimal want.page ++ 58 ∷ right_text want.right

-- the words of the line that asks for an event, where such a line is built: no line asks for a hold yet
abbrev pub words_of_event : Event → List (List ℕ)
words_of_event (event.Join who) = codes "join" ∷ decimal who ∷ []
words_of_event (event.Read who page word) = codes "read" ∷ decimal who ∷ decimal page ∷ decimal word ∷ []
words_of_event (event.Write who page word value) = codes "write" ∷ decimal who ∷ decimal page ∷ decimal word ∷ decimal value ∷ []
words_of_event (event.Acquire who wants) = codes "acquire" ∷ decimal who ∷ map want_text wants
words_of_event (event.Serve who) = codes "serve" ∷ decimal who ∷ []
words_of_event (event.Depart who) = codes "depart" ∷ decimal who ∷ []
words_of_event (event.Hold who wants) = []
words_of_event (event.Stabilise who) = codes "stabilise" ∷ decimal who ∷ []
words_of_event (event.WriteOut lead) = codes "writeout" ∷ decimal lead ∷ []
words_of_event (event.Finish lead) = codes "finish" ∷ decimal lead ∷ []
words_of_event event.Settle = codes "settle" ∷ []
words_of_event (event.Vanish who) = codes "vanish" ∷ decimal who ∷ []
words_of_event (event.Lose who) = codes "lose" ∷ decimal who ∷ []

-- one to four wants, with pages strictly rising, each with a number below 2 ^ 32
abbrev pub AreAsked : List Want → Type 0
AreAsked wants = AreWants wants × All (λ want. want.page < 2 ^ 32) wants

-- an event that a built line may ask for: its numbers are in their ranges
abbrev pub IsEvent : Event → Type 0
IsEvent (event.Join who) = IsClient who
IsEvent (event.Read who page word) = IsClient who × (page < 2 ^ 32) × (word < 2 ^ 32)
IsEvent (event.Write who page word value) = IsClient who × (page < 2 ^ 32) × (word < 2 ^ 32) × (value < 2 ^ 64)
IsEvent (event.Acquire who wants) = IsClient who × AreAsked wants
IsEvent (event.Serve who) = IsClient who
IsEvent (event.Depart who) = IsClient who
IsEvent (event.Hold who wants) = ⊥
IsEvent (event.Stabilise who) = IsClient who
IsEvent (event.WriteOut lead) = IsClient lead
IsEvent (event.Finish lead) = IsClient lead
IsEvent event.Settle = ⊤
IsEvent (event.Vanish who) = IsClient who
IsEvent (event.Lose who) = IsClient who

-- the words of an event's line ask for that event
abbrev pub EventsAreReadBack : Type 0
EventsAreReadBack = (asked : Event) → IsEvent asked → event_of (words_of_event asked) ≡ Some asked

-- words that ask for an event are the words of its line, so that no others do
abbrev pub EventsHaveOneText : Type 0
EventsHaveOneText = (words : List (List ℕ)) (asked : Event) → event_of words ≡ Some asked → IsEvent asked × (words ≡ words_of_event asked)

-- the words of the line that asks for something: of an event, or of a reopen
abbrev pub words_of_asked : Asked → List (List ℕ)
words_of_asked (asked.Event event) = words_of_event event
words_of_asked asked.Reopen = codes "reopen" ∷ []

-- what a built line may ask for
abbrev pub IsAskable : Asked → Type 0
IsAskable (asked.Event event) = IsEvent event
IsAskable asked.Reopen = ⊤

-- the words of a line ask for what they are the words of
abbrev pub LinesAreReadBack : Type 0
LinesAreReadBack = (one : Asked) → IsAskable one → asked_of (words_of_asked one) ≡ Some one

-- words that ask for something are those of its line, so that no others do
abbrev pub LinesHaveOneText : Type 0
LinesHaveOneText = (words : List (List ℕ)) (one : Asked) → asked_of words ≡ Some one → IsAskable one × (words ≡ words_of_asked one)
