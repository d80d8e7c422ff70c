use Rattle.std.specs.Prelude.{◌≡◌, ◌≢◌, ℕ, List, [], ◌∷◌, length, true, Option, None, Some, ⊤}
use Rattle.casper_words.specs.Crew.{IsClient}
use Rattle.casper_words.specs.declared.page.Right.{Right}
use Rattle.casper_words.specs.declared.page.Right.TheVariants as may
use Rattle.casper_words.specs.declared.page.Want.{Want}
use Rattle.casper_model.specs.Held.{allows}
use Rattle.casper_model.specs.Client.{Client, Fallen}
use Rattle.casper_model.specs.Shared.{Shared, client_at, rights_at, fallen_at}
use Rattle.casper_model.specs.Own.{Own}
use Rattle.casper_model.specs.declared.event.Event.{Event}
use Rattle.casper_model.specs.declared.event.Event.TheVariants as event
use Rattle.casper_model.specs.Outside.{Outside}
use Rattle.casper_model.specs.Vault.{VaultState}
use Rattle.casper_model.specs.State.{State, own_at, start}
use Rattle.casper_model.specs.Step.{step}
use Rattle.casper_model.specs.Run.{Happening, state_after}

-- each page has one writer or many readers: a client that may write a page, and one that holds it, are one client
abbrev pub OneWriterOrReaders : Shared → Type 0
OneWriterOrReaders shared =
    (one other page : ℕ) → allows (rights_at shared one) page may.Write ≡ true → allows (rights_at shared other) page may.Read ≡ true → one ≡ other

-- two lists of held pages allow the same
abbrev pub AllowTheSame : List Want → List Want → Type 0
AllowTheSame rights held = (page : ℕ) (right : Right) → allows rights page right ≡ allows held page right

-- what is known to all of a client that is not fallen is what its own part has. A fallen one has no right and no ask
abbrev pub AgreesUnlessFallen : Client → Own → Option Fallen → Type 0
AgreesUnlessFallen client own None = (client.cap ≡ own.cap) × AllowTheSame client.rights own.held
AgreesUnlessFallen client own (Some fallen) = (client.cap ≡ own.cap) × (client.rights ≡ []) × (client.asks ≡ [])

-- what is known to all of a client agrees with its own part. An absent client has nothing
abbrev pub Agrees : Option Client → Own → Type 0
Agrees None own = (own.held ≡ []) × (own.pending ≡ [])
Agrees (Some client) own = AgreesUnlessFallen client own client.fallen

-- the places of a state are as many as there are numbers of clients, and nobody has the number 0
pub record IsShaped (state : State) : Type 0 where
  pub clients : length state.shared.clients ≡ 33
  pub owns : length state.owns ≡ 33
  pub nobody : client_at state.shared 0 ≡ None
  pub numbers : (who : ℕ) → (own_at state who).who ≡ who

-- the rights are those of the own parts, and each page has one writer or many readers
pub record HasRights (state : State) : Type 0 where
  pub agree : (who : ℕ) → Agrees (client_at state.shared who) (own_at state who)
  pub exclusive : OneWriterOrReaders state.shared

-- what holds as a turn of a live client begins: the places are as many as there are numbers, nobody has the number 0,
-- and the rights are in order
pub record TurnStands (shared : Shared) (own : Own) : Type 0 where
  pub client : Client
  pub live : client_at shared own.who ≡ Some client
  pub places : length shared.clients ≡ 33
  pub nobody : client_at shared 0 ≡ None
  pub agrees : Agrees (client_at shared own.who) own
  pub exclusive : OneWriterOrReaders shared

-- what a turn keeps: the other clients stay as they were, its own is not fallen, and the rights are in order
pub record TurnKeeps (shared : Shared) (own : Own) (after : Shared) (own_after : Own) : Type 0 where
  pub who : own_after.who ≡ own.who
  pub places : length after.clients ≡ 33
  pub others : (number : ℕ) → number ≢ own.who → client_at after number ≡ client_at shared number
  pub agrees : Agrees (client_at after own.who) own_after
  pub up : fallen_at after own.who ≡ None
  pub exclusive : OneWriterOrReaders after

-- what is no turn of a client leaves each client as it was, or makes it fall: it agrees with the own part that it agreed
-- with, and no client may do more than before
pub record Spares (shared after : Shared) : Type 0 where
  pub places : length after.clients ≡ length shared.clients
  pub nobody : client_at shared 0 ≡ None → client_at after 0 ≡ None
  pub agrees : (who : ℕ) (own : Own) → Agrees (client_at shared who) own → Agrees (client_at after who) own
  pub less : (who page : ℕ) (right : Right) → allows (rights_at after who) page right ≡ true → allows (rights_at shared who) page right ≡ true

-- what an event of a client keeps: the others as what is no turn of theirs leaves them, and its own part in agreement
pub record TurnSpares (shared : Shared) (own : Own) (after : Shared) (own_after : Own) : Type 0 where
  pub who : own_after.who ≡ own.who
  pub places : length after.clients ≡ 33
  pub nobody : client_at after 0 ≡ None
  pub others : (number : ℕ) (other : Own) → number ≢ own.who → Agrees (client_at shared number) other → Agrees (client_at after number) other
  pub agrees : Agrees (client_at after own.who) own_after
  pub exclusive : OneWriterOrReaders after

-- a state in which the rights are in order
pub record InOrder (state : State) : Type 0 where
  pub shaped : IsShaped state
  pub rights : HasRights state

-- whether the clients that an event names are clients
abbrev pub NamesClients : Event → Type 0
NamesClients (event.Join who) = IsClient who
NamesClients (event.Read who page word) = IsClient who
NamesClients (event.Write who page word value) = IsClient who
NamesClients (event.Acquire who wants) = IsClient who
NamesClients (event.Hold who wants) = IsClient who
NamesClients (event.Serve who) = IsClient who
NamesClients (event.Stabilise who) = IsClient who
NamesClients (event.WriteOut lead) = IsClient lead
NamesClients (event.Finish lead) = IsClient lead
NamesClients event.Settle = ⊤
NamesClients (event.Depart who) = IsClient who
NamesClients (event.Vanish who) = IsClient who
NamesClients (event.Lose who) = IsClient who

-- each of these events does
abbrev pub AllNameClients : List Happening → Type 0
AllNameClients [] = ⊤
AllNameClients (first ∷ following) = NamesClients first.event × AllNameClients following

-- a session begins in order, and each step keeps the rights in order
abbrev pub StartsInOrder : Type 0
StartsInOrder = (vault : VaultState) (pages limit capacity : ℕ) → InOrder (start vault pages limit capacity)

abbrev pub EachStepKeepsTheRights : Type 0
EachStepKeepsTheRights = (state : State) (event : Event) (outside : Outside) → NamesClients event → InOrder state → InOrder (step state event outside).state

-- at every moment of every run each page has one writer or many readers, and the rights are those of the own parts
abbrev pub EveryRunKeepsTheRights : Type 0
EveryRunKeepsTheRights =
    (vault : VaultState) (pages limit capacity : ℕ) (happenings : List Happening) → AllNameClients happenings
    → InOrder (state_after (start vault pages limit capacity) happenings)
