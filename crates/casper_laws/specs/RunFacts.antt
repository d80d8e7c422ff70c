use Rattle.std.specs.Prelude.{◌≡◌, ℕ, List, true, None, Some, Contains}
use Rattle.casper_words.specs.Crew.{has_member}
use Rattle.casper_words.specs.declared.page.Right.TheVariants as may
use Rattle.casper_trail.specs.declared.entry.Entry.{Entry}
use Rattle.casper_trail.specs.Value.{IsArray, writes_page}
use Rattle.casper_trail.specs.Parts.{open_entries}
use Rattle.casper_trail.specs.Clients.{AreOfClients}
use Rattle.casper_trail.specs.Association.{association_of}
use Rattle.casper_trail.specs.Image.{image_with}
use Rattle.casper_space.specs.Changes.{Change, with_changes}
use Rattle.casper_model.specs.Held.{allows}
use Rattle.casper_model.specs.Stabilisation.{Stabilisation}
use Rattle.casper_model.specs.Vault.{VaultState}
use Rattle.casper_model.specs.State.{State, own_at, start}
use Rattle.casper_model.specs.WriteOutStep.{busy_lead, changes_of}
use Rattle.casper_model.specs.Run.{Happening, state_after}
use Rattle.casper_model.specs.Rights.{AllNameClients}
use Rattle.casper_model.specs.LegalHistory.{HasHistory}
use Rattle.casper_laws.specs.OwnLists.{IsStanding}
use Rattle.casper_turns.specs.Noted.{NotedAreMembers, NotedAreUp}

-- a fact of states holds at every moment of every run, whatever the outside does
abbrev pub AtEveryMoment : (State → Type 0) → Type 0
AtEveryMoment Holds =
    (vault : VaultState) (pages limit capacity : ℕ) (happenings : List Happening) → AllNameClients happenings
    → Holds (state_after (start vault pages limit capacity) happenings)

-- a client that is live and not fallen holds a page, to read or to write it
abbrev pub HoldsPage : State → ℕ → ℕ → Type 0
HoldsPage state who page = IsStanding state who × (allows (own_at state who).held page may.Read ≡ true)

-- a client that holds a page with an open write is in the association of the write's client, which is in its own
abbrev pub HoldersAreWithWriters : State → Type 0
HoldersAreWithWriters state =
    (who page : ℕ) (write : Entry) → HoldsPage state who page → Contains (open_entries state.shared.trail) write → writes_page page write ≡ true
    → (has_member write.who (association_of state.shared.trail who) ≡ true) × (has_member who (association_of state.shared.trail write.who) ≡ true)

-- changes are those of the association of one lead, which has a stabilisation and whose write-out is unfinished or in
-- doubt, and they make of the vault's image that with this association
abbrev pub AreOfTheBusyLead : State → List Change → Type 0
AreOfTheBusyLead state changes =
    (one : Stabilisation) × Contains state.shared.stabilisations one × (busy_lead state ≡ Some one.lead) × (changes ≡ changes_of state one)
    × (with_changes state.vault.image changes ≡ image_with state.base state.shared.trail one.lead)

-- where the vault has a doubt, its changes are so
abbrev pub DoubtIsOfOneLead : State → Type 0
DoubtIsOfOneLead state = (changes : List Change) → state.vault.doubt ≡ Some changes → AreOfTheBusyLead state changes

-- the rights are in order, the marks exact, the trail legal, and each client good
abbrev pub EveryRunHasHistory : Type 0
EveryRunHasHistory = AtEveryMoment HasHistory

-- each holder of a page is in one association with the clients of its open writes
abbrev pub EveryHolderIsWithItsWriters : Type 0
EveryHolderIsWithItsWriters = AtEveryMoment HoldersAreWithWriters

-- each entry of the trail is of a client
abbrev pub EveryEntryIsOfAClient : Type 0
EveryEntryIsOfAClient = AtEveryMoment (λ state. AreOfClients state.shared.trail)

-- each loss that is noted is of a member of the association
abbrev pub EveryRunNotesMembers : Type 0
EveryRunNotesMembers =
    (vault : VaultState) (pages limit capacity : ℕ) (happenings : List Happening) → vault.doubt ≡ None → AllNameClients happenings
    → NotedAreMembers (state_after (start vault pages limit capacity) happenings).shared

-- and of one that is not fallen
abbrev pub EveryRunNotesTheUnfallen : Type 0
EveryRunNotesTheUnfallen =
    (vault : VaultState) (pages limit capacity : ℕ) (happenings : List Happening) → vault.doubt ≡ None → AllNameClients happenings
    → NotedAreUp (state_after (start vault pages limit capacity) happenings).shared

-- what is in doubt are the changes of one association
abbrev pub EveryDoubtIsOfOneLead : Type 0
EveryDoubtIsOfOneLead =
    (vault : VaultState) (pages limit capacity : ℕ) (happenings : List Happening) → IsArray pages vault.image → vault.doubt ≡ None → AllNameClients happenings
    → DoubtIsOfOneLead (state_after (start vault pages limit capacity) happenings)
