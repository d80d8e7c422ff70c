use Rattle.std.specs.Prelude.{◌≡◌, ℕ, List, Contains, None, Some}
use Rattle.casper_space.specs.Changes.{with_changes}
use Rattle.casper_trail.specs.declared.entry.Entry.{Entry}
use Rattle.casper_trail.specs.declared.item.Item.{Item}
use Rattle.casper_trail.specs.Cause.{IsClosedPart}
use Rattle.casper_trail.specs.Image.{array_of}
use Rattle.casper_trail.specs.Parts.{live_entries, stable_entries}
use Rattle.casper_trail.specs.Value.{IsArray}
use Rattle.casper_model.specs.Rights.{AllNameClients}
use Rattle.casper_model.specs.Run.{Happening, state_after}
use Rattle.casper_model.specs.Stabilisation.{Stabilisation}
use Rattle.casper_model.specs.State.{State}
use Rattle.casper_model.specs.Vault.{VaultState}
use Rattle.casper_model.specs.WriteOutStep.{job_of, busy_lead, changes_of}
use Rattle.casper_sessions.specs.Chain.{Limits, Session, IsChain, opened, vault_after}
use Rattle.casper_sessions.specs.Found.{Found, MayBeFound}
use Rattle.casper_sessions.specs.Moments.{Moment, Deciding, IsLeftAt, moment_of}

-- a fact of a state holds at every moment of every session over an array with nothing in doubt
abbrev pub AtEachMoment : (State → Type 0) → Type 0
AtEachMoment Holds =
    (limits : Limits) (vault : VaultState) (happenings : List Happening) → IsArray limits.pages vault.image → vault.doubt ≡ None
    → AllNameClients happenings → Holds (state_after (opened limits vault) happenings)

-- what may be found of the vault is what a stop leaves at that moment
abbrev pub FoundAsOfItsMoment : State → Type 0
FoundAsOfItsMoment state = (found : Found) → MayBeFound state.vault found → IsLeftAt (moment_of state) state.base state.shared.trail found.image

-- while a write-out runs, the vault has the image as it was or the one with its changes: both are what a stop leaves while the
-- write-out of its lead is undecided
pub record IsLeftWhileWriting (state : State) (one : Stabilisation) : Type 0 where
  pub before : IsLeftAt (Deciding one.lead) state.base state.shared.trail state.vault.image
  pub after : IsLeftAt (Deciding one.lead) state.base state.shared.trail (with_changes state.vault.image (changes_of state one))

abbrev pub WritesAsOfItsMoment : State → Type 0
WritesAsOfItsMoment state =
    (lead : ℕ) (one : Stabilisation) → job_of state lead ≡ Some one → busy_lead state ≡ None → IsLeftWhileWriting state one

-- an array is that of a part of the history that has every cause of what it has, and everything stable
pub record IsOfAClosedPart (base : List (List ℕ)) (trail : List Item) (array : List (List ℕ)) : Type 0 where
  pub part : List Entry
  pub closed : IsClosedPart part (live_entries trail)
  pub stable : (entry : Entry) → Contains (stable_entries trail) entry → Contains part entry
  pub is : array ≡ array_of base part

-- whatever the moment, what a stop leaves is the array of such a part
abbrev pub LeavesAClosedPart : State → Type 0
LeavesAClosedPart state =
    (moment : Moment) (array : List (List ℕ)) → IsLeftAt moment state.base state.shared.trail array
    → IsOfAClosedPart state.base state.shared.trail array

-- an opening finds what a stop leaves at that moment
abbrev pub EachStopIsOfItsMoment : Type 0
EachStopIsOfItsMoment = AtEachMoment FoundAsOfItsMoment

-- and so are the two images of a write-out that runs
abbrev pub EachWriteOutIsOfItsMoment : Type 0
EachWriteOutIsOfItsMoment = AtEachMoment WritesAsOfItsMoment

-- what a stop leaves is the array of a closed part with everything stable
abbrev pub EachStopLeavesAClosedPart : Type 0
EachStopLeavesAClosedPart = AtEachMoment LeavesAClosedPart

-- a session that ends finds the array of such a part
abbrev pub EachOpeningFindsAClosedPart : Type 0
EachOpeningFindsAClosedPart =
    AtEachMoment (λ state. (found : Found) → MayBeFound state.vault found → IsOfAClosedPart state.base state.shared.trail found.image)

-- a vault over which a session begins: its image is an array of so many pages, and nothing is in doubt
pub record IsOpenable (pages : ℕ) (vault : VaultState) : Type 0 where
  pub shape : IsArray pages vault.image
  pub sure : vault.doubt ≡ None

-- each session of a chain begins over such a vault, so what holds of every session holds of each of them
abbrev pub EachChainGoesOn : Type 0
EachChainGoesOn =
    (limits : Limits) (vault : VaultState) (sessions : List Session) → IsOpenable limits.pages vault → IsChain limits vault sessions
    → IsOpenable limits.pages (vault_after vault sessions)
