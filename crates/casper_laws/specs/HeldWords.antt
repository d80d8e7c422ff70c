use Rattle.std.specs.Prelude.{◌≡◌, ℕ, List, ◌++◌, true, false, Contains}
use Rattle.casper_words.specs.declared.call.Call.{Call}
use Rattle.casper_words.specs.declared.page.Right.TheVariants as may
use Rattle.casper_trail.specs.Value.{is_write, value_of}
use Rattle.casper_trail.specs.Parts.{live_entries}
use Rattle.casper_trail.specs.Calls.{entries_by}
use Rattle.casper_model.specs.Held.{allows}
use Rattle.casper_model.specs.Vault.{VaultState}
use Rattle.casper_model.specs.State.{State, own_at, start}
use Rattle.casper_model.specs.View.{value_seen}
use Rattle.casper_model.specs.Run.{Happening, state_after}
use Rattle.casper_laws.specs.OwnLists.{IsStanding}
use Rattle.casper_laws.specs.RunFacts.{AtEveryMoment, HoldsPage}

-- What a client sees in the pages that it holds. The words are those of a plain array after a list of writes.

-- a client that is live and not fallen sees the array after the live entries and its own pending calls
abbrev pub SeesLiveAndOwn : State → Type 0
SeesLiveAndOwn state =
    (who page word : ℕ) → IsStanding state who
    → value_seen state who page word ≡ value_of state.base (live_entries state.shared.trail ++ entries_by who (own_at state who).pending) page word

-- in a page that it may not write it sees the array after the live entries alone
abbrev pub SeesLiveWords : State → Type 0
SeesLiveWords state =
    (who page word : ℕ) → IsStanding state who → allows (own_at state who).held page may.Write ≡ false
    → value_seen state who page word ≡ value_of state.base (live_entries state.shared.trail) page word

-- a page on which a client has a write pending is held by no other
abbrev pub PendingWritesAreAlone : State → Type 0
PendingWritesAreAlone state =
    (who other : ℕ) (call : Call) → IsStanding state who → Contains (own_at state who).pending call → is_write call.op ≡ true → HoldsPage state other call.page
    → other ≡ who

-- all clients that hold a page see the same words in it
abbrev pub HoldersSeeTheSame : State → Type 0
HoldersSeeTheSame state =
    (one other page word : ℕ) → HoldsPage state one page → HoldsPage state other page → value_seen state one page word ≡ value_seen state other page word

-- the array is the one that the session found, all the time
abbrev pub EveryRunKeepsItsArray : Type 0
EveryRunKeepsItsArray =
    (vault : VaultState) (pages limit capacity : ℕ) (happenings : List Happening)
    → (state_after (start vault pages limit capacity) happenings).base ≡ vault.image

-- so it is at every moment of every run
abbrev pub EveryRunShowsLiveAndOwn : Type 0
EveryRunShowsLiveAndOwn = AtEveryMoment SeesLiveAndOwn

abbrev pub EveryRunShowsLiveWords : Type 0
EveryRunShowsLiveWords = AtEveryMoment SeesLiveWords

abbrev pub EveryPendingWriteIsAlone : Type 0
EveryPendingWriteIsAlone = AtEveryMoment PendingWritesAreAlone

abbrev pub EveryRunShowsHoldersTheSame : Type 0
EveryRunShowsHoldersTheSame = AtEveryMoment HoldersSeeTheSame
