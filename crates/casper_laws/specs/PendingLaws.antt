use Rattle.std.specs.Prelude.{◌≡◌, ◌≤◌, ℕ, List, length, Option, None, Some, Contains, ⊤}
use Rattle.casper_words.specs.declared.call.Call.{Call}
use Rattle.casper_model.specs.declared.event.Event.{Event}
use Rattle.casper_model.specs.Outside.{Outside}
use Rattle.casper_model.specs.Client.{Client}
use Rattle.casper_model.specs.Own.{Own}
use Rattle.casper_model.specs.Shared.{client_at}
use Rattle.casper_model.specs.Vault.{VaultState}
use Rattle.casper_model.specs.State.{State, own_at, start}
use Rattle.casper_model.specs.Step.{step}
use Rattle.casper_model.specs.Run.{Happening, state_after}
use Rattle.casper_model.specs.Rights.{InOrder, NamesClients, AllNameClients}
use Rattle.casper_model.specs.LegalHistory.{CallIsHeld}

-- each client has at most 4,096 calls pending
abbrev pub ArePendingListsShort : State → Type 0
ArePendingListsShort state = (who : ℕ) → length (own_at state who).pending ≤ 4096

abbrev pub EachStepKeepsPendingListsShort : Type 0
EachStepKeepsPendingListsShort =
    (state : State) (event : Event) (outside : Outside) → NamesClients event → InOrder state → ArePendingListsShort state
    → ArePendingListsShort (step state event outside).state

abbrev pub EveryRunKeepsPendingListsShort : Type 0
EveryRunKeepsPendingListsShort =
    (vault : VaultState) (pages limit capacity : ℕ) (happenings : List Happening) → AllNameClients happenings
    → ArePendingListsShort (state_after (start vault pages limit capacity) happenings)

-- what is promised to a live client is what its own part has
abbrev pub HasTheCap : Option Client → Own → Type 0
HasTheCap None own = ⊤
HasTheCap (Some client) own = client.cap ≡ own.cap

abbrev pub EveryRunKeepsCapsInAgreement : Type 0
EveryRunKeepsCapsInAgreement =
    (vault : VaultState) (pages limit capacity : ℕ) (happenings : List Happening) → AllNameClients happenings → (who : ℕ)
    → HasTheCap (client_at (state_after (start vault pages limit capacity) happenings).shared who) (own_at (state_after (start vault pages limit capacity) happenings) who)

-- a live client that is not fallen has the right for each call that it has pending: to write for a write
abbrev pub EveryRunHasRightsForPendingCalls : Type 0
EveryRunHasRightsForPendingCalls =
    (vault : VaultState) (pages limit capacity : ℕ) (happenings : List Happening) → AllNameClients happenings → (who : ℕ) (client : Client) (call : Call)
    → client_at (state_after (start vault pages limit capacity) happenings).shared who ≡ Some client → client.fallen ≡ None
    → Contains (own_at (state_after (start vault pages limit capacity) happenings) who).pending call
    → CallIsHeld (own_at (state_after (start vault pages limit capacity) happenings) who).held call
