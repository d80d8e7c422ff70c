use Rattle.std.specs.Prelude.{◌≡◌, ◌≤◌, ℕ, List, [], Bool, true, false, ◌&&◌, Some}
use Rattle.casper_words.specs.Crew.{IsClient}
use Rattle.casper_words.specs.declared.page.Want.{Want}
use Rattle.casper_space.specs.declared.answer.Answer.{Answer}
use Rattle.casper_space.specs.declared.answer.Answer.TheVariants as answer
use Rattle.casper_model.specs.declared.event.Event.{Event}
use Rattle.casper_model.specs.declared.event.Event.TheVariants as event
use Rattle.casper_model.specs.Acquire.{blocked_of}
use Rattle.casper_model.specs.CallStep.{acquire_step}
use Rattle.casper_model.specs.Client.{Client}
use Rattle.casper_model.specs.Opening.{given_in_opening}
use Rattle.casper_model.specs.Outside.{Outside}
use Rattle.casper_model.specs.Room.{most_cap}
use Rattle.casper_model.specs.Shared.{client_at, asks_at, fallen_at, is_live}
use Rattle.casper_model.specs.State.{State, own_at}
use Rattle.casper_model.specs.Turn.{Turn}
use Rattle.casper_laws.specs.HeldWordSteps.{is_turn_of}
use Rattle.casper_answers.specs.Sessions.{AtEachMoment, InEachStep}
use Rattle.casper_answers.specs.Acknowledgement.{is_leave_of}
use Rattle.casper_answers.specs.AcquireCauses.{lacking}

-- What a step leaves.

-- a client that left, and one that vanished, is absent
abbrev pub is_gone : Answer → Bool
is_gone answer.Left = true
is_gone (answer.VanishLost mark unrecorded) = true
is_gone (answer.VanishNoted lead unrecorded) = true
is_gone other = false

abbrev pub LeavesAbsent : State → Event → Outside → Turn → Type 0
LeavesAbsent state event outside turn = (who : ℕ) → is_leave_of who event ≡ true → is_gone turn.answer ≡ true → is_live turn.state.shared who ≡ false

-- who is live stays so, unless it leaves
abbrev pub StaysLive : State → Event → Outside → Turn → Type 0
StaysLive state event outside turn =
    (who : ℕ) → is_live state.shared who ≡ true → (is_leave_of who event && is_gone turn.answer) ≡ false → is_live turn.state.shared who ≡ true

-- after an acquire that is pending the asks of its client are exactly the wants that others stand in the way of
abbrev pub AsksForTheBlocked : State → Type 0
AsksForTheBlocked state =
    (who : ℕ) (blockers : List ℕ) (wants : List Want) (calls : ℕ) (outside : Outside) → IsClient who → is_live state.shared who ≡ true
    → (acquire_step state who wants calls outside).answer ≡ answer.Pending blockers
    → asks_at (acquire_step state who wants calls outside).state.shared who
    ≡ blocked_of (acquire_step state who wants calls outside).state.shared who (given_in_opening state.shared (own_at state who))
    (lacking (acquire_step state who wants calls outside).state who wants)

-- after any other, but one that met a failed disk, it has no ask
abbrev pub asks_none : Answer → Bool
asks_none (answer.Pending blockers) = false
asks_none answer.Disk = false
asks_none other = true

abbrev pub AsksEndWithAnyOther : State → Type 0
AsksEndWithAnyOther state =
    (who : ℕ) (wants : List Want) (calls : ℕ) (outside : Outside) → IsClient who → is_live state.shared who ≡ true
    → asks_none (acquire_step state who wants calls outside).answer ≡ true → asks_at (acquire_step state who wants calls outside).state.shared who ≡ []

-- what others do leaves the asks of a client, unless it falls
abbrev pub OthersLeaveTheAsks : State → Event → Outside → Turn → Type 0
OthersLeaveTheAsks state event outside turn =
    (who : ℕ) → is_turn_of who event ≡ false → fallen_at turn.state.shared who ≡ fallen_at state.shared who
    → asks_at turn.state.shared who ≡ asks_at state.shared who

-- whether an event may change the vault
abbrev pub may_change_vault : Event → Bool
may_change_vault (event.WriteOut lead) = true
may_change_vault event.Settle = true
may_change_vault other = false

abbrev pub LeavesTheVault : State → Event → Outside → Turn → Type 0
LeavesTheVault state event outside turn = may_change_vault event ≡ false → turn.state.vault ≡ state.vault

-- at most 4,100 entries are promised to a client
abbrev pub CapsAreAtMost : State → Type 0
CapsAreAtMost state = (who : ℕ) (client : Client) → client_at state.shared who ≡ Some client → client.cap ≤ most_cap

abbrev pub EachLeftClientIsAbsent : Type 0
EachLeftClientIsAbsent = InEachStep LeavesAbsent

abbrev pub EachLiveClientStays : Type 0
EachLiveClientStays = InEachStep StaysLive

abbrev pub EachPendingAcquireAsks : Type 0
EachPendingAcquireAsks = AtEachMoment AsksForTheBlocked

abbrev pub EachOtherAcquireAsksNothing : Type 0
EachOtherAcquireAsksNothing = AtEachMoment AsksEndWithAnyOther

abbrev pub EachAskIsLeftByOthers : Type 0
EachAskIsLeftByOthers = InEachStep OthersLeaveTheAsks

abbrev pub EachVaultIsLeft : Type 0
EachVaultIsLeft = InEachStep LeavesTheVault

abbrev pub EachCapIsAtMost : Type 0
EachCapIsAtMost = AtEachMoment CapsAreAtMost
