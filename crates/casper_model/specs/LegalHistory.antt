use Rattle.std.specs.Prelude.{◌≡◌, ℕ, List, true, Option, None, Some, Contains, ⊤}
use Rattle.casper_words.specs.declared.call.Op.{Op}
use Rattle.casper_words.specs.declared.call.Op.TheVariants as op
use Rattle.casper_words.specs.declared.call.Call.{Call}
use Rattle.casper_words.specs.declared.page.Right.{Right}
use Rattle.casper_words.specs.declared.page.Right.TheVariants as may
use Rattle.casper_words.specs.declared.page.Want.{Want}
use Rattle.casper_trail.specs.declared.item.Item.{Item}
use Rattle.casper_trail.specs.Parts.{live_entries}
use Rattle.casper_trail.specs.Calls.{entries_by}
use Rattle.casper_trail.specs.Legal.{IsLegal, AreRightAfter}
use Rattle.casper_trail.specs.GrowthLaws.{WritersAreWith}
use Rattle.casper_model.specs.Held.{allows}
use Rattle.casper_model.specs.Client.{Client, Fallen}
use Rattle.casper_model.specs.Own.{Own}
use Rattle.casper_model.specs.Shared.{client_at}
use Rattle.casper_model.specs.declared.event.Event.{Event}
use Rattle.casper_model.specs.Outside.{Outside}
use Rattle.casper_model.specs.Vault.{VaultState}
use Rattle.casper_model.specs.State.{State, own_at, start}
use Rattle.casper_model.specs.Step.{step}
use Rattle.casper_model.specs.Run.{Happening, state_after}
use Rattle.casper_model.specs.Rights.{InOrder, NamesClients, AllNameClients}
use Rattle.casper_model.specs.ExactHistory.{IsExact}

-- the right that a call needs
abbrev pub right_for : Op → Right
right_for op.Read = may.Read
right_for op.Write = may.Write
right_for op.Touch = may.Read

-- a call's page is held with the right that it needs
abbrev pub CallIsHeld : List Want → Call → Type 0
CallIsHeld held call = allows held call.page (right_for call.op) ≡ true

-- a client that is not fallen: its pending calls have their rights, and each of its pending reads has the word's value
-- over the live entries and the calls before it; and the open writes of a page that it holds are of its association
pub record IsGoodNow (base : List (List ℕ)) (trail : List Item) (own : Own) : Type 0 where
  pub held : (call : Call) → Contains own.pending call → CallIsHeld own.held call
  pub right : AreRightAfter base (live_entries trail) (entries_by own.who own.pending)
  pub writers : (page : ℕ) → allows own.held page may.Read ≡ true → WritersAreWith trail page own.who

abbrev pub IsGoodUnlessFallen : List (List ℕ) → List Item → Own → Option Fallen → Type 0
IsGoodUnlessFallen base trail own None = IsGoodNow base trail own
IsGoodUnlessFallen base trail own (Some fallen) = ⊤

abbrev pub IsGood : List (List ℕ) → List Item → Option Client → Own → Type 0
IsGood base trail None own = ⊤
IsGood base trail (Some client) own = IsGoodUnlessFallen base trail own client.fallen

-- a state whose trail is legal, with every client good
pub record HasLegalHistory (state : State) : Type 0 where
  pub legal : IsLegal state.base state.shared.trail
  pub good : (who : ℕ) → IsGood state.base state.shared.trail (client_at state.shared who) (own_at state who)

-- a state in which the rights are in order, the marks exact, and the trail legal
pub record HasHistory (state : State) : Type 0 where
  pub order : InOrder state
  pub exact : IsExact state.shared.trail
  pub history : HasLegalHistory state

abbrev pub EachStepKeepsHistory : Type 0
EachStepKeepsHistory = (state : State) (event : Event) (outside : Outside) → NamesClients event → HasHistory state → HasHistory (step state event outside).state

-- at every moment of every run the trail is legal over the array that the session found: each read has the value of the
-- last write that was live before it
abbrev pub EveryRunIsLegal : Type 0
EveryRunIsLegal =
    (vault : VaultState) (pages limit capacity : ℕ) (happenings : List Happening) → AllNameClients happenings
    → IsLegal vault.image (state_after (start vault pages limit capacity) happenings).shared.trail
