use Rattle.std.specs.Prelude.{◌≡◌, ◌≢◌, ℕ, List, true, false}
use Rattle.casper_words.specs.Crew.{IsClient}
use Rattle.casper_words.specs.declared.page.Right.TheVariants as may
use Rattle.casper_model.specs.declared.event.Event.TheVariants as event
use Rattle.casper_model.specs.Held.{allows}
use Rattle.casper_model.specs.Outside.{Outside}
use Rattle.casper_model.specs.Shared.{Shared, asks_at, rights_at}
use Rattle.casper_model.specs.State.{State, start}
use Rattle.casper_model.specs.Step.{step}
use Rattle.casper_model.specs.Run.{Happening, state_after}
use Rattle.casper_model.specs.Rights.{InOrder, AllNameClients}
use Rattle.casper_model.specs.Vault.{VaultState}
use Rattle.casper_laws.specs.OwnLists.{IsStanding}

-- a client holds no page that another asks to write, and may write none that another asks for
abbrev pub MeetsTheAsks : Shared → ℕ → Type 0
MeetsTheAsks shared who =
    (other page : ℕ) → IsClient other → other ≢ who
    → (allows (asks_at shared other) page may.Write ≡ true → allows (rights_at shared who) page may.Read ≡ false)
    × (allows (asks_at shared other) page may.Read ≡ true → allows (rights_at shared who) page may.Write ≡ false)

-- a serve of a client that is not fallen meets the asks of all others
abbrev pub EachServeMeetsTheAsks : Type 0
EachServeMeetsTheAsks =
    (state : State) (who : ℕ) (outside : Outside) → IsClient who → InOrder state → IsStanding state who
    → MeetsTheAsks (step state (event.Serve who) outside).state.shared who

abbrev pub EveryServeMeetsTheAsks : Type 0
EveryServeMeetsTheAsks =
    (vault : VaultState) (pages limit capacity : ℕ) (happenings : List Happening) → AllNameClients happenings → (who : ℕ) (outside : Outside) → IsClient who
    → IsStanding (state_after (start vault pages limit capacity) happenings) who
    → MeetsTheAsks (step (state_after (start vault pages limit capacity) happenings) (event.Serve who) outside).state.shared who
