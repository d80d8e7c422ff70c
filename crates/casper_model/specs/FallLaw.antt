use Rattle.std.specs.Prelude.{◌≡◌, ℕ, List, true, slice_get, Contains, Some}
use Rattle.casper_words.specs.Crew.{has_member}
use Rattle.casper_trail.specs.declared.entry.Entry.{Entry}
use Rattle.casper_trail.specs.declared.item.Item.{Item}
use Rattle.casper_trail.specs.declared.item.Item.TheVariants as item
use Rattle.casper_trail.specs.declared.mark.Mark.TheVariants.{Rollback}
use Rattle.casper_trail.specs.Parts.{open_entries}
use Rattle.casper_model.specs.declared.event.Event.{Event}
use Rattle.casper_model.specs.Client.{Client, Fallen}
use Rattle.casper_model.specs.Outside.{Outside}
use Rattle.casper_model.specs.Shared.{Shared, client_at}
use Rattle.casper_model.specs.Vault.{VaultState}
use Rattle.casper_model.specs.State.{State, start}
use Rattle.casper_model.specs.Step.{step}
use Rattle.casper_model.specs.Run.{Happening, state_after}
use Rattle.casper_model.specs.Rights.{InOrder, NamesClients, AllNameClients}

-- a fallen client has no open entry, and at the place of its mark stands a rollback that names it
pub record HasFallen (trail : List Item) (who : ℕ) (fallen : Fallen) : Type 0 where
  pub no_open : (entry : Entry) → Contains (open_entries trail) entry → entry.who ≡ who → ⊥
  pub lost : ℕ
  pub members : List ℕ
  pub mark : slice_get trail fallen.mark ≡ Some (item.Mark (Rollback lost members))
  pub named : has_member who members ≡ true

-- each fallen client has
abbrev pub EachFallenIsMarked : Shared → Type 0
EachFallenIsMarked shared =
    (who : ℕ) (client : Client) (fallen : Fallen) → client_at shared who ≡ Some client → client.fallen ≡ Some fallen → HasFallen shared.trail who fallen

abbrev pub EachStepKeepsTheFallenMarked : Type 0
EachStepKeepsTheFallenMarked =
    (state : State) (event : Event) (outside : Outside) → NamesClients event → InOrder state → EachFallenIsMarked state.shared
    → EachFallenIsMarked (step state event outside).state.shared

-- at every moment of every run a fallen client has no open entry, and its mark names it
abbrev pub EveryRunMarksTheFallen : Type 0
EveryRunMarksTheFallen =
    (vault : VaultState) (pages limit capacity : ℕ) (happenings : List Happening) → AllNameClients happenings
    → EachFallenIsMarked (state_after (start vault pages limit capacity) happenings).shared
