use Rattle.std.specs.Prelude.{◌≡◌, ℕ, List, true, length, Option, None, Some, Contains}
use Rattle.casper_trail.specs.declared.item.Item.{Item}
use Rattle.casper_trail.specs.Value.{IsArray}
use Rattle.casper_trail.specs.Image.{image_of, image_with}
use Rattle.casper_model.specs.declared.event.Event.{Event}
use Rattle.casper_model.specs.declared.outcome.Outcome.{Outcome}
use Rattle.casper_model.specs.declared.outcome.Outcome.TheVariants as outcome
use Rattle.casper_model.specs.Outside.{Outside}
use Rattle.casper_model.specs.Stabilisation.{Stabilisation, is_doubtful}
use Rattle.casper_model.specs.Vault.{VaultState, settled_vault}
use Rattle.casper_model.specs.State.{State, Unfinished, start}
use Rattle.casper_model.specs.Step.{step}
use Rattle.casper_model.specs.Run.{Happening, state_after}
use Rattle.casper_model.specs.Rights.{NamesClients, AllNameClients}
use Rattle.casper_model.specs.LegalHistory.{HasHistory}
use Rattle.casper_laws.specs.FrozenLaws.{ended_in_doubt, HasOrderlyStabilisations}

-- the image after a write-out of a lead that ended so: with the lead's association where it answered Ok, and the stable
-- image otherwise
abbrev pub image_by : List (List ℕ) → List Item → ℕ → Outcome → List (List ℕ)
image_by base trail lead (outcome.Ok version) = image_with base trail lead
image_by base trail lead (outcome.Full need free) = image_of base trail
image_by base trail lead outcome.Worn = image_of base trail
image_by base trail lead outcome.Disk = image_of base trail
image_by base trail lead outcome.Doubt = image_of base trail

-- the image that the vault is to have, by the write-out that is unfinished, if there is one
abbrev pub image_due : State → Option Unfinished → List (List ℕ)
image_due state None = image_of state.base state.shared.trail
image_due state (Some unfinished) = image_by state.base state.shared.trail unfinished.lead unfinished.outcome

-- the vault has the image that it is to have; and where a write-out ended in doubt, it settles to the image with the
-- association of that write-out's lead
pub record HasStoredImage (state : State) : Type 0 where
  pub shape : IsArray (length state.base) state.base
  pub image : state.vault.image ≡ image_due state state.unfinished
  pub unfinished : (one : Unfinished) → state.unfinished ≡ Some one → ended_in_doubt one.outcome ≡ true
      → (settled_vault state.vault).image ≡ image_with state.base state.shared.trail one.lead
  pub doubtful : (one : Stabilisation) → Contains state.shared.stabilisations one → is_doubtful one.phase ≡ true
      → (settled_vault state.vault).image ≡ image_with state.base state.shared.trail one.lead

-- a session begins so, each step keeps it, and so does every run
abbrev pub StartsWithItsImage : Type 0
StartsWithItsImage = (vault : VaultState) (pages limit capacity : ℕ) → IsArray pages vault.image → HasStoredImage (start vault pages limit capacity)

abbrev pub EachStepKeepsTheImage : Type 0
EachStepKeepsTheImage =
    (state : State) (event : Event) (outside : Outside) → NamesClients event → HasHistory state → HasOrderlyStabilisations state → HasStoredImage state
    → HasStoredImage (step state event outside).state

abbrev pub EveryRunKeepsTheImage : Type 0
EveryRunKeepsTheImage =
    (vault : VaultState) (pages limit capacity : ℕ) (happenings : List Happening) → IsArray pages vault.image → vault.doubt ≡ None → AllNameClients happenings
    → HasStoredImage (state_after (start vault pages limit capacity) happenings)

-- at every moment of every run at which no write-out is unfinished the vault's image is the stable image
abbrev pub EveryQuietMomentHasTheStableImage : Type 0
EveryQuietMomentHasTheStableImage =
    (vault : VaultState) (pages limit capacity : ℕ) (happenings : List Happening) → IsArray pages vault.image → vault.doubt ≡ None → AllNameClients happenings
    → (state_after (start vault pages limit capacity) happenings).unfinished ≡ None
    → (state_after (start vault pages limit capacity) happenings).vault.image
    ≡ image_of vault.image (state_after (start vault pages limit capacity) happenings).shared.trail

-- after a write-out that answered Ok, and before its finish, it is the image with the association that was written
abbrev pub EveryWrittenImageHasItsAssociation : Type 0
EveryWrittenImageHasItsAssociation =
    (vault : VaultState) (pages limit capacity : ℕ) (happenings : List Happening) (lead version : ℕ) → IsArray pages vault.image → vault.doubt ≡ None
    → AllNameClients happenings
    → (state_after (start vault pages limit capacity) happenings).unfinished ≡ Some (record { lead = lead; outcome = outcome.Ok version })
    → (state_after (start vault pages limit capacity) happenings).vault.image
    ≡ image_with vault.image (state_after (start vault pages limit capacity) happenings).shared.trail lead
