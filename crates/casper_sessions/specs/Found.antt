use Rattle.std.specs.Prelude.{◌≡◌, ◌⊎◌, ℕ, ◌+◌, List, Option, None, Some}
use Rattle.casper_space.specs.Changes.{Change, with_changes}
use Rattle.casper_model.specs.Vault.{VaultState}

-- an image and its version, as an opening finds them
pub record Found : Type 0 where
  pub image : List (List ℕ)
  pub version : ℕ

abbrev pub found_in : VaultState → Found
found_in vault = record { image = vault.image; version = vault.version }

-- a stop leaves a vault as it is, or with the changes that are in doubt
abbrev pub MayBeFoundWith : VaultState → Option (List Change) → Found → Type 0
MayBeFoundWith vault None found = found ≡ found_in vault
MayBeFoundWith vault (Some changes) found =
    (found ≡ found_in vault) ⊎ (found ≡ record { image = with_changes vault.image changes; version = vault.version + 1 })

-- what an opening may find of a vault
abbrev pub MayBeFound : VaultState → Found → Type 0
MayBeFound vault found = MayBeFoundWith vault vault.doubt found
