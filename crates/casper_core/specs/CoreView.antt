use Rattle.std.specs.Prelude.{ℕ, List, Option, None, slice_index_or}
use Rattle.casper_space.specs.Changes.{Change, VaultRoom}
use Rattle.casper_cache.specs.Own as cache
use Rattle.casper_model.specs.State.{Unfinished}
use Rattle.casper_model.specs.Vault.{VaultState}
use Rattle.casper_hub.specs.HubView.{HubView}

-- what a vault tells, as the machine has it
abbrev pub told_by : {V : Type 0} → (V → List (List ℕ)) → (V → ℕ) → (V → Option VaultRoom) → (V → Option (List Change)) → V → VaultState
told_by image version room doubt vault = record { image = image vault; version = version vault; room = room vault; doubt = doubt vault }

-- what contracts see of a core: the hub, the cache of each live client at the place of its number, how many pages a cache may hold,
-- the write-out that is unfinished, the calls that were completed, and the vault with its number of pages and what it tells
pub record CoreView (V : Type 0) : Type 0 where
  pub hub : HubView
  pub caches : List (Option cache.Own)
  pub capacity : ℕ
  pub unfinished : Option Unfinished
  pub calls : ℕ
  pub vault : V
  pub size : ℕ
  pub told : VaultState

-- the cache of a client, where it is live
abbrev pub cache_at : {V : Type 0} → CoreView V → ℕ → Option cache.Own
cache_at core who = slice_index_or core.caches who None
