use Rattle.std.specs.Prelude.{◌≡◌, ◌≢◌, ℕ, List, Option, Some, is_some, slice_set}
use Rattle.casper_cache.specs.Own as cache
use Rattle.casper_model.specs.State.{Unfinished}
use Rattle.casper_model.specs.Vault.{VaultState}
use Rattle.casper_hub.specs.HubView.{HubView, is_live}
use Rattle.casper_hub.specs.Owned.{Owns}
use Rattle.casper_hub.specs.Sound.{IsSound}
use Rattle.casper_hub.specs.GoesOn.{KeepsClient, CommitsNothing}
use Rattle.casper_hub.specs.Words.{FramesAreRight, CacheIsRight}
use Rattle.casper_core.specs.CoreView.{CoreView}

-- a core with another hub, and another cache or none at the place of a client
abbrev pub placed : {V : Type 0} → CoreView V → ℕ → HubView → Option cache.Own → ℕ → V → ℕ → VaultState → CoreView V
placed core who hub place calls vault size told = record {
  hub = hub;
  caches = slice_set core.caches who place;
  capacity = core.capacity;
  unfinished = core.unfinished;
  calls = calls;
  vault = vault;
  size = size;
  told = told;
}

-- a core with another hub and vault, and another write-out or none that is unfinished
abbrev pub changed : {V : Type 0} → CoreView V → HubView → Option Unfinished → V → ℕ → VaultState → CoreView V
changed core hub unfinished vault size told = record {
  hub = hub;
  caches = core.caches;
  capacity = core.capacity;
  unfinished = unfinished;
  calls = core.calls;
  vault = vault;
  size = size;
  told = told;
}

-- what stands at the place of a client after a turn of it
pub record IsPlaced {V : Type 0} (who : ℕ) (core : CoreView V) (after : HubView) (place : Option cache.Own) : Type 0 where
  pub sound : IsSound after
  pub others : (other : ℕ) → other ≢ who → KeepsClient other core.hub after
  pub still : CommitsNothing core.hub after
  pub live : is_some place ≡ is_live after who
  pub client : (own : cache.Own) → place ≡ Some own → own.client ≡ who
  pub same_capacity : (own : cache.Own) → place ≡ Some own → own.capacity ≡ core.capacity
  pub owns : (own : cache.Own) → place ≡ Some own → Owns after own

-- with the right words
pub record IsRight (base : List (List ℕ)) (after : HubView) (place : Option cache.Own) : Type 0 where
  pub frames : FramesAreRight base after
  pub words : (own : cache.Own) → place ≡ Some own → CacheIsRight base after own
