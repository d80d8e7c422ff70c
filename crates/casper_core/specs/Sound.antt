use Rattle.std.specs.Prelude.{◌≡◌, ℕ, ◌≤◌, Option, None, Some, is_some, length, true, IsSome, Contains}
use Rattle.casper_cache.specs.Own as cache
use Rattle.casper_model.specs.Stabilisation.{Stabilisation, is_sealed}
use Rattle.casper_model.specs.State.{Unfinished}
use Rattle.casper_laws.specs.FrozenLaws.{ended_in_doubt}
use Rattle.casper_hub.specs.Committing.{doubtful_in}
use Rattle.casper_hub.specs.HubView.{HubView, is_live, page_count}
use Rattle.casper_hub.specs.Owned.{Owns}
use Rattle.casper_hub.specs.Sound as hub
use Rattle.casper_core.specs.CoreView.{CoreView, cache_at}

-- a cache is that of a live client
pub record Keeps {V : Type 0} (core : CoreView V) (who : ℕ) (own : cache.Own) : Type 0 where
  pub client : own.client ≡ who
  pub capacity : own.capacity ≡ core.capacity
  pub owns : Owns core.hub own

-- the stabilisation of a lead is sealed
abbrev pub IsSealedIn : HubView → ℕ → Type 0
IsSealedIn hub lead = (one : Stabilisation) × Contains hub.stabilisations one × (one.lead ≡ lead) × (is_sealed one.phase ≡ true)

-- a write-out is in doubt: the unfinished one, where there is one, and else that of an association
abbrev pub IsInDoubt : Option Unfinished → HubView → Type 0
IsInDoubt None hub = IsSome (doubtful_in hub)
IsInDoubt (Some unfinished) hub = ended_in_doubt unfinished.outcome ≡ true

-- what is true of every core: there is a place for each number, a cache stands at a place exactly where that client is live, and is
-- its cache, the vault has the pages of the hub, the association whose write-out is unfinished is sealed, and then none is in doubt, and
-- where the vault is in doubt that write-out ended so, or an association is in doubt
pub record IsSound {V : Type 0} (core : CoreView V) : Type 0 where
  pub hub : hub.IsSound core.hub
  pub places : length core.caches ≡ 33
  pub live : (who : ℕ) → is_some (cache_at core who) ≡ is_live core.hub who
  pub kept : (who : ℕ) (own : cache.Own) → cache_at core who ≡ Some own → Keeps core who own
  pub least : 8 ≤ core.capacity
  pub most : core.capacity ≤ 1024
  pub size : core.size ≡ page_count core.hub
  pub written : (one : Unfinished) → core.unfinished ≡ Some one → IsSealedIn core.hub one.lead
  pub alone : (one : Unfinished) → core.unfinished ≡ Some one → doubtful_in core.hub ≡ None
  pub doubtful : IsSome core.told.doubt → IsInDoubt core.unfinished core.hub
