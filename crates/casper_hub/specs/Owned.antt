use Rattle.std.specs.Prelude.{◌≡◌, ◌≤◌, ℕ, List, [], map, true, length}
use Rattle.casper_words.specs.declared.page.Want.{Want}
use Rattle.casper_cache.specs.declared.held.Held.{Held}
use Rattle.casper_cache.specs.Own as cache
use Rattle.casper_model.specs.Own as machine
use Rattle.casper_model.specs.Shared.{Shared}
use Rattle.casper_turns.specs.Good.{IsGoodShared, IsGoodWith}
use Rattle.casper_hub.specs.HubView.{HubView, is_live}
use Rattle.casper_hub.specs.Shows.{Shows}

-- a held page as a want
abbrev pub want_of : Held → Want
want_of entry = record { page = entry.page; right = entry.right }

abbrev pub wants_of : List Held → List Want
wants_of held = map want_of held

-- a cache as the own part of the machine: the words are left out
abbrev pub own_of : cache.Own → machine.Own
own_of own = record { who = own.client; capacity = own.capacity; cap = own.cap; held = wants_of own.held; pending = own.pending }

-- an own part is good with each good shared part that a hub stands for
unfoldable pub IsGoodWithEach : HubView → machine.Own → Type 0
IsGoodWithEach hub own = (shared : Shared) → Shows shared hub → IsGoodShared shared → IsGoodWith shared own

-- a cache is that of a live client of a hub, and good with what that stands for
pub record Owns (hub : HubView) (own : cache.Own) : Type 0 where
  pub sound : cache.IsSound own
  pub few : length own.held ≤ own.capacity
  pub live : is_live hub own.client ≡ true
  pub good : IsGoodWithEach hub (own_of own)

-- the cache of a client that has joined
abbrev pub new_cache : ℕ → ℕ → ℕ → cache.Own
new_cache who capacity cap = record { client = who; capacity = capacity; held = []; pending = []; cap = cap }
