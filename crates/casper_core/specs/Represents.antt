use Rattle.std.specs.Prelude.{◌≡◌, ℕ, ◌<◌, length, Option, None, Some}
use Rattle.casper_cache.specs.Own as cache
use Rattle.casper_model.specs.Own as machine
use Rattle.casper_model.specs.State.{State, own_at}
use Rattle.casper_model.specs.LegalHistory.{HasHistory}
use Rattle.casper_model.specs.RoomLaw.{HasRoom}
use Rattle.casper_laws.specs.FrozenLaws.{HasOrderlyStabilisations}
use Rattle.casper_laws.specs.StoredImage.{HasStoredImage}
use Rattle.casper_hub.specs.HubView.{page_count}
use Rattle.casper_hub.specs.Owned.{own_of}
use Rattle.casper_hub.specs.Shows.{Shows}
use Rattle.casper_hub.specs.Words.{FramesAreRight, CacheIsRight}
use Rattle.casper_core.specs.CoreView.{CoreView, cache_at}

-- the own part of a client as the machine has it: of one that is absent it is blank
abbrev pub own_part : ℕ → ℕ → Option cache.Own → machine.Own
own_part capacity who None = machine.blank who capacity
own_part capacity who (Some own) = own_of own

-- the parts of a core are those of a state of the machine, and the words of all frames are right, at the server and in each cache
pub record HasPartsOf {V : Type 0} (state : State) (core : CoreView V) : Type 0 where
  pub shared : Shows state.shared core.hub
  pub owns : (who : ℕ) → who < 33 → own_at state who ≡ own_part core.capacity who (cache_at core who)
  pub unfinished : state.unfinished ≡ core.unfinished
  pub vault : state.vault ≡ core.told
  pub pages : length state.base ≡ page_count core.hub
  pub frames : FramesAreRight state.base core.hub
  pub words : (who : ℕ) (own : cache.Own) → cache_at core who ≡ Some own → CacheIsRight state.base core.hub own

-- a core stands for a state of the machine, whose history is legal with exact marks, which has room, whose write-outs are in order, and
-- whose vault has the image that is due: the stable one, or from a write-out to its finish the one with the association that was written.
-- So a page that nobody holds for writing has, at the server or in the vault, the values over the live entries
pub record Represents {V : Type 0} (state : State) (core : CoreView V) : Type 0 where
  pub parts : HasPartsOf state core
  pub history : HasHistory state
  pub room : HasRoom state
  pub orderly : HasOrderlyStabilisations state
  pub image : HasStoredImage state
