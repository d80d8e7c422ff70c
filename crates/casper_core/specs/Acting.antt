use Rattle.std.specs.Prelude.{◌≡◌, ◌≢◌, ℕ, ◌<◌, Bool, List, length, cond, IsTrue}
use Rattle.casper_space.specs.declared.answer.Answer.{Answer}
use Rattle.casper_space.specs.declared.answer.Answer.TheVariants as answer
use Rattle.casper_cache.specs.Own as cache
use Rattle.casper_model.specs.Own as machine
use Rattle.casper_model.specs.declared.event.Event.{Event}
use Rattle.casper_model.specs.declared.event.Event.TheVariants as event
use Rattle.casper_model.specs.Outside.{Outside, NothingFailed, LoadFailed, WriteOutFailed, WriteOutDoubted, SettleFailed}
use Rattle.casper_model.specs.State.{State, own_at}
use Rattle.casper_model.specs.Turn.{Turn}
use Rattle.casper_model.specs.Run.{is_disk}
use Rattle.casper_hub.specs.HubView.{HubView}
use Rattle.casper_hub.specs.Owned.{Owns, own_of}
use Rattle.casper_hub.specs.Shows.{Shows}
use Rattle.casper_hub.specs.Sound.{IsSound}
use Rattle.casper_hub.specs.GoesOn.{KeepsClient, CommitsNothing}
use Rattle.casper_hub.specs.Words.{FramesAreRight, CacheIsRight}
use Rattle.casper_core.specs.Loading.{AreStored}

-- what the outside did, as the answer to a client's turn tells it: a page could not be read, or nothing failed
abbrev pub outside_of : Answer → Outside
outside_of answer = cond (is_disk answer) LoadFailed NothingFailed

-- as the answer to a write-out tells it: it failed, it ended in doubt, or nothing failed
abbrev pub outside_written : Answer → Outside
outside_written answer.Disk = WriteOutFailed
outside_written answer.Doubt = WriteOutDoubted
outside_written other = NothingFailed

-- as the answer to a settle tells it
abbrev pub outside_settled : Answer → Outside
outside_settled answer = cond (is_disk answer) SettleFailed NothingFailed

-- as the answer to an event tells it
abbrev pub outside_in : Event → Answer → Outside
outside_in (event.WriteOut lead) answer = outside_written answer
outside_in event.Settle answer = outside_settled answer
outside_in other answer = outside_of answer

-- a state of the machine of which this hub and this cache of a client are parts, whose words are right, and so are those of the image
pub record IsPart (who : ℕ) (image : List (List ℕ)) (state : State) (hub : HubView) (own : cache.Own) : Type 0 where
  pub shared : Shows state.shared hub
  pub place : who < length state.owns
  pub part : own_at state who ≡ own_of own
  pub stored : AreStored state.base hub image
  pub frames : FramesAreRight state.base hub
  pub words : CacheIsRight state.base hub own

-- a turn from a state gives this answer, this hub and this own part of a client, and leaves the rest
pub record IsTurnResult (who : ℕ) (state : State) (turn : Turn) (answer : Answer) (hub : HubView) (own : machine.Own) : Type 0 where
  pub answers : answer ≡ turn.answer
  pub shared : Shows turn.state.shared hub
  pub places : length turn.state.owns ≡ length state.owns
  pub part : own_at turn.state who ≡ own
  pub others : (other : ℕ) → other ≢ who → own_at turn.state other ≡ own_at state other
  pub base : turn.state.base ≡ state.base
  pub vault : turn.state.vault ≡ state.vault
  pub unfinished : turn.state.unfinished ≡ state.unfinished

-- where the vault tells its image: from each state of which a hub and a client's cache are parts, the machine's turn gives this answer,
-- hub and cache
abbrev pub RefinesTurn : ℕ → Bool → List (List ℕ) → (Outside → State → Turn) → HubView → cache.Own → Answer → HubView → cache.Own → Type 0
RefinesTurn who tells image turn hub own answer after own_after =
    IsTrue tells → (state : State) → IsPart who image state hub own → IsTurnResult who state (turn (outside_of answer) state) answer after (own_of own_after)

-- a turn of a client leaves the hub sound, what the others rely on, and the frames right, and commits nothing
pub record KeepsHubRight (who : ℕ) (tells : Bool) (image : List (List ℕ)) (hub : HubView) (own : cache.Own) (after : HubView) : Type 0 where
  pub sound : IsSound after
  pub others : (other : ℕ) → other ≢ who → KeepsClient other hub after
  pub still : CommitsNothing hub after
  pub frames : IsTrue tells → (base : List (List ℕ)) → AreStored base hub image → FramesAreRight base hub → CacheIsRight base hub own
      → FramesAreRight base after

-- and leaves the client its cache, with the right words
pub record Holds (who : ℕ) (tells : Bool) (image : List (List ℕ)) (hub : HubView) (own : cache.Own) (after : HubView) (own_after : cache.Own) : Type 0 where
  pub client : own_after.client ≡ who
  pub capacity : own_after.capacity ≡ own.capacity
  pub owns : Owns after own_after
  pub words : IsTrue tells → (base : List (List ℕ)) → AreStored base hub image → FramesAreRight base hub → CacheIsRight base hub own
      → CacheIsRight base after own_after
