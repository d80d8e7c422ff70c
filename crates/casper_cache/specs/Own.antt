use Rattle.std.specs.Prelude.{◌≡◌, ℕ, ◌+◌, ◌-◌, ◌<◌, ◌≤◌, min, List, [], ◌∷◌, ◌++◌, length, Some, IsSome}
use Rattle.casper_words.specs.declared.call.Call.{Call}
use Rattle.casper_words.specs.declared.page.Right.TheVariants.{Write}
use Rattle.casper_cache.specs.declared.held.Held.{Held}
use Rattle.casper_cache.specs.Holding.{right_of, front_of, written, ArePagesDistinct}

-- what is one client's own: its held pages, the most recently used first, its calls that were not
-- yet recorded, in order, and how many entries it may still add to the trail
pub record Own : Type 0 where
  pub client : ℕ
  pub capacity : ℕ
  pub held : List Held
  pub pending : List Call
  pub cap : ℕ

-- how many more calls it may make
abbrev pub room_of : Own → ℕ
room_of own = min 4096 own.cap - length own.pending

-- a read of the page hits: it is held, and there is room for one call
pub record CanRead (own : Own) (page : ℕ) : Type 0 where
  pub held : IsSome (right_of page own.held)
  pub room : 0 < room_of own

-- a write on the page hits: it is held for writing, and there is room for one call
pub record CanWrite (own : Own) (page : ℕ) : Type 0 where
  pub held : right_of page own.held ≡ Some Write
  pub room : 0 < room_of own

-- the call is pending, the last, and its page is in front
abbrev pub after_read : Own → Call → Own
after_read own call = record own { held = front_of call.page own.held; pending = own.pending ++ call ∷ [] }

-- the call is pending, the last, and its page is in front with the word that it wrote
abbrev pub after_write : Own → Call → Own
after_write own call = record own {
  held = written call.page call.word call.value own.held;
  pending = own.pending ++ call ∷ [];
}

-- what is true of every cache
pub record IsSound (own : Own) : Type 0 where
  pub distinct : ArePagesDistinct own.held
  pub few : length own.held ≤ own.capacity + 4
  pub pending : length own.pending ≤ min 4096 own.cap
  pub least : 8 ≤ own.capacity
  pub most : own.capacity ≤ 1024
