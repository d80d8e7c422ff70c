use Rattle.std.specs.Prelude.{ℕ, List, [], length, min, ◌-◌}
use Rattle.casper_words.specs.declared.page.Want.{Want}
use Rattle.casper_words.specs.declared.call.Call.{Call}

-- what is kept for one client by itself: how many pages it may hold, how many more entries may be recorded for it, the
-- pages that it holds, the last used first, and its calls that are not recorded yet
pub record Own : Type 0 where
  pub who : ℕ
  pub capacity : ℕ
  pub cap : ℕ
  pub held : List Want
  pub pending : List Call

-- the own part of a client that is not live
abbrev pub blank : ℕ → ℕ → Own
blank who capacity = record { who = who; capacity = capacity; cap = 0; held = []; pending = [] }

-- for how many more calls there is room: a list of pending calls has at most 4,096, and never more than may be recorded
abbrev pub room_of : Own → ℕ
room_of own = min 4096 own.cap - length own.pending
