use Rattle.std.specs.Prelude.{ℕ, List, [], Option, None}
use Rattle.casper_words.specs.declared.page.Want.{Want}
use Rattle.casper_trail.specs.declared.entry.Entry.{Entry}
use Rattle.casper_model.specs.declared.outcome.Kept.{Kept}

-- a client that was rolled back and has not been told: the place of the mark, how many of its recorded reads and
-- writes the mark dropped, and the live entries as it fell, which its cache goes on to show
pub record Fallen : Type 0 where
  pub mark : ℕ
  pub dropped : ℕ
  pub seen : List Entry

-- what is known to all of a live client: how many more entries may be recorded for it, its pages with their rights,
-- the wants of its last acquire that were blocked, the outcome that is kept for it, and whether it is fallen
pub record Client : Type 0 where
  pub cap : ℕ
  pub rights : List Want
  pub asks : List Want
  pub kept : Option Kept
  pub fallen : Option Fallen

-- a client as it joins
abbrev pub new_client : ℕ → Client
new_client cap = record { cap = cap; rights = []; asks = []; kept = None; fallen = None }
