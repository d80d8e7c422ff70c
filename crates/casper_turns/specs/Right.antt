use Rattle.std.specs.Prelude.{◌≡◌, ℕ, List, None}
use Rattle.casper_trail.specs.Calls.{entries_by}
use Rattle.casper_trail.specs.Legal.{IsLegal, AreRightAfter}
use Rattle.casper_trail.specs.Parts.{live_entries}
use Rattle.casper_model.specs.Own.{Own}
use Rattle.casper_model.specs.Shared.{Shared, fallen_at}

-- over the array that a session found, each pending read of a client has the value of its word after the live entries and
-- the calls before it, unless the client is fallen
abbrev pub ReadsAreRight : List (List ℕ) → Shared → Own → Type 0
ReadsAreRight base shared own = fallen_at shared own.who ≡ None → AreRightAfter base (live_entries shared.trail) (entries_by own.who own.pending)

-- and so has each read of the trail
pub record IsRightWith (base : List (List ℕ)) (shared : Shared) (own : Own) : Type 0 where
  pub legal : IsLegal base shared.trail
  pub reads : ReadsAreRight base shared own
