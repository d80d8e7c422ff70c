use Rattle.std.specs.Prelude.{◌==◌, ◌&&◌, not, ℕ, Bool, List, [], ◌∷◌, Bool, Option, Some, None, slice_index_or, if◌then◌else◌}
use Rattle.std.specs.Str.{bytes_eq}
use Rattle.casper_disk.specs.MemDisk.{Held}
use Rattle.std.specs.List.{list_any}
use Rattle.casper_disk.specs.Place.{Place, Missing, Out, Standing, is_standing, is_there}
use Rattle.casper_disk.specs.Plan.{next_count}

-- a name of a shelf in memory, with its disk where that is not out, and the faults that its disk had when it was last handed out
pub record Stored : Type 0 where
  pub name : List ℕ
  pub disk : Option Held
  pub handed : ℕ

-- a shelf in memory: its names, the room of each disk that it makes, the numbers of the opens and makes that are to fail, how
-- many there were, and how many failed
pub record Shelved : Type 0 where
  pub slots : List Stored
  pub calls : ℕ
  pub fails : List ℕ
  pub asked : ℕ
  pub faults : ℕ

-- where the disk of a name is
abbrev pub place_of : Option Held → Place Held
place_of None = Out
place_of (Some disk) = Standing disk

-- what the first slot with a name has, or what there is where none has the name
abbrev pub looked_up : {X : Type 0} → (Stored → X) → X → List Stored → List ℕ → X
looked_up has none [] name = none
looked_up has none (slot ∷ slots) name = if bytes_eq slot.name name then has slot else looked_up has none slots name

-- where the disk of a slot is
abbrev pub slot_place : Stored → Place Held
slot_place slot = place_of slot.disk

-- what stands under a name
abbrev pub place_in : List Stored → List ℕ → Place Held
place_in slots name = looked_up slot_place Missing slots name

-- the faults that the disk of a name had when it was last handed out
abbrev pub slot_handed : Stored → ℕ
slot_handed slot = slot.handed

abbrev pub handed_in : List Stored → List ℕ → ℕ
handed_in slots name = looked_up slot_handed 0 slots name

-- whether the slot at a place has the name
abbrev pub is_named_at : List Stored → List ℕ → ℕ → Bool
is_named_at slots name at = bytes_eq (slice_index_or slots at (record { name = []; disk = None; handed = 0 })).name name

-- whether the next open or make is one of those that are to fail; they are counted over both
abbrev pub is_listed_next : Shelved → Bool
is_listed_next shelf = list_any (λ number. number == next_count shelf.asked) shelf.fails

-- whether an open of a name fails: its disk stands there, and the call is listed
abbrev pub fails_open : Shelved → List ℕ → Bool
fails_open shelf name = is_standing (place_in shelf.slots name) && is_listed_next shelf

-- whether a make of a name fails: the name is not there, and the call is listed
abbrev pub fails_make : Shelved → List ℕ → Bool
fails_make shelf name = not (is_there (place_in shelf.slots name)) && is_listed_next shelf

-- a shelf after an open or a make, which failed or did not, but for the disks on it
abbrev pub after_ask : Bool → Shelved → Shelved
after_ask failed shelf = record shelf {
  asked = next_count shelf.asked;
  faults = if failed then next_count shelf.faults else shelf.faults;
}
