use Rattle.std.specs.Prelude.{◌≡◌, ℕ, List, [], ◌∷◌, false, ⊤, Contains}
use Rattle.casper_trail.specs.declared.entry.Entry.{Entry}
use Rattle.casper_trail.specs.declared.item.Item.{Item}
use Rattle.casper_trail.specs.Value.{writes_page}
use Rattle.casper_trail.specs.Parts.{live_entries}
use Rattle.casper_trail.specs.Legal.{IsLegal, AreRightAfter}
use Rattle.casper_trail.specs.Calls.{entries_by, Pending, whole_history}

-- the first entries write no page of the others
abbrev pub WriteNoPageOf : List Entry → List Entry → Type 0
WriteNoPageOf first others = (write entry : Entry) → Contains first write → Contains others entry → writes_page entry.page write ≡ false

-- pending calls of a client write no page of those of the others
abbrev pub WritesNoPageOfEach : Pending → List Pending → Type 0
WritesNoPageOfEach own [] = ⊤
WritesNoPageOfEach own (other ∷ others) = WriteNoPageOf (entries_by own.who own.calls) (entries_by other.who other.calls) × WritesNoPageOfEach own others

-- the pending calls of each client write no page of those of the clients after it
abbrev pub ArePendingApart : List Pending → Type 0
ArePendingApart [] = ⊤
ArePendingApart (own ∷ others) = WritesNoPageOfEach own others × ArePendingApart others

-- the pending calls of each client are right after these entries
abbrev pub ArePendingRight : List (List ℕ) → List Entry → List Pending → Type 0
ArePendingRight base entries [] = ⊤
ArePendingRight base entries (own ∷ others) = AreRightAfter base entries (entries_by own.who own.calls) × ArePendingRight base entries others

-- the whole history is legal where the items are, each client's pending calls are right after the live entries, and they are apart
abbrev pub WholeIsLegal : Type 0
WholeIsLegal = (base : List (List ℕ)) (items : List Item) (pending : List Pending) → IsLegal base items
    → ArePendingRight base (live_entries items) pending → ArePendingApart pending → IsLegal base (whole_history items pending)
