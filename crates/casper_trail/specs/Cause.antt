use Rattle.std.specs.Prelude.{List, [], ◌∷◌, Bool, ◌||◌, ◌==◌, IsTrue, IsFalse, ⊤}
use Rattle.casper_trail.specs.declared.entry.Entry.{Entry}
use Rattle.casper_trail.specs.Value.{writes_page}

-- whether a live entry is a direct cause of a later one: they have one client, or it writes the later one's page
abbrev pub is_direct_cause : Entry → Entry → Bool
is_direct_cause cause entry = (cause.who == entry.who) || writes_page entry.page cause

abbrev pub IsDirectCause : Entry → Entry → Type 0
IsDirectCause cause entry = IsTrue (is_direct_cause cause entry)

-- an entry is a direct cause of none of these
abbrev pub IsCauseOfNone : Entry → List Entry → Type 0
IsCauseOfNone cause [] = ⊤
IsCauseOfNone cause (entry ∷ entries) = IsFalse (is_direct_cause cause entry) × IsCauseOfNone cause entries

-- a part of a list of live entries, in their order, that has every direct cause of each of its entries:
-- an entry that is left out is a direct cause of no later one in the part
pub data IsClosedPart : List Entry → List Entry → Type 0 where
  empty : IsClosedPart [] []
  kept : {entry : Entry} {part live : List Entry} → IsClosedPart part live → IsClosedPart (entry ∷ part) (entry ∷ live)
  left_out : {entry : Entry} {part live : List Entry} → IsCauseOfNone entry part → IsClosedPart part live → IsClosedPart part (entry ∷ live)
