use Rattle.std.specs.Prelude.{◌≡◌, ℕ, List, ◌∷◌, ◌++◌, true, Contains}
use Rattle.casper_trail.specs.declared.entry.Entry.{Entry}
use Rattle.casper_trail.specs.declared.item.Item.{Item}
use Rattle.casper_trail.specs.declared.item.Item.TheVariants as item
use Rattle.casper_trail.specs.Value.{writes_page}
use Rattle.casper_trail.specs.Fate.{Open, fate_of}
use Rattle.casper_trail.specs.Parts.{live_entries, stable_entries, open_entries, stable_or_open_of, as_items}
use Rattle.casper_trail.specs.Clients.{AreOfClients}
use Rattle.casper_trail.specs.Legal.{IsLegal}
use Rattle.casper_trail.specs.Cause.{IsDirectCause, IsClosedPart}
use Rattle.casper_trail.specs.Association.{AreLinked, association_of}
use Rattle.casper_trail.specs.Marks.{HasExactMarks}

-- an open write and a later open entry on its page link their clients
abbrev pub OpenEntriesLink : Type 0
OpenEntriesLink = (items : List Item) (before middle after : List Entry) (write entry : Entry)
    → open_entries items ≡ before ++ write ∷ (middle ++ entry ∷ after) → writes_page entry.page write ≡ true → AreLinked items write.who entry.who

-- a page has open writes of one association alone
abbrev pub OneAssociationAPage : Type 0
OneAssociationAPage = (items : List Item) (page : ℕ) (one other : Entry) → AreOfClients items
    → Contains (open_entries items) one → Contains (open_entries items) other → writes_page page one ≡ true → writes_page page other ≡ true
    → association_of items one.who ≡ association_of items other.who

-- a direct cause that is open as an entry is recorded shares the entry's fate
abbrev pub CauseSharesFate : Type 0
CauseSharesFate = (before middle after : List Item) (cause entry : Entry)
    → AreOfClients (before ++ item.Entry cause ∷ (middle ++ item.Entry entry ∷ after))
    → HasExactMarks (before ++ item.Entry cause ∷ (middle ++ item.Entry entry ∷ after))
    → IsDirectCause cause entry → fate_of cause.who middle ≡ Open → fate_of cause.who after ≡ fate_of entry.who after

-- the stable entries are a causally closed part
abbrev pub StableIsClosed : Type 0
StableIsClosed = (items : List Item) → AreOfClients items → HasExactMarks items → IsClosedPart (stable_entries items) (live_entries items)

-- so are they with the open entries of an association
abbrev pub AssociationIsClosed : Type 0
AssociationIsClosed = (items : List Item) (client : ℕ) → AreOfClients items → HasExactMarks items
    → IsClosedPart (stable_or_open_of (association_of items client) items) (live_entries items)

-- the live entries of legal items are legal by themselves: no read that is left saw a write that is gone
abbrev pub LiveIsLegal : Type 0
LiveIsLegal = (base : List (List ℕ)) (items : List Item) → AreOfClients items → HasExactMarks items → IsLegal base items
    → IsLegal base (as_items (live_entries items))
