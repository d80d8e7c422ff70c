use Rattle.std.specs.Prelude.{◌≡◌, ◌≤◌, ◌+◌, ◌↔◌, ◌==◌, ◌∷◌, ◌++◌, [], if◌then◌else◌, ℕ, true, List, Contains, Some, count_by}
use Rattle.casper_words.specs.declared.call.Call.{Call}
use Rattle.casper_words.specs.Crew.{IsClient, has_member}
use Rattle.casper_trail.specs.declared.entry.Entry.{Entry}
use Rattle.casper_trail.specs.declared.mark.Mark.{Mark}
use Rattle.casper_trail.specs.declared.item.Item.{Item}
use Rattle.casper_trail.specs.declared.item.Item.TheVariants as item
use Rattle.casper_trail.specs.Value.{writes_page}
use Rattle.casper_trail.specs.Fate.{members_of}
use Rattle.casper_trail.specs.Parts.{open_entries, as_items}
use Rattle.casper_trail.specs.Calls.{is_read_or_write, entries_by, touch_by}
use Rattle.casper_trail.specs.Clients.{AreOfClients}
use Rattle.casper_trail.specs.Modified.{is_modified_by}
use Rattle.casper_trail.specs.Association.{association_of}
use Rattle.casper_trail.specs.TrailView.{entry_count}
use Rattle.casper_assoc.specs.Labelling.{writer_of}
use Rattle.casper_assoc.specs.TrailAssociations.{AssociationsView, AreAssociationsOf, open_calls_in}

-- a client has at most as many open calls as a trail has entries
abbrev pub OpenCallsAreEntries : Type 0
OpenCallsAreEntries = (items : List Item) (who : ℕ) → open_calls_in items who ≤ entry_count items

-- calls of a client add its reads and writes to its count, and nothing to another's
abbrev pub OpenCallsAfterCalls : Type 0
OpenCallsAfterCalls = (items : List Item) (who client : ℕ) (calls : List Call) → open_calls_in (items ++ as_items (entries_by who calls)) client
    ≡ open_calls_in items client + (if who == client then count_by (λ call. is_read_or_write call.op) calls else 0)

-- a touch adds nothing
abbrev pub OpenCallsAfterTouch : Type 0
OpenCallsAfterTouch = (items : List Item) (who page client : ℕ)
    → open_calls_in (items ++ item.Entry (touch_by who page) ∷ []) client ≡ open_calls_in items client

-- a mark leaves its members no open call, and every other client as many as it had
abbrev pub OpenCallsAfterMark : Type 0
OpenCallsAfterMark = (items : List Item) (mark : Mark) (client : ℕ) → open_calls_in (items ++ item.Mark mark ∷ []) client
    ≡ (if has_member client (members_of mark) then 0 else open_calls_in items client)

-- a page with an open write has a writer, with which the client of that write is in one association
abbrev pub ModifiedByTheWriter : Type 0
ModifiedByTheWriter = (all : AssociationsView) (items : List Item) (page : ℕ) (write : Entry) → AreOfClients items → AreAssociationsOf all items
    → Contains (open_entries items) write → writes_page page write ≡ true
    → (who : ℕ) × (writer_of all.labelling page ≡ Some who) × (has_member write.who (association_of items who) ≡ true)

-- the pages that an association modified are exactly those that its members labelled
abbrev pub MembersLabelledTheModified : Type 0
MembersLabelledTheModified = (all : AssociationsView) (items : List Item) (client page : ℕ) → AreOfClients items → AreAssociationsOf all items
    → IsClient client
    → (is_modified_by (association_of items client) items page ≡ true)
    ↔ ((who : ℕ) × (has_member who (association_of items client) ≡ true) × (writer_of all.labelling page ≡ Some who))
