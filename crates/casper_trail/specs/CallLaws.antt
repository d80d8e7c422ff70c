use Rattle.std.specs.Prelude.{◌≡◌, ◌≢◌, ◌+◌, ℕ, List, [], ◌∷◌, ◌++◌, true, length}
use Rattle.std.specs.List.{list_all}
use Rattle.casper_words.specs.declared.call.Call.{Call}
use Rattle.casper_words.specs.Crew.{IsClient}
use Rattle.casper_trail.specs.declared.entry.Entry.{Entry}
use Rattle.casper_trail.specs.declared.mark.Mark.{Mark}
use Rattle.casper_trail.specs.declared.item.Item.{Item}
use Rattle.casper_trail.specs.declared.item.Item.TheVariants as item
use Rattle.casper_trail.specs.Parts.{as_items}
use Rattle.casper_trail.specs.Clients.{AreOfClients}
use Rattle.casper_trail.specs.Calls.{is_read_or_write, calls_of, entries_by, touch_by}
use Rattle.casper_trail.specs.TrailView.{entry_count}

-- the calls of a client in items followed by others
abbrev pub CallsOfMore : Type 0
CallsOfMore = (items more : List Item) (client : ℕ) → calls_of (items ++ more) client ≡ calls_of items client ++ calls_of more client

-- recorded reads and writes are calls of their client
abbrev pub CallsOfTheirClient : Type 0
CallsOfTheirClient = (items : List Item) (who : ℕ) (calls : List Call) → list_all (λ call. is_read_or_write call.op) calls ≡ true
    → calls_of (items ++ as_items (entries_by who calls)) who ≡ calls_of items who ++ calls

-- and of no other
abbrev pub CallsOfAnother : Type 0
CallsOfAnother = (items : List Item) (who client : ℕ) (calls : List Call) → who ≢ client
    → calls_of (items ++ as_items (entries_by who calls)) client ≡ calls_of items client

-- touches and marks are no calls
abbrev pub CallsAfterTouch : Type 0
CallsAfterTouch = (items : List Item) (who page client : ℕ) → calls_of (items ++ item.Entry (touch_by who page) ∷ []) client ≡ calls_of items client

abbrev pub CallsAfterMark : Type 0
CallsAfterMark = (items : List Item) (mark : Mark) (client : ℕ) → calls_of (items ++ item.Mark mark ∷ []) client ≡ calls_of items client

-- items of clients followed by others of clients
abbrev pub ClientsOfMore : Type 0
ClientsOfMore = (items more : List Item) → AreOfClients items → AreOfClients more → AreOfClients (items ++ more)

abbrev pub ClientsOfCalls : Type 0
ClientsOfCalls = (who : ℕ) (calls : List Call) → IsClient who → AreOfClients (as_items (entries_by who calls))

-- the number of entries of items followed by entries
abbrev pub CountOfMoreEntries : Type 0
CountOfMoreEntries = (items : List Item) (more : List Entry) → entry_count (items ++ as_items more) ≡ entry_count items + length more

abbrev pub CountAfterMark : Type 0
CountAfterMark = (items : List Item) (mark : Mark) → entry_count (items ++ item.Mark mark ∷ []) ≡ entry_count items
