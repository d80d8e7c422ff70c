use Rattle.std.specs.Prelude.{ℕ, List, ◌++◌, Bool, true, false, ◌&&◌, ◌==◌, cond, map, flat_map, filter_map, Option, None, Some}
use Rattle.casper_words.specs.declared.call.Op.{Op}
use Rattle.casper_words.specs.declared.call.Op.TheVariants.{Read, Write, Touch}
use Rattle.casper_words.specs.declared.call.Call.{Call}
use Rattle.casper_trail.specs.declared.entry.Entry.{Entry}
use Rattle.casper_trail.specs.declared.item.Item.{Item}
use Rattle.casper_trail.specs.declared.item.Item.TheVariants as item
use Rattle.casper_trail.specs.Parts.{as_items}

abbrev pub is_read_or_write : Op → Bool
is_read_or_write Read = true
is_read_or_write Write = true
is_read_or_write Touch = false

-- whether an entry is a read or a write of this client
abbrev pub is_call_of : ℕ → Entry → Bool
is_call_of client entry = (entry.who == client) && is_read_or_write entry.op

-- an entry as the call that it recorded
abbrev pub call_of : Entry → Call
call_of entry = record { op = entry.op; page = entry.page; word = entry.word; value = entry.value }

-- the call that an item recorded, if it is a read or a write of this client
abbrev pub call_in : ℕ → Item → Option Call
call_in client (item.Entry entry) = cond (is_call_of client entry) (Some (call_of entry)) None
call_in client (item.Mark mark) = None

-- the reads and writes of a client, in order
abbrev pub calls_of : List Item → ℕ → List Call
calls_of items client = filter_map (call_in client) items

-- a call of a client as an entry
abbrev pub entry_by : ℕ → Call → Entry
entry_by who call = record { who = who; op = call.op; page = call.page; word = call.word; value = call.value }

-- the calls of a client as entries, in order
abbrev pub entries_by : ℕ → List Call → List Entry
entries_by who calls = map (entry_by who) calls

-- the entry that notes that a page was granted to a client
abbrev pub touch_by : ℕ → ℕ → Entry
touch_by who page = record { who = who; op = Touch; page = page; word = 0; value = 0 }

-- the recorded calls of a client, followed by those that are pending
abbrev pub own_list : List Item → ℕ → List Call → List Call
own_list items client pending = calls_of items client ++ pending

-- a client and its pending calls
pub record Pending : Type 0 where
  pub who : ℕ
  pub calls : List Call

-- the pending calls of these clients as entries, in their order
abbrev pub pending_entries : List Pending → List Entry
pending_entries pending = flat_map (λ own. entries_by own.who own.calls) pending

-- the items, followed by the pending calls of these clients
abbrev pub whole_history : List Item → List Pending → List Item
whole_history items pending = items ++ as_items (pending_entries pending)
