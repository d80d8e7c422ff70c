use Rattle.std.specs.Prelude.{◌≡◌, ℕ, ◌<◌, Bool, true, List, Option, Some, None, Contains, nat_eq, cond, [], ◌∷◌, ◌++◌, ◌==◌}
use Rattle.std.specs.HashMap.{get}
use Rattle.casper_words.specs.Crew.{IsClient, has_member}
use Rattle.casper_trail.specs.declared.entry.Entry.{Entry}
use Rattle.casper_trail.specs.declared.item.Item.{Item}
use Rattle.casper_trail.specs.Value.{is_write, writes_page, value_of}
use Rattle.casper_trail.specs.Parts.{live_entries, stable_entries, open_entries}
use Rattle.casper_trail.specs.Clients.{AreOfClients}
use Rattle.casper_trail.specs.Association.{association_of}
use Rattle.casper_audit.specs.Words.{values_in, live_in, stable_in, SetsOnly}
use Rattle.casper_audit.specs.Groups.{group_in, joint}
use Rattle.casper_audit.specs.Opened.{places_in, opened_in}
use Rattle.casper_audit.specs.Text.{most_pages}
use Rattle.casper_audit.specs.declared.words.Place.{Place}
use Rattle.casper_audit.specs.declared.groups.Groups.{Groups}
use Rattle.casper_audit.specs.declared.ledger.Ledger.{Ledger}

-- a client has an open write on a page
pub record HasOpenWrite (items : List Item) (page who : ℕ) : Type 0 where
  pub write : Entry
  pub among : Contains (open_entries items) write
  pub writes : writes_page page write ≡ true
  pub by : write.who ≡ who

-- what is kept of items over a base: the value of each word over the live entries and over the stable ones, for each page a client
-- with an open write on it if there is one, the places of the open writes of each client, and the association of each client
pub record Keeps (base : List (List ℕ)) (items : List Item) (live stable : ℕ → ℕ → ℕ) (writer : ℕ → Option ℕ) (opened : ℕ → ℕ → ℕ → Bool) (group : ℕ → List ℕ) : Type 0 where
  pub clients : AreOfClients items
  pub live_is : (page word : ℕ) → page < most_pages → word < 512 → live page word ≡ value_of base (live_entries items) page word
  pub stable_is : (page word : ℕ) → page < most_pages → word < 512 → stable page word ≡ value_of base (stable_entries items) page word
  pub written : (page who : ℕ) → writer page ≡ Some who → HasOpenWrite items page who
  pub unwritten : (page : ℕ) (write : Entry) → writer page ≡ None → Contains (open_entries items) write → writes_page page write ≡ true → ⊥
  pub has : (write : Entry) → Contains (open_entries items) write → is_write write.op ≡ true → opened write.who write.page write.word ≡ true
  pub had : (who page word : ℕ) → IsClient who → opened who page word ≡ true → HasOpenWrite items page who
  pub groups : (client : ℕ) → IsClient client → group client ≡ association_of items client

abbrev pub writer_in : Ledger → ℕ → Option ℕ
writer_in ledger page = get nat_eq ledger.writers page

-- a ledger keeps what is to be known of items over a base
abbrev pub IsLedger : List (List ℕ) → List Item → Ledger → Type 0
IsLedger base items ledger =
    Keeps base items (live_in ledger.words) (stable_in ledger.words) (writer_in ledger) (opened_in ledger.opened) (group_in ledger.groups)

-- a word got one value
pub record SetsBoth (place : Place) (value : ℕ) (before after : Ledger) : Type 0 where
  pub values : SetsOnly before.words after.words place (record { live = value; stable = value })
  pub writers : after.writers ≡ before.writers
  pub opened : after.opened ≡ before.opened
  pub groups : after.groups ≡ before.groups

-- the associations after a client is linked with the writer of a page, if there is one
abbrev pub linked : Groups → ℕ → Option ℕ → ℕ → List ℕ
linked groups who None client = group_in groups client
linked groups who (Some writer) client = cond (has_member client (joint groups who writer)) (joint groups who writer) (group_in groups client)

-- a client was linked with the writer of a page, if there is one
pub record Links (who page : ℕ) (before after : Ledger) : Type 0 where
  pub groups : (client : ℕ) → IsClient client → group_in after.groups client ≡ linked before.groups who (writer_in before page) client
  pub words : after.words ≡ before.words
  pub writers : after.writers ≡ before.writers
  pub opened : after.opened ≡ before.opened

-- a write was noted: its word has its value, its page its writer, and its client one place more
pub record Writes (who : ℕ) (place : Place) (value : ℕ) (before after : Ledger) : Type 0 where
  pub values : SetsOnly before.words after.words place (record { live = value; stable = (values_in before.words place).stable })
  pub writers : (page : ℕ) → writer_in after page ≡ cond (place.page == page) (Some who) (writer_in before page)
  pub opened : (client : ℕ) → IsClient client → places_in after.opened client ≡ cond (client == who) (places_in before.opened who ++ place ∷ []) (places_in before.opened client)
  pub groups : after.groups ≡ before.groups
