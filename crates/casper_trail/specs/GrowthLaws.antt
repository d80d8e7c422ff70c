use Rattle.std.specs.Prelude.{◌≡◌, ◌≢◌, ℕ, List, [], ◌∷◌, ◌++◌, true, false, ◌||◌, Contains}
use Rattle.casper_words.specs.declared.call.Call.{Call}
use Rattle.casper_words.specs.Crew.{IsClient, has_member, crew_of}
use Rattle.casper_trail.specs.declared.entry.Entry.{Entry}
use Rattle.casper_trail.specs.declared.mark.Mark.{Mark}
use Rattle.casper_trail.specs.declared.item.Item.{Item}
use Rattle.casper_trail.specs.declared.item.Item.TheVariants as item
use Rattle.casper_trail.specs.Value.{writes_page}
use Rattle.casper_trail.specs.Fate.{members_of}
use Rattle.casper_trail.specs.Parts.{open_entries, as_items}
use Rattle.casper_trail.specs.Clients.{AreOfClients}
use Rattle.casper_trail.specs.Association.{association_of, alone}
use Rattle.casper_trail.specs.Marks.{IsExactMark}
use Rattle.casper_trail.specs.Calls.{entries_by}

-- the open writes of a page are of members of the client's association
abbrev pub WritersAreWith : List Item → ℕ → ℕ → Type 0
WritersAreWith items page client = (write : Entry) → Contains (open_entries items) write → writes_page page write ≡ true
    → has_member write.who (association_of items client) ≡ true

-- an association keeps its members as entries are added
abbrev pub AssociationGrows : Type 0
AssociationGrows = (items : List Item) (more : List Entry) (client who : ℕ) → has_member who (association_of items client) ≡ true
    → has_member who (association_of (items ++ as_items more) client) ≡ true

-- a client without open entries is alone
abbrev pub AloneWithoutEntries : Type 0
AloneWithoutEntries = (items : List Item) (client : ℕ) → ((entry : Entry) → Contains (open_entries items) entry → entry.who ≢ client)
    → association_of items client ≡ alone client

-- an entry of a client on a page whose open writes are of its association leaves all associations
abbrev pub AssociationOfOneMore : Type 0
AssociationOfOneMore = (items : List Item) (entry : Entry) → IsClient entry.who → WritersAreWith items entry.page entry.who
    → (client : ℕ) → association_of (items ++ item.Entry entry ∷ []) client ≡ association_of items client

-- so do calls of a client on such pages
abbrev pub AssociationOfMoreCalls : Type 0
AssociationOfMoreCalls = (items : List Item) (who : ℕ) (calls : List Call) → IsClient who
    → ((call : Call) → Contains calls call → WritersAreWith items call.page who)
    → (client : ℕ) → association_of (items ++ as_items (entries_by who calls)) client ≡ association_of items client

-- an entry on a page with an open write unites the two clients' associations
abbrev pub AssociationsUnite : Type 0
AssociationsUnite = (items : List Item) (write entry : Entry) → AreOfClients items → IsClient entry.who
    → Contains (open_entries items) write → writes_page entry.page write ≡ true
    → association_of (items ++ item.Entry entry ∷ []) entry.who
    ≡ crew_of (λ client. has_member client (association_of items entry.who) || has_member client (association_of items write.who))

-- and leaves each association that is neither
abbrev pub OthersStayApart : Type 0
OthersStayApart = (items : List Item) (write entry : Entry) (client : ℕ) → AreOfClients items → IsClient entry.who
    → Contains (open_entries items) write → writes_page entry.page write ≡ true
    → has_member client (association_of items entry.who) ≡ false → has_member client (association_of items write.who) ≡ false
    → association_of (items ++ item.Entry entry ∷ []) client ≡ association_of items client

-- after an exact mark each of its members is alone
abbrev pub MembersAfterMark : Type 0
MembersAfterMark = (items : List Item) (mark : Mark) (client : ℕ) → has_member client (members_of mark) ≡ true
    → association_of (items ++ item.Mark mark ∷ []) client ≡ alone client

-- and every other association stays
abbrev pub OthersAfterMark : Type 0
OthersAfterMark = (items : List Item) (mark : Mark) (client : ℕ) → IsExactMark items mark → has_member client (members_of mark) ≡ false
    → association_of (items ++ item.Mark mark ∷ []) client ≡ association_of items client
