use Rattle.std.specs.Prelude.{◌≡◌, true, ℕ, zero, suc, List, [], ◌∷◌, ◌++◌, Bool, ◌&&◌, ◌||◌, ◌==◌, IsTrue, map, filter}
use Rattle.std.specs.List.{list_any}
use Rattle.casper_trail.specs.declared.entry.Entry.{Entry}
use Rattle.casper_trail.specs.declared.item.Item.{Item}
use Rattle.casper_words.specs.Crew.{IsClient, has_member, crew_of}
use Rattle.casper_trail.specs.Value.{writes_page}
use Rattle.casper_trail.specs.Parts.{open_entries}

-- the client of an open write, and the client of a later open entry on its page
pub record Link : Type 0 where
  pub writer : ℕ
  pub user : ℕ

-- the links of an entry to those after it: to each on a page that it writes
abbrev pub links_from : Entry → List Entry → List Link
links_from entry following =
    map (λ later. record { writer = entry.who; user = later.who }) (filter (λ later. writes_page later.page entry) following)

-- the links among these entries
abbrev pub links_among : List Entry → List Link
links_among [] = []
links_among (entry ∷ following) = links_from entry following ++ links_among following

-- the links of the open entries
abbrev pub links_of : List Item → List Link
links_of items = links_among (open_entries items)

-- whether a link joins these two clients
abbrev pub joins : ℕ → ℕ → Link → Bool
joins one other link = ((link.writer == one) && (link.user == other)) || ((link.writer == other) && (link.user == one))

-- an open write of the one stands before an open entry of the other on the same page
abbrev pub AreLinked : List Item → ℕ → ℕ → Type 0
AreLinked items one other = IsTrue (list_any (joins one other) (links_of items))

-- whether a link joins this client with a member
abbrev pub joins_member : List ℕ → ℕ → Link → Bool
joins_member members client link =
    ((link.writer == client) && has_member link.user members) || ((link.user == client) && has_member link.writer members)

-- the members and every client that is linked with one of them
abbrev pub with_linked : List Link → List ℕ → List ℕ
with_linked links members = crew_of (λ client. has_member client members || list_any (joins_member members client) links)

-- the members after so many rounds, each of which adds every client that is linked with a member
abbrev pub after_rounds : ℕ → List Link → List ℕ → List ℕ
after_rounds zero links members = members
after_rounds (suc rounds) links members = after_rounds rounds links (with_linked links members)

-- a client alone
abbrev pub alone : ℕ → List ℕ
alone client = crew_of (λ one. one == client)

-- a client with all clients that it reaches by links. There are 32 clients, so 32 rounds reach all
unfoldable pub association_of : List Item → ℕ → List ℕ
association_of items client = after_rounds 32 (links_of items) (alone client)

-- a test of clients that gives linked clients the same answer
abbrev pub IsClosedUnderLinks : List Item → (ℕ → Bool) → Type 0
IsClosedUnderLinks items test =
    (one other : ℕ) → IsClient one → IsClient other → AreLinked items one other → test one ≡ true → test other ≡ true
