use Rattle.std.specs.Prelude.{◌≡◌, ℕ, Bool, ◌&&◌, not, ◌==◌, ◌↔◌, if◌then◌else◌, List, [], ◌∷◌, Option, Some, None, slice_get, option_and_then, length}
use Rattle.std.specs.List.{list_any}
use Rattle.casper_words.specs.declared.page.Right.{Right}
use Rattle.casper_words.specs.declared.page.Right.TheVariants.{Write}
use Rattle.casper_words.specs.Crew.{IsClient, has_member, crew_of}
use Rattle.casper_dir.specs.declared.holders.Holders.{Holders}
use Rattle.casper_dir.specs.Holding.{right_in, writer_in, reads, writes, is_in_conflict, AreClients}

-- the right of a client to a page, where it holds it: the triples of client, page and right
abbrev pub right_at : List Holders → ℕ → ℕ → Option Right
right_at rights client page = option_and_then (right_in client) (slice_get rights page)

-- the writer of a page, where it has one
abbrev pub writer_at : List Holders → ℕ → Option ℕ
writer_at rights page = option_and_then writer_in (slice_get rights page)

-- the clients that hold a page for reading
abbrev pub readers_at : List Holders → ℕ → List ℕ
readers_at rights page = crew_of (λ client. reads (right_at rights client page))

-- whether a client holds some page for writing
abbrev pub writes_some : List Holders → ℕ → Bool
writes_some rights client = list_any (λ holders. writes (right_in client holders)) rights

-- the clients that hold some page for writing
abbrev pub writers_in : List Holders → List ℕ
writers_in rights = crew_of (writes_some rights)

-- the other clients whose right to a page is in conflict with what a client wants
abbrev pub conflicts_at : List Holders → ℕ → ℕ → Right → List ℕ
conflicts_at rights page who want =
    crew_of (λ client. not (client == who) && is_in_conflict want (right_at rights client page))

-- one client's right to one page is as named; every other right stays
abbrev pub ChangesOneRight : List Holders → List Holders → ℕ → ℕ → Option Right → Type 0
ChangesOneRight old new who page right =
    (client q : ℕ) → IsClient client →
    right_at new client q ≡ (if client == who && q == page then right else right_at old client q)

-- these clients hold no page; every right of the others stays
abbrev pub RevokesRights : List Holders → List Holders → List ℕ → Type 0
RevokesRights old new members =
    (client q : ℕ) → IsClient client → right_at new client q ≡ (if has_member client members then None else right_at old client q)

-- the holders of every page are clients
abbrev pub AreAllClients : List Holders → Type 0
AreAllClients [] = Unit {0}
AreAllClients (holders ∷ rest) = AreClients holders × AreAllClients rest

-- a page has one writer or many readers
abbrev pub OneWriterOrReaders : Type 0
OneWriterOrReaders =
    (rights : List Holders) (page writer other : ℕ) → right_at rights writer page ≡ Some Write → (other ≡ writer → ⊥) → right_at rights other page ≡ None

-- the writer is the one client with the right to write
abbrev pub WriterHoldsToWrite : Type 0
WriterHoldsToWrite = (rights : List Holders) (page who : ℕ) → (writer_at rights page ≡ Some who) ↔ (right_at rights who page ≡ Some Write)

-- directories of as many pages that give every client the same rights are equal
abbrev pub SameRightsAreEqual : Type 0
SameRightsAreEqual =
    (xs ys : List Holders) → AreAllClients xs → AreAllClients ys → length xs ≡ length ys →
    ((client page : ℕ) → IsClient client → right_at xs client page ≡ right_at ys client page) → xs ≡ ys
