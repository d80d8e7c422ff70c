use Rattle.std.specs.Prelude.{ℕ, Bool, true, false, ◌==◌, if◌then◌else◌, Option, Some, None}
use Rattle.casper_words.specs.declared.page.Right.{Right}
use Rattle.casper_words.specs.declared.page.Right.TheVariants.{Read, Write}
use Rattle.casper_words.specs.Crew.{has_member, IsClient, IsCrew}
use Rattle.casper_dir.specs.declared.holders.Holders.{Holders}
use Rattle.casper_dir.specs.declared.holders.Holders.TheVariants.{Readers, Writer}

-- the right of a client to a page with these holders, where it holds it
abbrev pub right_in : ℕ → Holders → Option Right
right_in client (Readers crew) = if has_member client crew then Some Read else None
right_in client (Writer who) = if client == who then Some Write else None

-- the writer, where there is one
abbrev pub writer_in : Holders → Option ℕ
writer_in (Readers crew) = None
writer_in (Writer who) = Some who

-- a held right is the right to read
abbrev pub reads : Option Right → Bool
reads (Some Read) = true
reads _ = false

-- a held right is the right to write
abbrev pub writes : Option Right → Bool
writes (Some Write) = true
writes _ = false

-- a held right of another client is in conflict with a want: a writer with every want, a reader with the
-- want to write
abbrev pub is_in_conflict : Right → Option Right → Bool
is_in_conflict want None = false
is_in_conflict Read (Some Read) = false
is_in_conflict Read (Some Write) = true
is_in_conflict Write (Some held) = true

-- the right after a grant: the one that is granted, but a writer stays one
abbrev pub raised : Option Right → Right → Right
raised (Some Write) granted = Write
raised _ granted = granted

-- the readers are a crew, and the writer is a client
abbrev pub AreClients : Holders → Type 0
AreClients (Readers crew) = IsCrew crew
AreClients (Writer who) = IsClient who
