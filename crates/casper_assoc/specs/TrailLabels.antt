use Rattle.std.specs.Prelude.{◌≡◌, ◌==◌, ◌&&◌, if◌then◌else◌, ◌∷◌, ◌++◌, [], ℕ, Bool, true, false, List, Contains, Option, None, Some, option_map, is_some, find}
use Rattle.std.specs.List.{list_any}
use Rattle.std.specs.Option.{option_or}
use Rattle.casper_words.specs.declared.call.Call.{Call}
use Rattle.casper_words.specs.Crew.{IsClient}
use Rattle.casper_trail.specs.declared.entry.Entry.{Entry}
use Rattle.casper_trail.specs.declared.mark.Mark.{Mark}
use Rattle.casper_trail.specs.declared.mark.Mark.TheVariants.{Commit, Rollback}
use Rattle.casper_trail.specs.declared.item.Item.{Item}
use Rattle.casper_trail.specs.declared.item.Item.TheVariants as item
use Rattle.casper_trail.specs.Value.{is_write, writes_page}
use Rattle.casper_trail.specs.Parts.{open_entries, as_items}
use Rattle.casper_trail.specs.Calls.{entries_by}
use Rattle.casper_trail.specs.Modified.{is_modified, is_modified_by}
use Rattle.casper_trail.specs.Clients.{AreOfClients}
use Rattle.casper_trail.specs.Association.{association_of}
use Rattle.casper_trail.specs.Marks.{IsExactMark}
use Rattle.casper_assoc.specs.Labelling.{Labelling, label_of, clients_labelled, writer_of, page_label_of, is_writer, IsSound, AreAlone, MergesParts, DissolvesPart, UnlabelsPages, LabelsPage}

-- the client of the first open write of a page
abbrev pub first_writer : List Item → ℕ → Option ℕ
first_writer items page = option_map (λ write. write.who) (find (writes_page page) (open_entries items))

-- the parts are the associations of a trail, and each page was labelled by its first open write
pub record AreLabelsOf (all : Labelling) (items : List Item) : Type 0 where
  pub parts : (client : ℕ) → IsClient client → clients_labelled all (label_of all client) ≡ association_of items client
  pub pages : (page : ℕ) → writer_of all page ≡ first_writer items page

-- the pages with a label are exactly those with an open write
abbrev pub ModifiedPagesAreLabelled : Type 0
ModifiedPagesAreLabelled = (all : Labelling) (items : List Item) (page : ℕ) → AreLabelsOf all items
    → is_some (page_label_of all page) ≡ is_modified items page

-- each client with an open write of a page has the page's label
abbrev pub WritersHaveThePagesLabel : Type 0
WritersHaveThePagesLabel = (all : Labelling) (items : List Item) (page : ℕ) (write : Entry) → AreOfClients items → AreLabelsOf all items
    → Contains (open_entries items) write → writes_page page write ≡ true → page_label_of all page ≡ Some (label_of all write.who)

-- the pages with the label of a client are exactly those that its association modified
abbrev pub PagesOfAPart : Type 0
PagesOfAPart = (all : Labelling) (items : List Item) (client page : ℕ) → AreOfClients items → AreLabelsOf all items → IsClient client
    → is_modified_by (association_of items client) items page
    ≡ is_writer (λ who. label_of all who == label_of all client) (writer_of all page)

-- where each client is a part by itself and no page has a label, these are the labels of the trail that begins
abbrev pub LabelsAtTheStart : Type 0
LabelsAtTheStart = (all : Labelling) → AreAlone all → ((page : ℕ) → writer_of all page ≡ None) → AreLabelsOf all []

-- the part of a client and that of a page merged, where the page has a label
abbrev pub MergesWithPage : Labelling → Labelling → ℕ → Option ℕ → Type 0
MergesWithPage old new who None = new ≡ old
MergesWithPage old new who (Some label) = MergesParts old new (label_of old who) label × (new.writers ≡ old.writers)

-- the page of an entry labelled, where the entry is a write
abbrev pub NotesEntry : Labelling → Labelling → Entry → Bool → Type 0
NotesEntry old new entry false = new ≡ old
NotesEntry old new entry true = LabelsPage old new entry.page entry.who × (new.labels ≡ old.labels)

-- an entry makes one of the parts of its client and of its page, and labels the page where it is a write
abbrev pub EntryMergesParts : Type 0
EntryMergesParts = (old merged new : Labelling) (items : List Item) (entry : Entry) → AreOfClients items → IsClient entry.who
    → AreLabelsOf old items → MergesWithPage old merged entry.who (page_label_of old entry.page)
    → NotesEntry merged new entry (is_write entry.op)
    → AreLabelsOf new (items ++ item.Entry entry ∷ [])

-- whether a page has no label, or that of a client
abbrev pub IsFreeOrOf : ℕ → Option ℕ → Type 0
IsFreeOrOf label None = Unit {0}
IsFreeOrOf label (Some other) = other ≡ label

-- an entry on a page of its client's part merges nothing
abbrev pub EntryWithinPart : Type 0
EntryWithinPart = (old new : Labelling) (items : List Item) (entry : Entry) → AreOfClients items → IsClient entry.who
    → AreLabelsOf old items → IsFreeOrOf (label_of old entry.who) (page_label_of old entry.page)
    → NotesEntry old new entry (is_write entry.op)
    → AreLabelsOf new (items ++ item.Entry entry ∷ [])

-- whether one of these calls writes a page
abbrev pub writes_among : List Call → ℕ → Bool
writes_among calls page = list_any (λ call. is_write call.op && (call.page == page)) calls

-- the pages that calls of a client write labelled, where they have no label
abbrev pub NotesCalls : Labelling → Labelling → ℕ → List Call → Type 0
NotesCalls old new who calls = (page : ℕ)
    → writer_of new page ≡ (if writes_among calls page then option_or (writer_of old page) (Some who) else writer_of old page)

-- calls of a client on pages of its part merge nothing
abbrev pub CallsWithinPart : Type 0
CallsWithinPart = (old new : Labelling) (items : List Item) (who : ℕ) (calls : List Call) → AreOfClients items → IsClient who
    → AreLabelsOf old items → ((call : Call) → Contains calls call → IsFreeOrOf (label_of old who) (page_label_of old call.page))
    → NotesCalls old new who calls → new.labels ≡ old.labels → AreLabelsOf new (items ++ as_items (entries_by who calls))

-- the client whose association a mark names
abbrev pub named_by : Mark → ℕ
named_by (Commit lead members) = lead
named_by (Rollback lost members) = lost

-- a mark of an association dissolves its part
abbrev pub MarkDissolvesPart : Type 0
MarkDissolvesPart = (old new : Labelling) (items : List Item) (mark : Mark) → IsSound old → AreOfClients items → IsClient (named_by mark)
    → IsExactMark items mark → AreLabelsOf old items → DissolvesPart old new (label_of old (named_by mark))
    → UnlabelsPages old new (label_of old (named_by mark)) → AreLabelsOf new (items ++ item.Mark mark ∷ [])
