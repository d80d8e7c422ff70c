use Rattle.std.specs.Prelude.{◌≡◌, ◌≢◌, ◌==◌, ◌||◌, ℕ, List, true, Some}
use Rattle.casper_words.specs.Crew.{IsClient, has_member, crew_of}
use Rattle.casper_trail.specs.Association.{alone}
use Rattle.casper_assoc.specs.Labelling.{Labelling, label_of, clients_labelled, writer_of, page_label_of, IsLabel, IsSound, MergesParts, DissolvesPart}
use Rattle.casper_assoc.specs.Written.{is_listed, AreWrittenBy}

-- each client is in the part with its label
abbrev pub ClientsAreInTheirPart : Type 0
ClientsAreInTheirPart = (all : Labelling) (client : ℕ) → IsClient client → has_member client (clients_labelled all (label_of all client)) ≡ true

-- and in no other: the clients of a part have its label
abbrev pub MembersHaveTheLabel : Type 0
MembersHaveTheLabel = (all : Labelling) (label client : ℕ) → has_member client (clients_labelled all label) ≡ true → label_of all client ≡ label

-- so two clients are in one part exactly where their labels are equal, and to be so is an equivalence
abbrev pub PartsGoByLabel : Type 0
PartsGoByLabel = (all : Labelling) (client other : ℕ) → IsClient other
    → has_member other (clients_labelled all (label_of all client)) ≡ (label_of all other == label_of all client)

-- the label of a page is a label of clients
abbrev pub PageLabelsAreLabels : Type 0
PageLabelsAreLabels = (all : Labelling) (page label : ℕ) → IsSound all → page_label_of all page ≡ Some label → IsLabel all label

-- a page that a client labelled has the client's label
abbrev pub WrittenPagesHaveTheLabel : Type 0
WrittenPagesHaveTheLabel = (all : Labelling) (who : ℕ) (pages : List ℕ) (page : ℕ) → AreWrittenBy all.writers who pages
    → is_listed page pages ≡ true → page_label_of all page ≡ Some (label_of all who)

-- a page with a label was labelled by a client of the part
abbrev pub LabelledPagesAreWritten : Type 0
LabelledPagesAreWritten = (all : Labelling) (page label : ℕ) → IsSound all → page_label_of all page ≡ Some label
    → (who : ℕ) × (writer_of all page ≡ Some who) × (has_member who (clients_labelled all label) ≡ true)

-- merging makes the two parts one
abbrev pub MergedPart : Type 0
MergedPart = (old new : Labelling) (a b : ℕ) → MergesParts old new a b
    → clients_labelled new a ≡ crew_of (λ client. has_member client (clients_labelled old a) || has_member client (clients_labelled old b))

-- and leaves every other part
abbrev pub OthersStayApart : Type 0
OthersStayApart = (old new : Labelling) (a b label : ℕ) → MergesParts old new a b → label ≢ a → label ≢ b
    → clients_labelled new label ≡ clients_labelled old label

-- a part that is dissolved leaves each of its clients alone
abbrev pub DissolvedAlone : Type 0
DissolvedAlone = (old new : Labelling) (label client : ℕ) → IsSound old → DissolvesPart old new label → IsClient client
    → label_of old client ≡ label → clients_labelled new (label_of new client) ≡ alone client

-- and every other part as it was
abbrev pub OthersStayWhole : Type 0
OthersStayWhole = (old new : Labelling) (label other : ℕ) → IsSound old → DissolvesPart old new label → IsLabel old other → other ≢ label
    → clients_labelled new other ≡ clients_labelled old other
