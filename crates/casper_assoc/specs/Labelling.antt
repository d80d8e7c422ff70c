use Rattle.std.specs.Prelude.{◌≡◌, ◌<◌, ℕ, Bool, false, ◌==◌, if◌then◌else◌, List, length, slice_index, slice_index_or, Option, None, Some, option_map}
use Rattle.std.specs.Option.{option_or}
use Rattle.casper_words.specs.Crew.{IsClient, crew_of}

-- the label of each client, at the place of its number, and for each page the client whose write labelled it, if it has a label
pub record Labelling : Type 0 where
  pub labels : List ℕ
  pub writers : List (Option ℕ)

-- the label of a client
abbrev pub label_of : Labelling → ℕ → ℕ
label_of all client = slice_index all.labels client

-- a part: the clients with one label
abbrev pub clients_labelled : Labelling → ℕ → List ℕ
clients_labelled all label = crew_of (λ client. label_of all client == label)

-- the client that labelled a page, if there is one
abbrev pub writer_of : Labelling → ℕ → Option ℕ
writer_of all page = slice_index_or all.writers page None

-- the label of a page is that of the client that labelled it
abbrev pub page_label_of : Labelling → ℕ → Option ℕ
page_label_of all page = option_map (label_of all) (writer_of all page)

-- a label of a client: it is the number of one of the clients that have it
abbrev pub IsLabel : Labelling → ℕ → Type 0
IsLabel all label = IsClient label × (label_of all label ≡ label)

-- the label of each client is a label, and pages were labelled by clients
pub record IsSound (all : Labelling) : Type 0 where
  pub places : length all.labels ≡ 33
  pub labels : (client : ℕ) → IsClient client → IsLabel all (label_of all client)
  pub writers : (page who : ℕ) → writer_of all page ≡ Some who → IsClient who

-- each client is a part by itself
abbrev pub AreAlone : Labelling → Type 0
AreAlone all = (client : ℕ) → IsClient client → label_of all client ≡ client

-- each of these places has the first label where it had the second, and else keeps its own
abbrev pub Renames : List ℕ → List ℕ → ℕ → ℕ → Type 0
Renames old new a b = (place : ℕ) → place < 33 → slice_index new place ≡ (if slice_index old place == b then a else slice_index old place)

-- each of these places has its own number where it had the label, and else keeps its own
abbrev pub SetsApart : List ℕ → List ℕ → ℕ → Type 0
SetsApart old new label = (place : ℕ) → place < 33
    → slice_index new place ≡ (if slice_index old place == label then place else slice_index old place)

-- the clients of the second part have the label of the first, and every other client keeps its label
abbrev pub MergesParts : Labelling → Labelling → ℕ → ℕ → Type 0
MergesParts old new a b = (client : ℕ) → IsClient client
    → label_of new client ≡ (if label_of old client == b then a else label_of old client)

-- each client of the part is a part by itself, and every other client keeps its label
abbrev pub DissolvesPart : Labelling → Labelling → ℕ → Type 0
DissolvesPart old new label = (client : ℕ) → IsClient client
    → label_of new client ≡ (if label_of old client == label then client else label_of old client)

-- whether the client that labelled a page, if there is one, passes a test
abbrev pub is_writer : (ℕ → Bool) → Option ℕ → Bool
is_writer test None = false
is_writer test (Some who) = test who

-- the pages of the part have no label, and every other page keeps its own
abbrev pub UnlabelsPages : Labelling → Labelling → ℕ → Type 0
UnlabelsPages old new label = (page : ℕ)
    → writer_of new page ≡ (if is_writer (λ who. label_of old who == label) (writer_of old page) then None else writer_of old page)

-- a page without a label gets the client's, and every other page keeps what it has
abbrev pub LabelsPage : Labelling → Labelling → ℕ → ℕ → Type 0
LabelsPage old new page who = (q : ℕ) → writer_of new q ≡ (if q == page then option_or (writer_of old q) (Some who) else writer_of old q)
