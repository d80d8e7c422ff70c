use Rattle.std.specs.Prelude.{◌≡◌, ◌+◌, ◌≤◌, ◌<◌, ◌↔◌, ◌==◌, ℕ, Bool, true, List, [], length, Option, None, Some, slice_index, slice_index_or, if◌then◌else◌}
use Rattle.std.specs.List.{list_any, IsDistinct}
use Rattle.casper_words.specs.Roomed.{Roomed}
use Rattle.casper_assoc.specs.Labelling.{is_writer}

-- whether a page is in a list
abbrev pub is_listed : ℕ → List ℕ → Bool
is_listed page pages = list_any (λ listed. page == listed) pages

-- a list of exactly the pages that a client labelled, each once
pub record AreWrittenBy (writers : List (Option ℕ)) (who : ℕ) (pages : List ℕ) : Type 0 where
  pub exactly : (page : ℕ) → (is_listed page pages ≡ true) ↔ (slice_index_or writers page None ≡ Some who)
  pub once : IsDistinct (λ one other. one == other) pages

-- the pages whose writers pass a test have none, and every other page keeps its own
abbrev pub ForgetsWriters : (ℕ → Bool) → List (Option ℕ) → List (Option ℕ) → Type 0
ForgetsWriters test old new = (page : ℕ)
    → slice_index_or new page None ≡ (if is_writer test (slice_index_or old page None) then None else slice_index_or old page None)

-- the pages of the clients with a label have no writer, and every other page keeps its own
abbrev pub ForgetsPart : List ℕ → ℕ → List (Option ℕ) → List (Option ℕ) → Type 0
ForgetsPart labels label old new = ForgetsWriters (λ who. slice_index labels who == label) old new

-- the list of a client, at the place of its number
abbrev pub list_at : List (Roomed ℕ) → ℕ → Roomed ℕ
list_at lists who = slice_index_or lists who (record { items = []; room = 0 })

-- each client's list has the pages that it labelled, and memory for all pages
pub record AreLists (writers : List (Option ℕ)) (lists : List (Roomed ℕ)) : Type 0 where
  pub places : length lists ≡ 33
  pub written : (who : ℕ) → who < 33 → AreWrittenBy writers who (list_at lists who).items
  pub memory : (who : ℕ) → who < 33 → length writers ≤ length (list_at lists who).items + (list_at lists who).room

-- empty lists, one for each place of a client, with room for so many pages
pub record HaveRoom (pages : ℕ) (lists : List (Roomed ℕ)) : Type 0 where
  pub places : length lists ≡ 33
  pub none : (who : ℕ) → who < 33 → (list_at lists who).items ≡ []
  pub room : (who : ℕ) → who < 33 → pages ≤ (list_at lists who).room
