use Rattle.std.specs.Prelude.{◌≡◌, ◌↔◌, ◌<◌, ◌≤◌, ℕ, List, true, Option, None, Some, length, slice_index_or, ◌==◌}
use Rattle.std.specs.List.{IsDistinct}
use Rattle.casper_words.specs.Crew.{IsClient, has_member}
use Rattle.casper_trail.specs.declared.item.Item.{Item}
use Rattle.casper_trail.specs.Clients.{AreOfClients}
use Rattle.casper_trail.specs.Association.{association_of}
use Rattle.casper_model.specs.Frozen.{pages_modified_by}
use Rattle.casper_assoc.specs.Written.{is_listed}
use Rattle.casper_assoc.specs.TrailAssociations.{AssociationsView, AreAssociationsOf}

-- this is how many pages the association with these members has modified, in each trail whose associations these are
abbrev pub CountsPagesOf : AssociationsView → List ℕ → ℕ → Type 0
CountsPagesOf all members count = (items : List Item) → AreOfClients items → AreAssociationsOf all items → (who : ℕ) → IsClient who
    → members ≡ association_of items who → count ≡ length (pages_modified_by items members)

-- these are the pages that the association with these members has modified, rising, in each trail whose associations these are
abbrev pub ArePagesOf : AssociationsView → List ℕ → List ℕ → Type 0
ArePagesOf all members pages = (items : List Item) → AreOfClients items → AreAssociationsOf all items → (who : ℕ) → IsClient who
    → members ≡ association_of items who → pages ≡ pages_modified_by items members

-- a member with a lesser number than this labelled the page
abbrev pub IsOfMemberBelow : List (Option ℕ) → List ℕ → ℕ → ℕ → Type 0
IsOfMemberBelow writers members number page =
    (who : ℕ) × (1 ≤ who) × (who < number) × (has_member who members ≡ true) × (slice_index_or writers page None ≡ Some who)

-- these are the pages that the members with lesser numbers labelled, each once
pub record AreWrittenBelow (writers : List (Option ℕ)) (members : List ℕ) (number : ℕ) (pages : List ℕ) : Type 0 where
  pub exactly : (page : ℕ) → (is_listed page pages ≡ true) ↔ IsOfMemberBelow writers members number page
  pub once : IsDistinct (λ one other. one == other) pages
