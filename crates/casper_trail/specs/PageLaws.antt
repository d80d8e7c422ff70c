use Rattle.std.specs.Prelude.{◌≡◌, ◌<◌, ℕ, List, [], ◌∷◌, ◌++◌, Bool, true, false, filter, Contains}
use Rattle.casper_words.specs.Crew.{has_member}
use Rattle.casper_trail.specs.declared.entry.Entry.{Entry}
use Rattle.casper_trail.specs.declared.mark.Mark.{Mark}
use Rattle.casper_trail.specs.declared.mark.Mark.TheVariants.{Commit}
use Rattle.casper_trail.specs.declared.item.Item.{Item}
use Rattle.casper_trail.specs.declared.item.Item.TheVariants as item
use Rattle.casper_trail.specs.Value.{word_at, IsArray, value_of, writes_page}
use Rattle.casper_trail.specs.Fate.{Fate, Stable, Dropped, Open, members_of}
use Rattle.casper_trail.specs.Parts.{entries_where, live_entries, stable_entries, open_entries, stable_or_open_of}
use Rattle.casper_trail.specs.Clients.{AreOfClients}
use Rattle.casper_trail.specs.Modified.{is_modified, is_modified_by}
use Rattle.casper_trail.specs.Association.{association_of}
use Rattle.casper_trail.specs.Image.{image_of, image_with}

-- each open write of a page is of a client that passes the test
abbrev pub OpenWritersPass : List Item → ℕ → (ℕ → Type 0) → Type 0
OpenWritersPass items page P = (write : Entry) → Contains (open_entries items) write → writes_page page write ≡ true → P write.who

-- a page that is not modified has no open write
abbrev pub UnmodifiedPage : Type 0
UnmodifiedPage = (items : List Item) (page : ℕ) → is_modified items page ≡ false → OpenWritersPass items page (λ who. ⊥)

-- a page that no member modified has open writes of others alone
abbrev pub PageOfOthers : Type 0
PageOfOthers = (members : List ℕ) (items : List Item) (page : ℕ) → is_modified_by members items page ≡ false
    → OpenWritersPass items page (λ who. has_member who members ≡ false)

-- a page that a member of an association modified has open writes of the association alone
abbrev pub PageOfAssociation : Type 0
PageOfAssociation = (items : List Item) (client page : ℕ) → AreOfClients items → is_modified_by (association_of items client) items page ≡ true
    → OpenWritersPass items page (λ who. has_member who (association_of items client) ≡ true)

-- two parts that decide alike but for open entries, and alike for the open writes of a page, have the same writes of the page
abbrev pub SameWritesOfAPage : Type 0
SameWritesOfAPage = (one other : ℕ → Fate → Bool) (items : List Item) (page : ℕ)
    → ((who : ℕ) → one who Stable ≡ other who Stable) → ((who : ℕ) → one who Dropped ≡ other who Dropped)
    → OpenWritersPass items page (λ who. one who Open ≡ other who Open)
    → filter (writes_page page) (entries_where one items) ≡ filter (writes_page page) (entries_where other items)

-- a mark leaves the values of a page that has no open write of a member
abbrev pub ValueAfterMark : Type 0
ValueAfterMark = (base : List (List ℕ)) (items : List Item) (mark : Mark) (page word : ℕ)
    → OpenWritersPass items page (λ who. has_member who (members_of mark) ≡ false)
    → value_of base (live_entries (items ++ item.Mark mark ∷ [])) page word ≡ value_of base (live_entries items) page word

-- a page without open writes has its values in the image
abbrev pub ValueOfCleanPage : Type 0
ValueOfCleanPage = (pages : ℕ) (base : List (List ℕ)) (items : List Item) (page word : ℕ) → IsArray pages base → page < pages → word < 512
    → OpenWritersPass items page (λ who. ⊥) → word_at (image_of base items) page word ≡ value_of base (live_entries items) page word

-- a page whose open writes are of an association has its values in the image with the association
abbrev pub ValueOfModifiedPage : Type 0
ValueOfModifiedPage = (pages : ℕ) (base : List (List ℕ)) (items : List Item) (client page word : ℕ) → IsArray pages base → page < pages → word < 512
    → OpenWritersPass items page (λ who. has_member who (association_of items client) ≡ true)
    → word_at (image_with base items client) page word ≡ value_of base (live_entries items) page word

-- a page without open writes of an association is the same in both images
abbrev pub ImageOfOtherPage : Type 0
ImageOfOtherPage = (pages : ℕ) (base : List (List ℕ)) (items : List Item) (client page word : ℕ) → IsArray pages base → page < pages → word < 512
    → OpenWritersPass items page (λ who. has_member who (association_of items client) ≡ false)
    → word_at (image_with base items client) page word ≡ word_at (image_of base items) page word

-- a commit makes the open entries of its members stable
abbrev pub StableAfterCommit : Type 0
StableAfterCommit = (items : List Item) (lead : ℕ) (members : List ℕ)
    → stable_entries (items ++ item.Mark (Commit lead members) ∷ []) ≡ stable_or_open_of members items

-- the image after an exact commit is the image with the association of its lead
abbrev pub ImageAfterCommit : Type 0
ImageAfterCommit = (base : List (List ℕ)) (items : List Item) (lead : ℕ)
    → image_of base (items ++ item.Mark (Commit lead (association_of items lead)) ∷ []) ≡ image_with base items lead
