use Rattle.std.specs.Prelude.{◌≡◌, ◌<◌, ◌∷◌, ◌++◌, [], ℕ, List, Contains, length, map, slice_index, count_by}
use Rattle.casper_words.specs.declared.call.Call.{Call}
use Rattle.casper_words.specs.declared.page.Want.{Want}
use Rattle.casper_words.specs.Crew.{IsClient, has_member}
use Rattle.casper_trail.specs.declared.entry.Entry.{Entry}
use Rattle.casper_trail.specs.declared.mark.Mark.{Mark}
use Rattle.casper_trail.specs.declared.item.Item.{Item}
use Rattle.casper_trail.specs.declared.item.Item.TheVariants as item
use Rattle.casper_trail.specs.Parts.{open_entries, as_items}
use Rattle.casper_trail.specs.Calls.{is_call_of, entries_by, touch_by}
use Rattle.casper_trail.specs.Clients.{AreOfClients}
use Rattle.casper_trail.specs.Modified.{is_modified_by}
use Rattle.casper_trail.specs.Association.{association_of}
use Rattle.casper_trail.specs.GrowthLaws.{WritersAreWith}
use Rattle.casper_trail.specs.Marks.{IsExactMark}
use Rattle.casper_assoc.specs.Labelling.{Labelling, IsSound}
use Rattle.casper_assoc.specs.TrailLabels.{AreLabelsOf, named_by}

-- what contracts see of associations: the labels, and the count of each client's open calls at the place of its number
pub record AssociationsView : Type 0 where
  pub labelling : Labelling
  pub counts : List ℕ

-- how many pages the store has
abbrev pub pages_in : AssociationsView → ℕ
pages_in all = length all.labelling.writers

-- the count of a client's open calls
abbrev pub open_calls_of : AssociationsView → ℕ → ℕ
open_calls_of all who = slice_index all.counts who

-- how many open reads and writes a client has in a trail. Touches are no calls
abbrev pub open_calls_in : List Item → ℕ → ℕ
open_calls_in items who = count_by (is_call_of who) (open_entries items)

-- the labels are those of a trail, and the counts are those of its open calls
pub record AreAssociationsOf (all : AssociationsView) (items : List Item) : Type 0 where
  pub labels : AreLabelsOf all.labelling items
  pub calls : (who : ℕ) → IsClient who → open_calls_of all who ≡ open_calls_in items who

-- the labels are sound, and each client has a place for its count
pub record AreSound (all : AssociationsView) : Type 0 where
  pub labels : IsSound all.labelling
  pub places : length all.counts ≡ 33

-- each call is on a page of the store
abbrev pub CallsAreWithin : AssociationsView → List Call → Type 0
CallsAreWithin all calls = (call : Call) → Contains calls call → call.page < pages_in all

-- each want is of a page of the store
abbrev pub WantsAreWithin : AssociationsView → List Want → Type 0
WantsAreWithin all wants = (want : Want) → Contains wants want → want.page < pages_in all

-- each page of a list is a page of the store
abbrev pub PagesAreWithin : AssociationsView → List ℕ → Type 0
PagesAreWithin all pages = (page : ℕ) → Contains pages page → page < pages_in all

-- these are the members of a client's association, in each trail whose associations these are
abbrev pub AreMembersOf : AssociationsView → ℕ → List ℕ → Type 0
AreMembersOf all who members = (items : List Item) → AreAssociationsOf all items → members ≡ association_of items who

-- these are the clients whose association modifies a page, in each trail whose associations these are
abbrev pub AreMembersOfPage : AssociationsView → ℕ → List ℕ → Type 0
AreMembersOfPage all page members = (items : List Item) → AreOfClients items → AreAssociationsOf all items
    → (client : ℕ) → is_modified_by (association_of items client) items page ≡ has_member client members

-- the open writes of each page of these calls are of members of the client's association
abbrev pub CallsAreWithWriters : List Item → ℕ → List Call → Type 0
CallsAreWithWriters items who calls = (call : Call) → Contains calls call → WritersAreWith items call.page who

-- the old are of a trail, and the new are of the trail with calls of a client on pages of its association
abbrev pub RecordsCalls : AssociationsView → AssociationsView → ℕ → List Call → Type 0
RecordsCalls old new who calls = (items : List Item) → AreOfClients items → AreAssociationsOf old items → CallsAreWithWriters items who calls
    → AreAssociationsOf new (items ++ as_items (entries_by who calls))

-- the old are of a trail, and the new are of the trail with a touch of a page by a client
abbrev pub TouchesPage : AssociationsView → AssociationsView → ℕ → ℕ → Type 0
TouchesPage old new who page = (items : List Item) → AreOfClients items → AreAssociationsOf old items
    → AreAssociationsOf new (items ++ item.Entry (touch_by who page) ∷ [])

-- the touches of the wanted pages by a client, in order
abbrev pub touches_by : ℕ → List Want → List Entry
touches_by who wants = map (λ want. touch_by who want.page) wants

-- the old are of a trail, and the new are of the trail with a touch of each wanted page by a client, in order
abbrev pub TouchesEach : AssociationsView → AssociationsView → ℕ → List Want → Type 0
TouchesEach old new who wants = (items : List Item) → AreOfClients items → AreAssociationsOf old items
    → AreAssociationsOf new (items ++ as_items (touches_by who wants))

-- the old are of a trail, and the new are of the trail with an exact mark that names a client
abbrev pub DissolvesAssociation : AssociationsView → AssociationsView → ℕ → Type 0
DissolvesAssociation old new who = (items : List Item) (mark : Mark) → AreOfClients items → AreAssociationsOf old items
    → IsExactMark items mark → named_by mark ≡ who → AreAssociationsOf new (items ++ item.Mark mark ∷ [])
