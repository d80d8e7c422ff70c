use Rattle.std.specs.Prelude.{◌≡◌, ℕ, List, [], ◌∷◌, ◌++◌, Bool, not, filter}
use Rattle.casper_trail.specs.declared.entry.Entry.{Entry}
use Rattle.casper_trail.specs.declared.mark.Mark.{Mark}
use Rattle.casper_trail.specs.declared.mark.Mark.TheVariants.{Commit}
use Rattle.casper_trail.specs.declared.item.Item.{Item}
use Rattle.casper_trail.specs.declared.item.Item.TheVariants as item
use Rattle.casper_words.specs.Crew.{has_member}
use Rattle.casper_trail.specs.Fate.{Fate, fate_of, decided_first, members_of}
use Rattle.casper_trail.specs.Parts.{entries_where, live_entries, stable_entries, open_entries, as_items}

-- items after others decide what those left open
abbrev pub FateOfMore : Type 0
FateOfMore = (who : ℕ) (items more : List Item) → fate_of who (items ++ more) ≡ decided_first (fate_of who items) (fate_of who more)

-- entries decide nothing
abbrev pub FateOfMoreEntries : Type 0
FateOfMoreEntries = (who : ℕ) (items : List Item) (more : List Entry) → fate_of who (items ++ as_items more) ≡ fate_of who items

-- a part of items followed by others: of each list, by the fates in the whole
abbrev pub PartOfMore : Type 0
PartOfMore = (test : ℕ → Fate → Bool) (items more : List Item) → entries_where test (items ++ more)
    ≡ entries_where (λ who fate. test who (decided_first fate (fate_of who more))) items ++ entries_where test more

-- entries at the end are open there, and leave the parts as they are
abbrev pub LiveOfMoreEntries : Type 0
LiveOfMoreEntries = (items : List Item) (more : List Entry) → live_entries (items ++ as_items more) ≡ live_entries items ++ more

abbrev pub OpenOfMoreEntries : Type 0
OpenOfMoreEntries = (items : List Item) (more : List Entry) → open_entries (items ++ as_items more) ≡ open_entries items ++ more

abbrev pub StableOfMoreEntries : Type 0
StableOfMoreEntries = (items : List Item) (more : List Entry) → stable_entries (items ++ as_items more) ≡ stable_entries items

-- a mark leaves the open entries of others open
abbrev pub OpenAfterMark : Type 0
OpenAfterMark = (items : List Item) (mark : Mark) → open_entries (items ++ item.Mark mark ∷ [])
    ≡ filter (λ entry. not (has_member entry.who (members_of mark))) (open_entries items)

-- a commit drops nothing
abbrev pub LiveAfterCommit : Type 0
LiveAfterCommit = (items : List Item) (lead : ℕ) (members : List ℕ) → live_entries (items ++ item.Mark (Commit lead members) ∷ []) ≡ live_entries items
