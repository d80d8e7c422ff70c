use Rattle.std.specs.Prelude.{◌≡◌, filter, Contains, ℕ, List, [], ◌∷◌, ◌++◌, ◌↔◌}
use Rattle.casper_trail.specs.declared.entry.Entry.{Entry}
use Rattle.casper_trail.specs.declared.mark.Mark.{Mark}
use Rattle.casper_trail.specs.declared.item.Item.{Item}
use Rattle.casper_trail.specs.declared.item.Item.TheVariants as item
use Rattle.casper_trail.specs.Value.{writes_page}
use Rattle.casper_trail.specs.Parts.{live_entries, as_items}
use Rattle.casper_trail.specs.Legal.{IsLegal, AreRightAfter, IsRightAfter}
use Rattle.casper_trail.specs.Marks.{HasExactMarks, IsExactMark}

-- items followed by entries are legal where the items are, and each entry is right after the live ones
abbrev pub LegalOfMoreEntries : Type 0
LegalOfMoreEntries = (base : List (List ℕ)) (items : List Item) (more : List Entry)
    → IsLegal base (items ++ as_items more) ↔ (IsLegal base items × AreRightAfter base (live_entries items) more)

-- entries without marks are legal where each is right after the ones before it
abbrev pub LegalWithoutMarks : Type 0
LegalWithoutMarks = (base : List (List ℕ)) (entries : List Entry) → IsLegal base (as_items entries) ↔ AreRightAfter base [] entries

-- entries that are right after some, and others after them
abbrev pub RightOfMore : Type 0
RightOfMore = (base : List (List ℕ)) (before entries more : List Entry)
    → AreRightAfter base before (entries ++ more) ↔ (AreRightAfter base before entries × AreRightAfter base (before ++ entries) more)

-- entries are right after any list that has the same writes of their pages
abbrev pub RightBySameWrites : Type 0
RightBySameWrites = (base : List (List ℕ)) (one other entries : List Entry)
    → ((entry : Entry) → Contains entries entry → filter (writes_page entry.page) one ≡ filter (writes_page entry.page) other)
    → AreRightAfter base one entries → AreRightAfter base other entries

-- a mark keeps items legal
abbrev pub LegalAfterMark : Type 0
LegalAfterMark = (base : List (List ℕ)) (items : List Item) (mark : Mark) → IsLegal base items → IsLegal base (items ++ item.Mark mark ∷ [])

-- every prefix of legal items is legal
abbrev pub LegalPrefix : Type 0
LegalPrefix = (base : List (List ℕ)) (items more : List Item) → IsLegal base (items ++ more) → IsLegal base items

-- entries keep the marks exact
abbrev pub ExactOfMoreEntries : Type 0
ExactOfMoreEntries = (items : List Item) (more : List Entry) → HasExactMarks items → HasExactMarks (items ++ as_items more)

-- so does a mark that is exact after the items
abbrev pub ExactAfterMark : Type 0
ExactAfterMark = (items : List Item) (mark : Mark) → HasExactMarks items → IsExactMark items mark → HasExactMarks (items ++ item.Mark mark ∷ [])

-- every prefix of items with exact marks has exact marks
abbrev pub ExactPrefix : Type 0
ExactPrefix = (items more : List Item) → HasExactMarks (items ++ more) → HasExactMarks items

-- each mark of items with exact marks is exact after the items before it
abbrev pub ExactAtEachMark : Type 0
ExactAtEachMark = (before after : List Item) (mark : Mark) → HasExactMarks (before ++ item.Mark mark ∷ after) → IsExactMark before mark

-- each entry of legal items is right after the entries that are live before it
abbrev pub RightAtEachEntry : Type 0
RightAtEachEntry = (base : List (List ℕ)) (before after : List Item) (entry : Entry) → IsLegal base (before ++ item.Entry entry ∷ after)
    → IsRightAfter base (live_entries before) entry
