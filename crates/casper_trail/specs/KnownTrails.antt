use Rattle.std.specs.Prelude.{◌≡◌, ℕ, List, [], ◌∷◌}
use Rattle.casper_words.specs.declared.call.Op.TheVariants.{Read, Write}
use Rattle.casper_trail.specs.declared.mark.Mark.TheVariants.{Commit, Rollback}
use Rattle.casper_trail.specs.declared.item.Item.{Item}
use Rattle.casper_trail.specs.declared.item.Item.TheVariants as item
use Rattle.casper_trail.specs.Value.{zero_pages}
use Rattle.casper_trail.specs.Fate.{Fate, Dropped, Open, fate_of}
use Rattle.casper_trail.specs.Parts.{live_entries}
use Rattle.casper_trail.specs.Legal.{IsLegal}
use Rattle.casper_trail.specs.Association.{association_of}
use Rattle.casper_trail.specs.Marks.{HasExactMarks}
use Rattle.casper_trail.specs.Calls.{touch_by}

abbrev pub touched : ℕ → ℕ → Item
touched who page = item.Entry (touch_by who page)

abbrev pub has_read : ℕ → ℕ → ℕ → ℕ → Item
has_read who page word value = item.Entry (record { who = who; op = Read; page = page; word = word; value = value })

abbrev pub has_written : ℕ → ℕ → ℕ → ℕ → Item
has_written who page word value = item.Entry (record { who = who; op = Write; page = page; word = word; value = value })

-- client 2 is granted a page that client 1 has written, and client 1 commits for both
abbrev pub recall_and_merge : List Item
recall_and_merge = touched 1 5 ∷ has_written 1 5 0 17 ∷ touched 2 5 ∷ item.Mark (Commit 1 (1 ∷ 2 ∷ [])) ∷ []

abbrev pub RecallAndMergeIsExact : Type 0
RecallAndMergeIsExact = HasExactMarks recall_and_merge

-- client 1 is lost, and client 2, which was granted the page, goes back with it
abbrev pub linked_rollback : List Item
linked_rollback = touched 1 5 ∷ has_written 1 5 0 17 ∷ touched 2 5 ∷ item.Mark (Rollback 1 (1 ∷ 2 ∷ [])) ∷ touched 2 5 ∷ []

-- the fates of the entries, in order
abbrev pub fates_in : List Item → List Fate
fates_in [] = []
fates_in (item.Entry entry ∷ following) = fate_of entry.who following ∷ fates_in following
fates_in (item.Mark mark ∷ following) = fates_in following

abbrev pub LinkedRollbackFates : Type 0
LinkedRollbackFates = fates_in linked_rollback ≡ Dropped ∷ Dropped ∷ Dropped ∷ Open ∷ []

abbrev pub LinkedRollbackDropsBoth : Type 0
LinkedRollbackDropsBoth = live_entries linked_rollback ≡ touch_by 2 5 ∷ []

abbrev pub LinkedRollbackIsExact : Type 0
LinkedRollbackIsExact = HasExactMarks linked_rollback

-- clients 1, 2 and 3 are linked through two pages, and client 4 writes a page of its own
abbrev pub through_two_pages : List Item
through_two_pages =
    touched 1 10 ∷ has_written 1 10 0 7 ∷ touched 2 10 ∷ has_read 2 10 0 7 ∷ touched 2 20 ∷ has_written 2 20 0 8 ∷ touched 3 20
    ∷ touched 4 30 ∷ has_written 4 30 0 9 ∷ has_read 3 20 0 8 ∷ []

abbrev pub ThroughTwoPagesLinksThree : Type 0
ThroughTwoPagesLinksThree = association_of through_two_pages 3 ≡ 1 ∷ 2 ∷ 3 ∷ []

abbrev pub ThroughTwoPagesLeavesOne : Type 0
ThroughTwoPagesLeavesOne = association_of through_two_pages 4 ≡ 4 ∷ []

abbrev pub ThroughTwoPagesIsLegal : Type 0
ThroughTwoPagesIsLegal = IsLegal (zero_pages 32) through_two_pages

-- a read of a value that nobody wrote is not legal
abbrev pub StrayReadIsIllegal : Type 0
StrayReadIsIllegal = ¬ IsLegal (zero_pages 8) (has_written 1 5 0 17 ∷ has_read 2 5 0 16 ∷ [])
