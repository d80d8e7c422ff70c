use Rattle.std.specs.Prelude.{◌≡◌, [], ◌∷◌, ◌++◌, List, map, None, Some}
use Rattle.std.specs.List.{last_or}
use Rattle.casper_words.specs.declared.call.Op.TheVariants as op
use Rattle.casper_words.specs.declared.page.Right.TheVariants as may
use Rattle.casper_trail.specs.Value.{word_at}
use Rattle.casper_trail.specs.declared.item.Item.{Item}
use Rattle.casper_trail.specs.declared.item.Item.TheVariants as item
use Rattle.casper_trail.specs.declared.mark.Mark.TheVariants as mark
use Rattle.casper_space.specs.declared.answer.Answer.{Answer}
use Rattle.casper_space.specs.declared.answer.Answer.TheVariants.{Joined, Value, Ok, Granted, Pending, Sealed, Written, Commit, VanishLost, RolledBack, LoseLost, Already, Absent, Left, NoJob}
use Rattle.casper_model.specs.declared.event.Event.{Event}
use Rattle.casper_model.specs.declared.event.Event.TheVariants.{Join, Read, Write, Acquire, Serve, Stabilise, WriteOut, Finish, Depart, Vanish, Lose}
use Rattle.casper_model.specs.Run.{state_after}
use Rattle.casper_model.specs.Row.{GivesQuietly, quiet, usual}

-- one client writes a page, and another reads it: the two are linked
abbrev pub linking : List Event
linking = Join 1 ∷ Join 2 ∷ Write 1 5 0 17 ∷ Read 2 5 0 ∷ Serve 1 ∷ Read 2 5 0 ∷ []

abbrev pub linked : List Answer
linked = Joined ∷ Joined ∷ Ok ∷ Pending (1 ∷ []) ∷ Ok ∷ Value 17 ∷ []

abbrev pub recall_and_merge : List Event
recall_and_merge = linking ++ Stabilise 1 ∷ WriteOut 1 ∷ Finish 1 ∷ Stabilise 1 ∷ []

-- a writer is recalled, and the reader's grant merges the two; the stabilisation of the one is that of both
abbrev pub RecallAndMerge : Type 0
RecallAndMerge =
    GivesQuietly usual recall_and_merge
    (linked ++ Sealed 1 ∷ Written 2 ∷ Commit 3 ∷ Commit 3 ∷ [])
    (record { commits = 1; rollbacks = 0; version = 2 })

-- its trail
abbrev pub TrailOfRecallAndMerge : Type 0
TrailOfRecallAndMerge =
    (state_after usual (map quiet recall_and_merge)).shared.trail
    ≡ item.Entry (record { who = 1; op = op.Touch; page = 5; word = 0; value = 0 })
    ∷ item.Entry (record { who = 1; op = op.Write; page = 5; word = 0; value = 17 })
    ∷ item.Entry (record { who = 2; op = op.Touch; page = 5; word = 0; value = 0 })
    ∷ item.Mark (mark.Commit 1 (1 ∷ 2 ∷ [])) ∷ []

abbrev pub unused_write_right : List Event
unused_write_right =
    Join 1 ∷ Join 2 ∷ Acquire 1 (record { page = 5; right = may.Write } ∷ []) ∷ Read 2 5 0 ∷ Serve 1 ∷ Read 2 5 0 ∷ Write 1 6 0 9 ∷ Stabilise 1
    ∷ WriteOut 1 ∷ Finish 1 ∷ []

-- a write right that was never used links nobody
abbrev pub WriteRightThatWasNeverUsed : Type 0
WriteRightThatWasNeverUsed =
    GivesQuietly usual unused_write_right
    (Joined ∷ Joined ∷ Granted ∷ Pending (1 ∷ []) ∷ Ok ∷ Value 0 ∷ Ok ∷ Sealed 1 ∷ Written 2 ∷ Commit 4 ∷ [])
    (record { commits = 1; rollbacks = 0; version = 2 })

-- whether this item ends the trail of a run in which nothing fails
abbrev pub EndsWith : List Event → Item → Type 0
EndsWith events last = last_or None (state_after usual (map quiet events)).shared.trail ≡ Some last

abbrev pub MarkOfWriteRightThatWasNeverUsed : Type 0
MarkOfWriteRightThatWasNeverUsed = EndsWith unused_write_right (item.Mark (mark.Commit 1 (1 ∷ [])))

abbrev pub merge_through_two_pages : List Event
merge_through_two_pages =
    Join 1 ∷ Join 2 ∷ Join 3 ∷ Join 4 ∷ Write 1 10 0 7 ∷ Read 2 10 0 ∷ Serve 1 ∷ Read 2 10 0 ∷ Write 2 20 0 8 ∷ Read 3 20 0 ∷ Serve 2 ∷ Read 3 20 0
    ∷ Write 4 30 0 9 ∷ Serve 4 ∷ Stabilise 3 ∷ WriteOut 3 ∷ Finish 3 ∷ []

-- three clients are linked through two pages, and made stable together. A fourth is not
abbrev pub MergeThroughTwoPages : Type 0
MergeThroughTwoPages =
    GivesQuietly usual merge_through_two_pages
    (Joined ∷ Joined ∷ Joined ∷ Joined ∷ Ok ∷ Pending (1 ∷ []) ∷ Ok ∷ Value 7 ∷ Ok ∷ Pending (2 ∷ []) ∷ Ok ∷ Value 8 ∷ Ok ∷ Ok ∷ Sealed 2 ∷ Written 2
    ∷ Commit 10 ∷ [])
    (record { commits = 1; rollbacks = 0; version = 2 })

abbrev pub MarkOfMergeThroughTwoPages : Type 0
MarkOfMergeThroughTwoPages = EndsWith merge_through_two_pages (item.Mark (mark.Commit 3 (1 ∷ 2 ∷ 3 ∷ [])))

-- what it made stable stands in the image, and what it did not does not
abbrev pub ImageOfMergeThroughTwoPages : Type 0
ImageOfMergeThroughTwoPages =
    let image = (state_after usual (map quiet merge_through_two_pages)).vault.image in
    (word_at image 10 0 ≡ 7) × (word_at image 20 0 ≡ 8) × (word_at image 30 0 ≡ 0)

-- the loss of one client rolls the other back too
abbrev pub LinkedRollback : Type 0
LinkedRollback =
    GivesQuietly usual
    (linking ++ Vanish 1 ∷ Serve 2 ∷ Read 2 5 0 ∷ [])
    (linked ++ VanishLost 3 0 ∷ RolledBack 3 0 1 ∷ Value 0 ∷ [])
    (record { commits = 0; rollbacks = 1; version = 1 })

-- a fallen client goes on to hit what its cache holds until its next turn
abbrev pub LateHits : Type 0
LateHits =
    GivesQuietly usual
    (linking ++ Serve 2 ∷ Read 2 5 0 ∷ Read 2 5 1 ∷ Vanish 1 ∷ Read 2 5 0 ∷ Serve 2 ∷ Read 2 5 0 ∷ [])
    (linked ++ Ok ∷ Value 17 ∷ Value 0 ∷ VanishLost 4 0 ∷ Value 17 ∷ RolledBack 4 1 3 ∷ Value 0 ∷ [])
    (record { commits = 0; rollbacks = 1; version = 1 })

abbrev pub departed_member : List Event
departed_member =
    Join 1 ∷ Join 2 ∷ Write 1 5 0 17 ∷ Depart 1 ∷ Read 2 5 0 ∷ Stabilise 2 ∷ WriteOut 2 ∷ Finish 2 ∷ WriteOut 2 ∷ Finish 2 ∷ []

-- a client that has departed stays in its association
abbrev pub DepartedMember : Type 0
DepartedMember =
    GivesQuietly usual departed_member
    (Joined ∷ Joined ∷ Ok ∷ Left ∷ Value 17 ∷ Sealed 1 ∷ Written 2 ∷ Commit 4 ∷ NoJob ∷ NoJob ∷ [])
    (record { commits = 1; rollbacks = 0; version = 2 })

abbrev pub MarkOfDepartedMember : Type 0
MarkOfDepartedMember = EndsWith departed_member (item.Mark (mark.Commit 2 (1 ∷ 2 ∷ [])))

-- a client that others declare lost goes on until it is told
abbrev pub DeclaredLoss : Type 0
DeclaredLoss =
    GivesQuietly usual
    (Join 1 ∷ Write 1 0 0 5 ∷ Lose 1 ∷ Lose 1 ∷ Read 1 0 0 ∷ Serve 1 ∷ Read 1 0 0 ∷ Lose 2 ∷ [])
    (Joined ∷ Ok ∷ LoseLost 1 ∷ Already 1 ∷ Value 5 ∷ RolledBack 1 0 2 ∷ Value 0 ∷ Absent ∷ [])
    (record { commits = 0; rollbacks = 1; version = 1 })
