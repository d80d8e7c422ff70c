use Rattle.std.specs.Prelude.{◌≡◌, [], ◌∷◌, ◌++◌, List, map, None, Some}
use Rattle.std.specs.List.{last_or}
use Rattle.casper_words.specs.declared.page.Right.TheVariants as may
use Rattle.casper_trail.specs.declared.item.Item.TheVariants as item
use Rattle.casper_trail.specs.declared.mark.Mark.TheVariants as mark
use Rattle.casper_space.specs.declared.answer.Answer.TheVariants.{Joined, Value, Ok, Granted, Pending, Frozen, InDoubt, RolledBack, Disk, Gathering, Sealed, Doing, Commit, FailedWorn, Written, Worn, Doubt, NoJob, Vault, Undone, Nothing, Left, VanishLost, LoseNoted}
use Rattle.casper_model.specs.declared.event.Event.TheVariants.{Join, Read, Write, Acquire, Serve, Stabilise, WriteOut, Finish, Settle, Depart, Vanish, Lose}
use Rattle.casper_model.specs.Outside.{WriteOutFailed, WriteOutDoubted}
use Rattle.casper_model.specs.Run.{Happening, state_after}
use Rattle.casper_model.specs.State.{start, zero_vault}
use Rattle.casper_model.specs.Row.{RunGives, GivesQuietly, quiet, usual}
use Rattle.casper_model.specs.AssociationRows.{linking, linked}
use Rattle.casper_model.specs.StabilisationRows.{gather, formatted}

-- the first turn after the finish that is no stabilise loses the outcome
abbrev pub OutcomeDropped : Type 0
OutcomeDropped =
    GivesQuietly usual
    (Join 1 ∷ Write 1 0 0 1 ∷ Stabilise 1 ∷ WriteOut 1 ∷ Finish 1 ∷ Serve 1 ∷ Stabilise 1 ∷ [])
    (Joined ∷ Ok ∷ Sealed 1 ∷ Written 2 ∷ Commit 2 ∷ Ok ∷ Sealed 0 ∷ [])
    (record { commits = 1; rollbacks = 0; version = 2 })

-- a turn before the finish does not end the wait for the outcome
abbrev pub TurnBeforeTheFinish : Type 0
TurnBeforeTheFinish =
    GivesQuietly usual
    (Join 1 ∷ Stabilise 1 ∷ Serve 1 ∷ WriteOut 1 ∷ Finish 1 ∷ Stabilise 1 ∷ [])
    (Joined ∷ Sealed 0 ∷ Ok ∷ Written 1 ∷ Commit 0 ∷ Commit 0 ∷ [])
    (record { commits = 1; rollbacks = 0; version = 1 })

-- departing does
abbrev pub AskerThatDeparted : Type 0
AskerThatDeparted =
    GivesQuietly usual
    (Join 1 ∷ Write 1 0 0 1 ∷ Stabilise 1 ∷ Depart 1 ∷ Join 1 ∷ WriteOut 1 ∷ Finish 1 ∷ Stabilise 1 ∷ [])
    (Joined ∷ Ok ∷ Sealed 1 ∷ Left ∷ Joined ∷ Written 2 ∷ Commit 2 ∷ Sealed 0 ∷ [])
    (record { commits = 1; rollbacks = 0; version = 2 })

-- a sealed association refuses its modified pages to others and what is missing to its members, and nothing else
abbrev pub FrozenPages : Type 0
FrozenPages =
    GivesQuietly usual
    (Join 1 ∷ Join 2 ∷ Write 1 5 0 17 ∷ Stabilise 1 ∷ Read 2 5 0 ∷ Read 2 6 0 ∷ Acquire 1 (record { page = 5; right = may.Read } ∷ []) ∷ Write 1 5 0 18 ∷ [])
    (Joined ∷ Joined ∷ Ok ∷ Sealed 1 ∷ Frozen 1 ∷ Value 0 ∷ Granted ∷ Frozen 1 ∷ [])
    (record { commits = 0; rollbacks = 0; version = 1 })

-- a page that another association modified is not refused
abbrev pub PagesOfOthersAreNotFrozen : Type 0
PagesOfOthersAreNotFrozen =
    GivesQuietly usual
    (Join 1 ∷ Join 2 ∷ Join 3 ∷ Write 1 0 0 1 ∷ Write 2 1 0 2 ∷ Stabilise 1 ∷ Read 3 1 0 ∷ Serve 2 ∷ Read 3 1 0 ∷ [])
    (Joined ∷ Joined ∷ Joined ∷ Ok ∷ Ok ∷ Sealed 1 ∷ Pending (2 ∷ []) ∷ Ok ∷ Value 2 ∷ [])
    (record { commits = 0; rollbacks = 0; version = 1 })

-- what is sealed is counted in pages, and the finish is of the lead that was written out
abbrev pub PagesAreCounted : Type 0
PagesAreCounted =
    GivesQuietly usual
    (Join 1 ∷ Join 2 ∷ Write 1 0 0 1 ∷ Write 1 0 1 2 ∷ Write 1 3 0 3 ∷ Stabilise 1 ∷ WriteOut 1 ∷ Finish 2 ∷ Finish 1 ∷ [])
    (Joined ∷ Joined ∷ Ok ∷ Ok ∷ Ok ∷ Sealed 2 ∷ Written 2 ∷ NoJob ∷ Commit 5 ∷ [])
    (record { commits = 1; rollbacks = 0; version = 2 })

-- two associations are sealed, and written out one after the other
abbrev pub OneWriteOutAtATime : Type 0
OneWriteOutAtATime =
    GivesQuietly usual
    (Join 1 ∷ Join 2 ∷ Write 1 0 0 1 ∷ Write 2 1 0 2 ∷ Stabilise 1 ∷ Stabilise 2 ∷ WriteOut 1 ∷ WriteOut 2 ∷ WriteOut 1 ∷ Finish 2 ∷ Finish 1
    ∷ WriteOut 2 ∷ Finish 2 ∷ [])
    (Joined ∷ Joined ∷ Ok ∷ Ok ∷ Sealed 1 ∷ Sealed 1 ∷ Written 2 ∷ Vault 1 ∷ NoJob ∷ NoJob ∷ Commit 4 ∷ Written 3 ∷ Commit 5 ∷ [])
    (record { commits = 2; rollbacks = 0; version = 3 })

-- none starts while one is in doubt
abbrev pub NoWriteOutInDoubt : Type 0
NoWriteOutInDoubt =
    RunGives (formatted 9)
    (map quiet (Join 1 ∷ Join 2 ∷ Write 1 0 0 1 ∷ Write 2 1 0 2 ∷ Stabilise 1 ∷ Stabilise 2 ∷ []) ++ record { event = WriteOut 1; outside = WriteOutDoubted }
    ∷ map quiet (Finish 1 ∷ WriteOut 2 ∷ Settle ∷ WriteOut 2 ∷ []))
    (Joined ∷ Joined ∷ Ok ∷ Ok ∷ Sealed 1 ∷ Sealed 1 ∷ Doubt ∷ InDoubt ∷ Vault 1 ∷ Commit 4 ∷ Written 3 ∷ [])
    (record { commits = 1; rollbacks = 0; version = 3 })

-- until the finish, a write-out that ended in doubt is like any that is not finished
abbrev pub DoubtBeforeItsFinish : Type 0
DoubtBeforeItsFinish =
    RunGives (formatted 9)
    (map quiet (Join 1 ∷ Write 1 0 0 1 ∷ Stabilise 1 ∷ []) ++ record { event = WriteOut 1; outside = WriteOutDoubted }
    ∷ map quiet (Settle ∷ Read 1 9 0 ∷ Stabilise 1 ∷ Finish 1 ∷ Settle ∷ []))
    (Joined ∷ Ok ∷ Sealed 1 ∷ Doubt ∷ Nothing ∷ Frozen 1 ∷ Doing 1 ∷ InDoubt ∷ Commit 2 ∷ [])
    (record { commits = 1; rollbacks = 0; version = 2 })

-- the awaited member asks for the stabilisation itself, and so hands in and seals it
abbrev pub SealedByAnAsker : Type 0
SealedByAnAsker =
    GivesQuietly usual
    (gather ++ Stabilise 2 ∷ WriteOut 1 ∷ Finish 1 ∷ Stabilise 2 ∷ [])
    (Joined ∷ Joined ∷ Ok ∷ Pending (1 ∷ []) ∷ Ok ∷ Ok ∷ Gathering (2 ∷ []) ∷ Doing 1 ∷ Written 2 ∷ Commit 4 ∷ Commit 4 ∷ [])
    (record { commits = 1; rollbacks = 0; version = 2 })

-- a client that left and joins again is a member again at once
abbrev pub MemberThatJoinsAgain : Type 0
MemberThatJoinsAgain =
    RunGives (formatted 9)
    (map quiet (Join 1 ∷ Write 1 0 0 1 ∷ Stabilise 1 ∷ Depart 1 ∷ Join 1 ∷ Read 1 9 0 ∷ Lose 1 ∷ []) ++ record { event = WriteOut 1; outside = WriteOutFailed }
    ∷ map quiet (Finish 1 ∷ Serve 1 ∷ []))
    (Joined ∷ Ok ∷ Sealed 1 ∷ Left ∷ Joined ∷ Frozen 1 ∷ LoseNoted 1 ∷ Disk ∷ Undone 2 ∷ RolledBack 2 1 0 ∷ [])
    (record { commits = 0; rollbacks = 1; version = 1 })

-- there is no version after the last
abbrev pub NoFurtherVersion : Type 0
NoFurtherVersion =
    GivesQuietly (start (record (zero_vault 16) { version = 281474976710655 }) 16 4194304 64)
    (Join 1 ∷ Write 1 0 0 1 ∷ Stabilise 1 ∷ WriteOut 1 ∷ Finish 1 ∷ Stabilise 1 ∷ [])
    (Joined ∷ Ok ∷ Sealed 1 ∷ Worn ∷ FailedWorn ∷ FailedWorn ∷ [])
    (record { commits = 0; rollbacks = 0; version = 281474976710655 })

abbrev pub two_losses : List Happening
two_losses =
    map quiet (linking ++ Stabilise 1 ∷ Lose 2 ∷ Lose 1 ∷ []) ++ record { event = WriteOut 1; outside = WriteOutFailed } ∷ map quiet (Finish 1 ∷ [])

-- of two losses that were noted the first is carried out
abbrev pub FirstNotedLoss : Type 0
FirstNotedLoss =
    RunGives (formatted 9) two_losses
    (linked ++ Sealed 1 ∷ LoseNoted 1 ∷ LoseNoted 1 ∷ Disk ∷ Undone 3 ∷ [])
    (record { commits = 0; rollbacks = 1; version = 1 })

abbrev pub MarkOfFirstNotedLoss : Type 0
MarkOfFirstNotedLoss = last_or None (state_after (formatted 9) two_losses).shared.trail ≡ Some (item.Mark (mark.Rollback 2 (1 ∷ 2 ∷ [])))

-- a fallen client that vanishes is lost by the mark that it fell by
abbrev pub FallenClientVanishes : Type 0
FallenClientVanishes =
    GivesQuietly usual
    (linking ++ Vanish 1 ∷ Vanish 2 ∷ [])
    (linked ++ VanishLost 3 0 ∷ VanishLost 3 1 ∷ [])
    (record { commits = 0; rollbacks = 1; version = 1 })
