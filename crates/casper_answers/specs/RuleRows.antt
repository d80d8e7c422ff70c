use Rattle.std.specs.Prelude.{◌≡◌, ℕ, List, [], ◌∷◌, ◌++◌, map, Some}
use Rattle.casper_words.specs.declared.page.Right.TheVariants as may
use Rattle.casper_words.specs.declared.page.Want.{Want}
use Rattle.casper_space.specs.declared.answer.Answer.TheVariants.{Joined, Busy, Range, Value, Ok, Granted, Pending, Frozen, InDoubt, RolledBack, TrailFull, Gathering, Sealed, Doing, Doubtful, Commit, FailedWorn, Written, Full, Worn, Doubt, Undone, Left, LoseLost, LoseNoted}
use Rattle.casper_space.specs.Changes.{VaultRoom, last_version, need_of}
use Rattle.casper_model.specs.declared.event.Event.{Event}
use Rattle.casper_model.specs.declared.event.Event.TheVariants.{Join, Read, Write, Acquire, Hold, Serve, Stabilise, WriteOut, Finish, Settle, Depart, Lose}
use Rattle.casper_model.specs.Outside.{WriteOutDoubted}
use Rattle.casper_model.specs.Row.{RunGives, GivesQuietly, quiet, usual}
use Rattle.casper_model.specs.Run.{Happening, state_after}
use Rattle.casper_model.specs.Shared.{asks_at}
use Rattle.casper_model.specs.State.{State, start, zero_start, zero_vault}

-- Runs worked out by hand from the rules, each for a rule that is easily turned.

abbrev pub to_read : ℕ → Want
to_read page = record { page = page; right = may.Read }

abbrev pub to_write : ℕ → Want
to_write page = record { page = page; right = may.Write }

-- a store that was never written, with so many pages and frames, and this version
abbrev pub store : ℕ → ℕ → ℕ → State
store pages frames version =
    start (record (zero_vault pages) { version = version; room = Some (record { frames = frames; pages = []; blocks = []; top = 0; extra = 0 }) })
    pages 4194304 64

-- a client that was no member stabilises after another's finish: it begins anew, and the other's outcome is kept
abbrev pub StrangerAfterAFinish : Type 0
StrangerAfterAFinish =
    GivesQuietly usual
    (Join 1 ∷ Join 2 ∷ Write 1 0 0 1 ∷ Stabilise 1 ∷ WriteOut 1 ∷ Finish 1 ∷ Stabilise 2 ∷ Stabilise 1 ∷ [])
    (Joined ∷ Joined ∷ Ok ∷ Sealed 1 ∷ Written 2 ∷ Commit 2 ∷ Sealed 0 ∷ Commit 2 ∷ [])
    (record { commits = 1; rollbacks = 0; version = 2 })

-- a rollback beside another association's gather leaves it: it is sealed by its own member's serve
abbrev pub RollbackBesideAGather : Type 0
RollbackBesideAGather =
    GivesQuietly usual
    (Join 1 ∷ Join 2 ∷ Write 1 5 0 17 ∷ Write 2 5 1 18 ∷ Serve 1 ∷ Write 2 5 1 18 ∷ Stabilise 1 ∷ Join 3 ∷ Write 3 9 0 5 ∷ Lose 3 ∷ Serve 2
    ∷ Stabilise 1 ∷ WriteOut 1 ∷ Finish 1 ∷ [])
    (Joined ∷ Joined ∷ Ok ∷ Pending (1 ∷ []) ∷ Ok ∷ Ok ∷ Gathering (2 ∷ []) ∷ Joined ∷ Ok ∷ LoseLost 4 ∷ Ok
    ∷ Doing 1 ∷ Written 2 ∷ Commit 6 ∷ [])
    (record { commits = 1; rollbacks = 1; version = 2 })

-- a client writes a page, and its write-out ends in doubt
abbrev pub doubted : List Event → List Event → List Happening
doubted before after =
    map quiet before ++ record { event = WriteOut 1; outside = WriteOutDoubted } ∷ map quiet (Finish 1 ∷ after)

-- a serve in doubt, of a member or of another, leaves the doubt
abbrev pub ServeInDoubt : Type 0
ServeInDoubt =
    RunGives (store 1024 9 1)
    (doubted (Join 1 ∷ Join 2 ∷ Write 1 0 0 1 ∷ Stabilise 1 ∷ []) (Serve 1 ∷ Serve 2 ∷ Stabilise 1 ∷ Settle ∷ []))
    (Joined ∷ Joined ∷ Ok ∷ Sealed 1 ∷ Doubt ∷ InDoubt ∷ Ok ∷ Ok ∷ Doubtful 1 ∷ Commit 2 ∷ [])
    (record { commits = 1; rollbacks = 0; version = 2 })

-- a loss is noted, and the write-out has too little room: the finish carries the loss out
abbrev pub LossNotedThenFull : Type 0
LossNotedThenFull =
    GivesQuietly (store 1024 1 1)
    (Join 1 ∷ Write 1 0 0 1 ∷ Stabilise 1 ∷ Lose 1 ∷ WriteOut 1 ∷ Finish 1 ∷ Serve 1 ∷ [])
    (Joined ∷ Ok ∷ Sealed 1 ∷ LoseNoted 1 ∷ Full 2 1 ∷ Undone 2 ∷ RolledBack 2 1 0 ∷ [])
    (record { commits = 0; rollbacks = 1; version = 1 })

-- and so where there is no further version
abbrev pub LossNotedThenWorn : Type 0
LossNotedThenWorn =
    GivesQuietly (store 1024 9 last_version)
    (Join 1 ∷ Write 1 0 0 1 ∷ Stabilise 1 ∷ Lose 1 ∷ WriteOut 1 ∷ Finish 1 ∷ Serve 1 ∷ [])
    (Joined ∷ Ok ∷ Sealed 1 ∷ LoseNoted 1 ∷ Worn ∷ Undone 2 ∷ RolledBack 2 1 0 ∷ [])
    (record { commits = 0; rollbacks = 1; version = last_version })

-- the lead that is told is that of the first want in order whose page is frozen, not of the first association that froze
abbrev pub FrozenByTheFirstWant : Type 0
FrozenByTheFirstWant =
    GivesQuietly usual
    (Join 1 ∷ Join 2 ∷ Join 3 ∷ Write 1 1 0 1 ∷ Write 2 0 0 2 ∷ Stabilise 1 ∷ Stabilise 2 ∷ Acquire 3 (to_read 0 ∷ to_read 1 ∷ []) ∷ [])
    (Joined ∷ Joined ∷ Joined ∷ Ok ∷ Ok ∷ Sealed 1 ∷ Sealed 1 ∷ Frozen 2 ∷ [])
    (record { commits = 0; rollbacks = 0; version = 1 })

-- the lead of one's own association comes before that of a page's
abbrev pub FrozenByOnesOwn : Type 0
FrozenByOnesOwn =
    GivesQuietly usual
    (Join 1 ∷ Join 3 ∷ Write 1 1 0 1 ∷ Write 3 0 0 1 ∷ Stabilise 1 ∷ Stabilise 3 ∷ Read 3 1 0 ∷ [])
    (Joined ∷ Joined ∷ Ok ∷ Ok ∷ Sealed 1 ∷ Sealed 1 ∷ Frozen 3 ∷ [])
    (record { commits = 0; rollbacks = 0; version = 1 })

-- in doubt comes before frozen, by a page of a later want, and by a page beside one's own association's lead
abbrev pub InDoubtBeforeFrozen : Type 0
InDoubtBeforeFrozen =
    RunGives (store 1024 9 1)
    (doubted (Join 1 ∷ Join 2 ∷ Join 3 ∷ Write 1 1 0 1 ∷ Write 2 0 0 2 ∷ Stabilise 1 ∷ Stabilise 2 ∷ [])
    (Acquire 3 (to_read 0 ∷ to_read 1 ∷ []) ∷ Read 2 1 0 ∷ Read 3 0 0 ∷ Settle ∷ []))
    (Joined ∷ Joined ∷ Joined ∷ Ok ∷ Ok ∷ Sealed 1 ∷ Sealed 1 ∷ Doubt ∷ InDoubt ∷ InDoubt ∷ InDoubt ∷ Frozen 2 ∷ Commit 4 ∷ [])
    (record { commits = 1; rollbacks = 0; version = 2 })

-- pending comes before trail full: the second client is promised one entry, and needs two
abbrev pub PendingBeforeTrailFull : Type 0
PendingBeforeTrailFull =
    GivesQuietly (zero_start 16 4101 64)
    (Join 1 ∷ Join 2 ∷ Write 1 0 0 1 ∷ Write 2 0 0 7 ∷ Write 2 1 0 7 ∷ [])
    (Joined ∷ Joined ∷ Ok ∷ Pending (1 ∷ []) ∷ TrailFull 1 ∷ [])
    (record { commits = 0; rollbacks = 0; version = 1 })

-- trail full tells the entries, not the items: the trail has a mark beside its two entries
abbrev pub TrailFullTellsEntries : Type 0
TrailFullTellsEntries =
    GivesQuietly (zero_start 16 4102 64)
    (Join 1 ∷ Join 2 ∷ Lose 2 ∷ Serve 2 ∷ Write 2 0 0 7 ∷ Write 2 1 0 7 ∷ [])
    (Joined ∷ Joined ∷ LoseLost 0 ∷ RolledBack 0 0 0 ∷ Ok ∷ TrailFull 2 ∷ [])
    (record { commits = 0; rollbacks = 1; version = 1 })

-- a call needs room for its page's touch and for itself alone
abbrev pub RoomForOneCall : Type 0
RoomForOneCall =
    GivesQuietly (zero_start 16 4102 64)
    (Join 1 ∷ Join 2 ∷ Read 2 0 0 ∷ Read 2 0 0 ∷ [])
    (Joined ∷ Joined ∷ Value 0 ∷ TrailFull 2 ∷ [])
    (record { commits = 0; rollbacks = 0; version = 1 })

-- the wants of a client as it asks for them
abbrev pub asked_after : List Event → List Want
asked_after events = asks_at (state_after usual (map quiet events)).shared 2

-- of the wants of a refused acquire those that are blocked become asks, and they end with any other answer
abbrev pub AsksAreTheBlockedWants : Type 0
AsksAreTheBlockedWants =
    (asked_after (Join 1 ∷ Join 2 ∷ Write 1 0 0 1 ∷ Acquire 2 (to_write 0 ∷ to_write 1 ∷ []) ∷ []) ≡ to_write 0 ∷ [])
    × (asked_after (Join 1 ∷ Join 2 ∷ Write 1 0 0 1 ∷ Acquire 2 (to_write 0 ∷ to_write 1 ∷ []) ∷ Acquire 2 (to_read 1 ∷ []) ∷ []) ≡ [])
    × (asked_after (Join 1 ∷ Join 2 ∷ Write 1 0 0 1 ∷ Read 2 0 0 ∷ Stabilise 1 ∷ Read 2 0 0 ∷ []) ≡ [])

-- one page past the end makes an acquire out of range, whatever stands beside it
abbrev pub OnePagePastTheEnd : Type 0
OnePagePastTheEnd =
    GivesQuietly usual
    (Join 1 ∷ Acquire 1 (to_read 0 ∷ to_read 16384 ∷ []) ∷ Acquire 1 (to_read 0 ∷ to_read 16383 ∷ []) ∷ [])
    (Joined ∷ Range ∷ Granted ∷ [])
    (record { commits = 0; rollbacks = 0; version = 1 })

-- a departure that tells a fall leaves its client live
abbrev pub DepartOfAFallenClient : Type 0
DepartOfAFallenClient =
    GivesQuietly usual
    (Join 1 ∷ Lose 1 ∷ Depart 1 ∷ Join 1 ∷ Depart 1 ∷ Join 1 ∷ [])
    (Joined ∷ LoseLost 0 ∷ RolledBack 0 0 0 ∷ Busy ∷ Left ∷ Joined ∷ [])
    (record { commits = 0; rollbacks = 1; version = 1 })

-- where there is neither a further version nor room, worn is told
abbrev pub WornBeforeFull : Type 0
WornBeforeFull =
    GivesQuietly (store 1024 1 last_version)
    (Join 1 ∷ Write 1 0 0 1 ∷ Stabilise 1 ∷ WriteOut 1 ∷ Finish 1 ∷ [])
    (Joined ∷ Ok ∷ Sealed 1 ∷ Worn ∷ FailedWorn ∷ [])
    (record { commits = 0; rollbacks = 0; version = last_version })

-- pages 1,023 and 1,024 are of two map blocks, and pages 0 and 1,023 of one
abbrev pub MapBlocksOfPages : Type 0
MapBlocksOfPages =
    GivesQuietly (store 2048 3 1)
    (Join 1 ∷ Write 1 1023 0 1 ∷ Write 1 1024 0 1 ∷ Stabilise 1 ∷ WriteOut 1 ∷ [])
    (Joined ∷ Ok ∷ Ok ∷ Sealed 2 ∷ Full 4 3 ∷ [])
    (record { commits = 0; rollbacks = 0; version = 1 })
    × GivesQuietly (store 2048 3 1)
    (Join 1 ∷ Write 1 0 0 1 ∷ Write 1 1023 0 1 ∷ Stabilise 1 ∷ WriteOut 1 ∷ [])
    (Joined ∷ Ok ∷ Ok ∷ Sealed 2 ∷ Written 2 ∷ [])
    (record { commits = 0; rollbacks = 0; version = 2 })

-- four pages to write, as a heap line may want them
abbrev pub four_pages : List Want
four_pages = to_write 0 ∷ to_write 1 ∷ to_write 2 ∷ to_write 3 ∷ []

-- a heap line needs room for a touch of each missing page and for 600 calls, and an acquire of the same pages for one call
abbrev pub HeapLineNeedsItsRoom : Type 0
HeapLineNeedsItsRoom =
    GivesQuietly (zero_start 16 604 64)
    (Join 1 ∷ Hold 1 four_pages ∷ Write 1 3 0 7 ∷ Read 1 3 0 ∷ [])
    (Joined ∷ Granted ∷ Ok ∷ Value 7 ∷ [])
    (record { commits = 0; rollbacks = 0; version = 1 })
    × GivesQuietly (zero_start 16 603 64)
    (Join 1 ∷ Hold 1 four_pages ∷ Acquire 1 four_pages ∷ [])
    (Joined ∷ TrailFull 0 ∷ Granted ∷ [])
    (record { commits = 0; rollbacks = 0; version = 1 })

-- the room of a vault that writes one frame above its map blocks in each commit, and has none free
abbrev pub full_room : VaultRoom
full_room = record { frames = 1; pages = []; blocks = []; top = 1; extra = 1 }

-- a commit of no pages needs no frame, so where none is free a client with no write stabilises
abbrev pub NoPagesNeedNoFrame : Type 0
NoPagesNeedNoFrame =
    (need_of full_room [] ≡ 0) × (need_of full_room (5 ∷ []) ≡ 3)
    × GivesQuietly (start (record (zero_vault 1024) { room = Some full_room }) 1024 4194304 64)
    (Join 1 ∷ Stabilise 1 ∷ WriteOut 1 ∷ Finish 1 ∷ [])
    (Joined ∷ Sealed 0 ∷ Written 1 ∷ Commit 0 ∷ [])
    (record { commits = 1; rollbacks = 0; version = 1 })
