use Rattle.std.specs.Prelude.{ℕ, [], ◌∷◌, ◌++◌, List, map, false, Some}
use Rattle.casper_space.specs.declared.answer.Answer.{Answer}
use Rattle.casper_space.specs.declared.answer.Answer.TheVariants.{Joined, Value, Ok, Pending, Frozen, InDoubt, RolledBack, Disk, Gathering, Sealed, Doing, Doubtful, Commit, FailedFull, FailedDisk, Written, Full, Doubt, Undone, Nothing, VanishLost, VanishNoted, LoseLost, LoseNoted}
use Rattle.casper_model.specs.declared.event.Event.{Event}
use Rattle.casper_model.specs.declared.event.Event.TheVariants.{Join, Read, Write, Serve, Stabilise, WriteOut, Finish, Settle, Vanish, Lose}
use Rattle.casper_model.specs.Outside.{WriteOutFailed, WriteOutDoubted, SettleFailed}
use Rattle.casper_model.specs.Run.{Happening}
use Rattle.casper_model.specs.State.{State, start, zero_vault}
use Rattle.casper_model.specs.Row.{RunGives, GivesQuietly, quiet, usual}
use Rattle.casper_model.specs.AssociationRows.{linking, linked}

-- the kept outcome is taken by the first stabilise after the finish, and the next one begins anew
abbrev pub RepeatedStabilisation : Type 0
RepeatedStabilisation =
    GivesQuietly usual
    (Join 1 ∷ Write 1 0 0 1 ∷ Stabilise 1 ∷ WriteOut 1 ∷ Finish 1 ∷ Stabilise 1 ∷ Stabilise 1 ∷ WriteOut 1 ∷ Finish 1 ∷ [])
    (Joined ∷ Ok ∷ Sealed 1 ∷ Written 2 ∷ Commit 2 ∷ Commit 2 ∷ Sealed 0 ∷ Written 2 ∷ Commit 3 ∷ [])
    (record { commits = 2; rollbacks = 0; version = 2 })

-- both members ask, and both get the outcome
abbrev pub TwoMembersStabilise : Type 0
TwoMembersStabilise =
    GivesQuietly usual
    (linking ++ Stabilise 1 ∷ Stabilise 2 ∷ WriteOut 1 ∷ Finish 1 ∷ Stabilise 1 ∷ Stabilise 2 ∷ [])
    (linked ++ Sealed 1 ∷ Doing 1 ∷ Written 2 ∷ Commit 4 ∷ Commit 4 ∷ Commit 4 ∷ [])
    (record { commits = 1; rollbacks = 0; version = 2 })

abbrev pub gather : List Event
gather = Join 1 ∷ Join 2 ∷ Write 1 5 0 17 ∷ Write 2 5 1 18 ∷ Serve 1 ∷ Write 2 5 1 18 ∷ Stabilise 1 ∷ []

-- a member that holds a page for writing is awaited until it hands it in
abbrev pub Gather : Type 0
Gather =
    GivesQuietly usual
    (gather ++ Read 1 5 0 ∷ Serve 2 ∷ Stabilise 1 ∷ WriteOut 1 ∷ Finish 1 ∷ Read 1 5 1 ∷ [])
    (Joined ∷ Joined ∷ Ok ∷ Pending (1 ∷ []) ∷ Ok ∷ Ok ∷ Gathering (2 ∷ []) ∷ Frozen 1 ∷ Ok ∷ Doing 1 ∷ Written 2 ∷ Commit 4 ∷ Value 18 ∷ [])
    (record { commits = 1; rollbacks = 0; version = 2 })

-- a store of 1,024 pages that was never written, with so many frames
abbrev pub formatted : ℕ → State
formatted frames = start (record (zero_vault 1024) { room = Some (record { frames = frames; pages = []; blocks = []; top = 0; extra = 0 }) }) 1024 4194304 64

abbrev pub two_pages : List Event
two_pages = Join 1 ∷ Write 1 0 0 1 ∷ Write 1 1 0 2 ∷ Stabilise 1 ∷ WriteOut 1 ∷ Finish 1 ∷ Read 1 0 0 ∷ []

-- two pages need three frames
abbrev pub FramesTooFewByOne : Type 0
FramesTooFewByOne =
    GivesQuietly (formatted 2) two_pages
    (Joined ∷ Ok ∷ Ok ∷ Sealed 2 ∷ Full 3 2 ∷ FailedFull 3 2 ∷ Value 1 ∷ [])
    (record { commits = 0; rollbacks = 0; version = 1 })

abbrev pub FramesJustEnough : Type 0
FramesJustEnough =
    GivesQuietly (formatted 3) two_pages
    (Joined ∷ Ok ∷ Ok ∷ Sealed 2 ∷ Written 2 ∷ Commit 4 ∷ Value 1 ∷ [])
    (record { commits = 1; rollbacks = 0; version = 2 })

-- and they are then used up: the next write-out of one page needs two
abbrev pub FramesUsedUp : Type 0
FramesUsedUp =
    GivesQuietly (formatted 3)
    (Join 1 ∷ Write 1 0 0 1 ∷ Write 1 1 0 2 ∷ Stabilise 1 ∷ WriteOut 1 ∷ Finish 1 ∷ Write 1 0 0 3 ∷ Stabilise 1 ∷ WriteOut 1 ∷ [])
    (Joined ∷ Ok ∷ Ok ∷ Sealed 2 ∷ Written 2 ∷ Commit 4 ∷ Ok ∷ Sealed 1 ∷ Full 2 0 ∷ [])
    (record { commits = 1; rollbacks = 0; version = 2 })

-- a write-out that fails without doubt leaves the association as it was
abbrev pub FaultBeforeTheGate : Type 0
FaultBeforeTheGate =
    RunGives (formatted 9)
    (map quiet (Join 1 ∷ Write 1 0 0 1 ∷ Stabilise 1 ∷ []) ++ record { event = WriteOut 1; outside = WriteOutFailed }
    ∷ map quiet (Finish 1 ∷ Stabilise 1 ∷ Stabilise 1 ∷ WriteOut 1 ∷ Finish 1 ∷ []))
    (Joined ∷ Ok ∷ Sealed 1 ∷ Disk ∷ FailedDisk false ∷ FailedDisk false ∷ Sealed 1 ∷ Written 2 ∷ Commit 2 ∷ [])
    (record { commits = 1; rollbacks = 0; version = 2 })

-- a write-out that ends in doubt, up to its settling
abbrev pub doubt : List Happening
doubt =
    map quiet (Join 1 ∷ Write 1 0 0 1 ∷ Stabilise 1 ∷ []) ++ record { event = WriteOut 1; outside = WriteOutDoubted }
    ∷ map quiet (Finish 1 ∷ Stabilise 1 ∷ Read 1 9 0 ∷ [])

abbrev pub in_doubt : List Answer
in_doubt = Joined ∷ Ok ∷ Sealed 1 ∷ Doubt ∷ InDoubt ∷ Doubtful 1 ∷ InDoubt ∷ []

-- the association stays frozen, in doubt, until the doubt is settled
abbrev pub DoubtSettled : Type 0
DoubtSettled =
    RunGives (formatted 9)
    (doubt ++ map quiet (Settle ∷ Read 1 9 0 ∷ Settle ∷ []))
    (in_doubt ++ Commit 2 ∷ Value 0 ∷ Nothing ∷ [])
    (record { commits = 1; rollbacks = 0; version = 2 })

-- a settle that fails leaves the doubt
abbrev pub DoubtThatStands : Type 0
DoubtThatStands =
    RunGives (formatted 9)
    (doubt ++ record { event = Settle; outside = SettleFailed } ∷ map quiet (Read 1 9 0 ∷ Settle ∷ []))
    (in_doubt ++ Disk ∷ InDoubt ∷ Commit 2 ∷ [])
    (record { commits = 1; rollbacks = 0; version = 2 })

-- a member vanishes while the association is sealed: where the write-out succeeds, the loss is forgotten
abbrev pub LossWhileSealed : Type 0
LossWhileSealed =
    GivesQuietly usual
    (linking ++ Stabilise 1 ∷ Vanish 2 ∷ WriteOut 1 ∷ Finish 1 ∷ [])
    (linked ++ Sealed 1 ∷ VanishNoted 1 1 ∷ Written 2 ∷ Commit 3 ∷ [])
    (record { commits = 1; rollbacks = 0; version = 2 })

-- where it fails, the loss is carried out at the finish
abbrev pub LossWhileSealedUndone : Type 0
LossWhileSealedUndone =
    RunGives (formatted 9)
    (map quiet (linking ++ Stabilise 1 ∷ Vanish 2 ∷ []) ++ record { event = WriteOut 1; outside = WriteOutFailed } ∷ map quiet (Finish 1 ∷ Serve 1 ∷ []))
    (linked ++ Sealed 1 ∷ VanishNoted 1 1 ∷ Disk ∷ Undone 3 ∷ RolledBack 3 1 0 ∷ [])
    (record { commits = 0; rollbacks = 1; version = 1 })

-- an awaited member vanishes: the gather ends with no outcome, and its lead falls
abbrev pub LossWhileGathering : Type 0
LossWhileGathering =
    GivesQuietly usual
    (gather ++ Vanish 2 ∷ Stabilise 1 ∷ Stabilise 1 ∷ [])
    (Joined ∷ Joined ∷ Ok ∷ Pending (1 ∷ []) ∷ Ok ∷ Ok ∷ Gathering (2 ∷ []) ∷ VanishLost 3 1 ∷ RolledBack 3 1 0 ∷ Sealed 0 ∷ [])
    (record { commits = 0; rollbacks = 1; version = 1 })

-- a loss that is noted while the write-out is in doubt is forgotten as the doubt is settled
abbrev pub LossInDoubt : Type 0
LossInDoubt =
    RunGives (formatted 9)
    (map quiet (Join 1 ∷ Join 2 ∷ Write 1 0 0 1 ∷ Stabilise 1 ∷ []) ++ record { event = WriteOut 1; outside = WriteOutDoubted }
    ∷ map quiet (Lose 1 ∷ Finish 1 ∷ Settle ∷ Lose 1 ∷ []))
    (Joined ∷ Joined ∷ Ok ∷ Sealed 1 ∷ Doubt ∷ LoseNoted 1 ∷ InDoubt ∷ Commit 2 ∷ LoseLost 3 ∷ [])
    (record { commits = 1; rollbacks = 1; version = 2 })
