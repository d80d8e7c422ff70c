use Rattle.std.specs.Prelude.{[], ◌∷◌, ◌++◌, map}
use Rattle.std.specs.List.{range_with_len}
use Rattle.casper_words.specs.declared.page.Right.TheVariants as may
use Rattle.casper_space.specs.declared.answer.Answer.TheVariants.{Joined, Busy, Absent, Range, Value, Ok, Granted, Pending, TrailFull, Left}
use Rattle.casper_model.specs.declared.event.Event.TheVariants.{Join, Read, Write, Acquire, Serve, Depart}
use Rattle.casper_model.specs.State.{zero_start}
use Rattle.casper_model.specs.Row.{GivesQuietly, usual}

-- nothing happens
abbrev pub Empty : Type 0
Empty = GivesQuietly usual [] [] (record { commits = 0; rollbacks = 0; version = 1 })

-- a client reads what it wrote, before the write is recorded
abbrev pub HitOnOnesOwnPendingCall : Type 0
HitOnOnesOwnPendingCall =
    GivesQuietly usual
    (Join 1 ∷ Write 1 5 0 17 ∷ Read 1 5 0 ∷ [])
    (Joined ∷ Ok ∷ Value 17 ∷ [])
    (record { commits = 0; rollbacks = 0; version = 1 })

-- the last word of the last page was never written
abbrev pub TheLastPlaceNeverWritten : Type 0
TheLastPlaceNeverWritten =
    GivesQuietly usual
    (Join 1 ∷ Read 1 16383 511 ∷ [])
    (Joined ∷ Value 0 ∷ [])
    (record { commits = 0; rollbacks = 0; version = 1 })

-- pages and words past the store's, a client that joins twice, and one that never does
abbrev pub PastTheEnd : Type 0
PastTheEnd =
    GivesQuietly usual
    (Join 1 ∷ Join 1 ∷ Read 1 16384 0 ∷ Read 1 0 512 ∷ Read 2 0 0 ∷ [])
    (Joined ∷ Busy ∷ Range ∷ Range ∷ Absent ∷ [])
    (record { commits = 0; rollbacks = 0; version = 1 })

-- one writer is recalled for another, which departs
abbrev pub RecallOfAWriter : Type 0
RecallOfAWriter =
    GivesQuietly usual
    (Join 1 ∷ Join 2 ∷ Acquire 1 (record { page = 5; right = may.Write } ∷ []) ∷ Acquire 2 (record { page = 5; right = may.Write } ∷ []) ∷ Serve 1
    ∷ Acquire 2 (record { page = 5; right = may.Write } ∷ []) ∷ Depart 2 ∷ Read 1 5 0 ∷ [])
    (Joined ∷ Joined ∷ Granted ∷ Pending (1 ∷ []) ∷ Ok ∷ Granted ∷ Left ∷ Value 0 ∷ [])
    (record { commits = 0; rollbacks = 0; version = 1 })

-- a trail of three entries: a touch and two calls fill it
abbrev pub FullTrail : Type 0
FullTrail =
    GivesQuietly (zero_start 16384 3 64)
    (Join 1 ∷ Write 1 0 0 7 ∷ Read 1 0 0 ∷ Read 1 0 0 ∷ Join 2 ∷ [])
    (Joined ∷ Ok ∷ Value 7 ∷ TrailFull 3 ∷ TrailFull 3 ∷ [])
    (record { commits = 0; rollbacks = 0; version = 1 })

-- a cache of eight pages gives up the page that was used longest ago
abbrev pub Eviction : Type 0
Eviction =
    GivesQuietly (zero_start 16384 4194304 8)
    (Join 1 ∷ Join 2 ∷ map (λ page. Read 1 page 0) (range_with_len 0 9) ++ Write 2 0 0 5 ∷ Write 2 1 0 5 ∷ [])
    (Joined ∷ Joined ∷ map (λ page. Value 0) (range_with_len 0 9) ++ Ok ∷ Pending (1 ∷ []) ∷ [])
    (record { commits = 0; rollbacks = 0; version = 1 })
