use Rattle.std.specs.Prelude.{◌≡◌, ℕ, [], ◌∷◌, ◌++◌, map, replicate, true, false, is_some}
use Rattle.std.specs.List.{range_with_len}
use Rattle.casper_words.specs.declared.call.Op.TheVariants as op
use Rattle.casper_words.specs.declared.page.Right.TheVariants as may
use Rattle.casper_trail.specs.declared.item.Item.TheVariants as item
use Rattle.casper_space.specs.declared.answer.Answer.TheVariants.{Joined, Value, Ok, Granted, Pending, TrailFull, Left, Disk, VanishLost}
use Rattle.casper_model.specs.declared.event.Event.TheVariants.{Join, Read, Write, Acquire, Serve, Depart, Vanish}
use Rattle.casper_model.specs.Outside.{LoadFailed}
use Rattle.casper_model.specs.Own.{Own}
use Rattle.casper_model.specs.Hits.{hit_read, hit_write}
use Rattle.casper_model.specs.Run.{state_after}
use Rattle.casper_model.specs.State.{zero_start}
use Rattle.casper_model.specs.Row.{RunGives, GivesQuietly, quiet, usual}

-- room for 4,103 entries: what one client is promised leaves three for the other, until the first departs
abbrev pub ToppedUp : Type 0
ToppedUp =
    GivesQuietly (zero_start 16 4103 64)
    (Join 1 ∷ Join 2 ∷ Write 2 0 0 7 ∷ Read 2 0 0 ∷ Read 2 0 0 ∷ Depart 1 ∷ Read 2 0 0 ∷ [])
    (Joined ∷ Joined ∷ Ok ∷ Value 7 ∷ TrailFull 3 ∷ Left ∷ Value 7 ∷ [])
    (record { commits = 0; rollbacks = 0; version = 1 })

-- a hit brings its page to the front, so that another is given up
abbrev pub EvictionByUse : Type 0
EvictionByUse =
    GivesQuietly (zero_start 16 4194304 8)
    (Join 1 ∷ Join 2 ∷ map (λ page. Read 1 page 0) (range_with_len 0 8) ++ Read 1 0 0 ∷ Read 1 8 0 ∷ Write 2 0 0 5 ∷ Write 2 1 0 5 ∷ [])
    (Joined ∷ Joined ∷ map (λ page. Value 0) (range_with_len 0 8) ++ Value 0 ∷ Value 0 ∷ Pending (1 ∷ []) ∷ Ok ∷ [])
    (record { commits = 0; rollbacks = 0; version = 1 })

-- of the pages that one acquire brought, the first wanted was used longest ago
abbrev pub OrderOfWants : Type 0
OrderOfWants =
    GivesQuietly (zero_start 16 4194304 8)
    (Join 1 ∷ Join 2 ∷ Acquire 1 (map (λ page. record { page = page; right = may.Read }) (range_with_len 0 4))
    ∷ Acquire 1 (map (λ page. record { page = page; right = may.Read }) (range_with_len 4 4)) ∷ Read 1 8 0 ∷ Write 2 0 0 5 ∷ Write 2 3 0 5 ∷ [])
    (Joined ∷ Joined ∷ Granted ∷ Granted ∷ Value 0 ∷ Ok ∷ Pending (1 ∷ []) ∷ [])
    (record { commits = 0; rollbacks = 0; version = 1 })

-- a reader that wants to write is granted the page anew, and a page that is held for writing is not lowered by a read
abbrev pub TrailOfUpgrade : Type 0
TrailOfUpgrade =
    (state_after usual
    (map quiet (Join 1 ∷ Read 1 0 0 ∷ Write 1 0 0 5 ∷ Acquire 1 (record { page = 0; right = may.Read } ∷ []) ∷ Write 1 0 1 6 ∷ Serve 1 ∷ []))).shared.trail
    ≡ item.Entry (record { who = 1; op = op.Touch; page = 0; word = 0; value = 0 })
    ∷ item.Entry (record { who = 1; op = op.Read; page = 0; word = 0; value = 0 })
    ∷ item.Entry (record { who = 1; op = op.Touch; page = 0; word = 0; value = 0 })
    ∷ item.Entry (record { who = 1; op = op.Write; page = 0; word = 0; value = 5 })
    ∷ item.Entry (record { who = 1; op = op.Write; page = 0; word = 1; value = 6 }) ∷ []

-- a load that failed leaves the whole turn undone: the write is not recorded
abbrev pub FailedLoad : Type 0
FailedLoad =
    RunGives usual
    (map quiet (Join 1 ∷ Write 1 0 0 5 ∷ []) ++ record { event = Read 1 1 0; outside = LoadFailed } ∷ map quiet (Vanish 1 ∷ []))
    (Joined ∷ Ok ∷ Disk ∷ VanishLost 1 1 ∷ [])
    (record { commits = 0; rollbacks = 1; version = 1 })

-- a writer that gives its page up to a reader's ask, and wants it back in that same turn, waits for the reader
abbrev pub AskOnAPageGivenUp : Type 0
AskOnAPageGivenUp =
    GivesQuietly usual
    (Join 1 ∷ Join 2 ∷ Write 1 5 0 17 ∷ Read 2 5 0 ∷ Acquire 1 (record { page = 5; right = may.Write } ∷ []) ∷ Read 2 5 0 ∷ [])
    (Joined ∷ Joined ∷ Ok ∷ Pending (1 ∷ []) ∷ Pending (2 ∷ []) ∷ Value 17 ∷ [])
    (record { commits = 0; rollbacks = 0; version = 1 })

-- a writer that gives its page up to a reader's ask keeps it for reading: it reads on without a new grant
abbrev pub TrailOfAPageKeptForReading : Type 0
TrailOfAPageKeptForReading =
    (state_after usual (map quiet (Join 1 ∷ Join 2 ∷ Write 1 5 0 17 ∷ Read 2 5 0 ∷ Serve 1 ∷ Read 1 5 1 ∷ Serve 1 ∷ []))).shared.trail
    ≡ item.Entry (record { who = 1; op = op.Touch; page = 5; word = 0; value = 0 })
    ∷ item.Entry (record { who = 1; op = op.Write; page = 5; word = 0; value = 17 })
    ∷ item.Entry (record { who = 1; op = op.Read; page = 5; word = 1; value = 0 }) ∷ []

-- one that gave it up in an earlier turn does not
abbrev pub AskOnAPageGivenUpBefore : Type 0
AskOnAPageGivenUpBefore =
    GivesQuietly usual
    (Join 1 ∷ Join 2 ∷ Write 1 5 0 17 ∷ Read 2 5 0 ∷ Serve 1 ∷ Write 1 5 0 18 ∷ Read 2 5 0 ∷ [])
    (Joined ∷ Joined ∷ Ok ∷ Pending (1 ∷ []) ∷ Ok ∷ Ok ∷ Pending (1 ∷ []) ∷ [])
    (record { commits = 0; rollbacks = 0; version = 1 })

-- an ask ends with the next acquire
abbrev pub AskThatEnded : Type 0
AskThatEnded =
    GivesQuietly usual
    (Join 1 ∷ Join 2 ∷ Acquire 1 (record { page = 5; right = may.Write } ∷ []) ∷ Read 2 5 0 ∷ Read 2 6 0 ∷ Serve 1 ∷ Read 2 5 0 ∷ [])
    (Joined ∷ Joined ∷ Granted ∷ Pending (1 ∷ []) ∷ Value 0 ∷ Ok ∷ Pending (1 ∷ []) ∷ [])
    (record { commits = 0; rollbacks = 0; version = 1 })

-- a client that may have 4,100 further entries recorded, holds a page, and has this many calls pending
abbrev pub with_pending : ℕ → Own
with_pending count = record {
  who = 1;
  capacity = 64;
  cap = 4100;
  held = record { page = 0; right = may.Write } ∷ [];
  pending = replicate count (record { op = op.Read; page = 0; word = 0; value = 0 });
}

-- a list of pending calls has room for 4,096
abbrev pub RoomForPendingCalls : Type 0
RoomForPendingCalls =
    (is_some (hit_write (with_pending 4095) 0 0 7) ≡ true) × (is_some (hit_write (with_pending 4096) 0 0 7) ≡ false)
    × (is_some (hit_read (with_pending 4096) 0 0 0) ≡ false)
