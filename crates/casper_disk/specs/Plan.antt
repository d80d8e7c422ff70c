use Rattle.std.specs.Prelude.{◌==◌, ◌&&◌, ℕ, ◌+◌, ◌-◌, ◌^◌, List, [], Bool, true, false, min}
use Rattle.std.specs.List.{list_any}
use Rattle.casper_disk.specs.declared.fail.Kind.{Kind}
use Rattle.casper_disk.specs.declared.fail.Kind.TheVariants as kind
use Rattle.casper_disk.specs.declared.fail.Fail.{Fail}

-- the count that follows, which stands still at the end of its type
abbrev pub next_count : ℕ → ℕ
next_count count = min (count + 1) (2 ^ 64 - 1)

-- which calls are to fail, how many there were of each kind, and how many failed
pub record Planned : Type 0 where
  pub fails : List Fail
  pub reads : ℕ
  pub writes : ℕ
  pub syncs : ℕ
  pub faults : ℕ

-- no call was made, and none is to fail
abbrev pub unplanned : Planned
unplanned = record { fails = []; reads = 0; writes = 0; syncs = 0; faults = 0 }

-- whether two kinds are the same
abbrev pub is_same_kind : Kind → Kind → Bool
is_same_kind kind.Read kind.Read = true
is_same_kind kind.Read other = false
is_same_kind kind.Write kind.Write = true
is_same_kind kind.Write other = false
is_same_kind kind.Sync kind.Sync = true
is_same_kind kind.Sync other = false

-- how many calls there were of a kind
abbrev pub count_of : Planned → Kind → ℕ
count_of plan kind.Read = plan.reads
count_of plan kind.Write = plan.writes
count_of plan kind.Sync = plan.syncs

-- after one more call of a kind
abbrev pub counted : Kind → Planned → Planned
counted kind.Read plan = record plan { reads = next_count plan.reads }
counted kind.Write plan = record plan { writes = next_count plan.writes }
counted kind.Sync plan = record plan { syncs = next_count plan.syncs }

-- after a call that failed
abbrev pub with_fault : Planned → Planned
with_fault plan = record plan { faults = next_count plan.faults }

-- the calls counted anew, of which these are to fail
abbrev pub armed_with : List Fail → Planned → Planned
armed_with fails plan = record { fails = fails; reads = 0; writes = 0; syncs = 0; faults = plan.faults }

-- whether the next call of a kind is to fail
abbrev pub fails_next : Planned → Kind → Bool
fails_next plan of_kind = list_any (λ fail. is_same_kind fail.kind of_kind && fail.number == next_count (count_of plan of_kind)) plan.fails
