use Rattle.std.specs.Prelude.{ℕ, List, Bool, true, false, Option, Some, ◌==◌, not, cond, filter}
use Rattle.std.specs.List.{list_any}
use Rattle.std.specs.Option.{option_or}

-- how far a stabilisation is: members have to hand in their pages; all have; or its write-out ended in doubt
pub data Phase : Type 0 where
  Gathering Sealed Doubtful : Phase

abbrev pub is_gathering : Phase → Bool
is_gathering Gathering = true
is_gathering Sealed = false
is_gathering Doubtful = false

abbrev pub is_sealed : Phase → Bool
is_sealed Gathering = false
is_sealed Sealed = true
is_sealed Doubtful = false

abbrev pub is_doubtful : Phase → Bool
is_doubtful Gathering = false
is_doubtful Sealed = false
is_doubtful Doubtful = true

-- the stabilisation of an association: the client that began it, the members that have to hand in their pages, those
-- that wait for its outcome, and the first member whose loss was noted
pub record Stabilisation : Type 0 where
  pub lead : ℕ
  pub awaited : List ℕ
  pub askers : List ℕ
  pub noted : Option ℕ
  pub phase : Phase

-- a list of clients without one
abbrev pub without : ℕ → List ℕ → List ℕ
without who members = filter (λ member. not (member == who)) members

abbrev pub is_empty : List ℕ → Bool
is_empty members = not (list_any (λ member. true) members)

-- the phase of a stabilisation that awaits these
abbrev pub phase_awaiting : List ℕ → Phase
phase_awaiting awaited = cond (is_empty awaited) Sealed Gathering

-- a gathering stabilisation once a member has handed in its pages
abbrev pub handed_in_by : ℕ → Stabilisation → Stabilisation
handed_in_by who stabilisation =
    let awaited = without who stabilisation.awaited in
    record stabilisation { awaited = awaited; phase = phase_awaiting awaited }

-- a stabilisation once a loss is noted: the first one counts
abbrev pub with_noted : ℕ → Stabilisation → Stabilisation
with_noted who stabilisation = record stabilisation { noted = option_or stabilisation.noted (Some who) }
