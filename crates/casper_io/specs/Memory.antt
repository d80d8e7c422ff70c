use Rattle.std.specs.Prelude.{◌==◌, ℕ, ◌+◌, ◌-◌, ◌^◌, List, Bool, min, nat_lt}
use Rattle.std.specs.List.{list_any}

-- the count that follows, which stands still at the end of its type
abbrev pub next_count : ℕ → ℕ
next_count count = min (count + 1) (2 ^ 64 - 1)

-- which calls are to fail, by their numbers from 1; how many calls there were, and how many of them failed
pub record Failing : Type 0 where
  pub fails : List ℕ
  pub calls : ℕ
  pub faults : ℕ

-- whether the next call is to fail
abbrev pub fails_next : Failing → Bool
fails_next state = list_any (λ call. call == next_count state.calls) state.fails

-- whether a call failed
abbrev pub has_failed : Failing → Bool
has_failed state = nat_lt 0 state.faults

-- after a call that did not fail
abbrev pub after_call : Failing → Failing
after_call state = record state { calls = next_count state.calls }

-- after a call that failed
abbrev pub after_fault : Failing → Failing
after_fault state = record state { calls = next_count state.calls; faults = next_count state.faults }

-- a source over memory: the bytes left
pub record HeldSource : Type 0 where
  pub left : List ℕ
  pub failing : Failing

-- a sink over memory: the bytes taken, and how many it takes in all
pub record HeldSink : Type 0 where
  pub taken : List ℕ
  pub room : ℕ
  pub failing : Failing
