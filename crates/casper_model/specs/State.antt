use Rattle.std.specs.Prelude.{ℕ, List, map, slice_index_or, slice_set, Option, None}
use Rattle.std.specs.List.{range_with_len}
use Rattle.casper_trail.specs.Value.{zero_pages}
use Rattle.casper_model.specs.declared.outcome.Outcome.{Outcome}
use Rattle.casper_model.specs.Shared.{Shared, new_shared}
use Rattle.casper_model.specs.Own.{Own, blank}
use Rattle.casper_model.specs.Both.{Turned}
use Rattle.casper_model.specs.Vault.{VaultState}

-- a write-out that was made and is not finished: its lead, and how it ended
pub record Unfinished : Type 0 where
  pub lead : ℕ
  pub outcome : Outcome

-- the whole state of a session: the array that its opening found, what is kept for all clients together, the own part
-- of each client at the place of its number, the vault, and the write-out that is unfinished, if there is one
pub record State : Type 0 where
  pub base : List (List ℕ)
  pub shared : Shared
  pub owns : List Own
  pub vault : VaultState
  pub unfinished : Option Unfinished

-- the own part of a client
abbrev pub own_at : State → ℕ → Own
own_at state who = slice_index_or state.owns who (blank who 0)

abbrev pub with_own : State → Own → State
with_own state own = record state { owns = slice_set state.owns own.who own }

abbrev pub with_shared : State → Shared → State
with_shared state shared = record state { shared = shared }

-- a state after a turn of a client: its own part and the shared part are those that the turn gave
abbrev pub after_turn : {R : Type 0} → State → Turned R → State
after_turn state turn = with_own (with_shared state turn.shared) turn.own

-- a session as it begins: a vault in which nothing is in doubt, so many pages, at most so many entries, and so many
-- pages that a client may hold
abbrev pub start : VaultState → ℕ → ℕ → ℕ → State
start vault pages limit capacity = record {
  base = vault.image;
  shared = new_shared pages limit;
  owns = map (λ who. blank who capacity) (range_with_len 0 33);
  vault = vault;
  unfinished = None;
}

-- the vault of a store that was never written, in memory, where every commit has room
abbrev pub zero_vault : ℕ → VaultState
zero_vault pages = record { image = zero_pages pages; version = 1; room = None; doubt = None }

-- a session over such a vault
abbrev pub zero_start : ℕ → ℕ → ℕ → State
zero_start pages limit capacity = start (zero_vault pages) pages limit capacity
