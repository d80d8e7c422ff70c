use Rattle.std.specs.Prelude.{◌≡◌, ◌≤◌, ℕ, List, length}
use Rattle.std.specs.List.{count_by}
use Rattle.casper_words.specs.Crew.{IsClient}
use Rattle.casper_words.specs.Wants.{AreWants}
use Rattle.casper_words.specs.declared.page.Want.{Want}
use Rattle.casper_model.specs.Held.{is_of}
use Rattle.casper_model.specs.Own.{Own}
use Rattle.casper_model.specs.Rights.{AllNameClients}
use Rattle.casper_model.specs.Run.{Happening, state_after}
use Rattle.casper_model.specs.State.{State, own_at, start}
use Rattle.casper_model.specs.Vault.{VaultState}
use Rattle.casper_turns.specs.NamedWants.{AllWantsAre}

-- no page is held twice
abbrev pub HoldsEachOnce : List Want → Type 0
HoldsEachOnce held = (page : ℕ) → count_by (is_of page) held ≤ 1

-- a cache with room for so many pages: it holds each once at most, and no more than that
pub record IsCache (capacity : ℕ) (own : Own) : Type 0 where
  pub once : HoldsEachOnce own.held
  pub within : length own.held ≤ capacity
  pub room : own.capacity ≡ capacity

-- so is that of each client
abbrev pub HasCaches : ℕ → State → Type 0
HasCaches capacity state = (who : ℕ) → IsClient who → IsCache capacity (own_at state who)

-- a fact of each client's own part holds at every moment of every run whose acquires name one to four rising pages, and whose
-- caches have room for four at least
abbrev pub InEveryCache : (ℕ → Own → Type 0) → Type 0
InEveryCache Holds =
    (vault : VaultState) (pages limit capacity : ℕ) (happenings : List Happening) → 4 ≤ capacity → AllNameClients happenings → AllWantsAre AreWants happenings
    → (who : ℕ) → IsClient who → Holds capacity (own_at (state_after (start vault pages limit capacity) happenings) who)

abbrev pub EachPageIsHeldOnce : Type 0
EachPageIsHeldOnce = InEveryCache (λ capacity own. HoldsEachOnce own.held)

abbrev pub EachCacheIsWithin : Type 0
EachCacheIsWithin = InEveryCache (λ capacity own. length own.held ≤ capacity)
