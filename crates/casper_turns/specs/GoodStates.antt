use Rattle.std.specs.Prelude.{◌≡◌, ℕ, length}
use Rattle.casper_words.specs.Crew.{IsClient}
use Rattle.casper_trail.specs.Legal.{IsLegal}
use Rattle.casper_model.specs.Own.{Own}
use Rattle.casper_model.specs.Shared.{Shared}
use Rattle.casper_model.specs.State.{State, own_at, with_own, with_shared, start}
use Rattle.casper_model.specs.Vault.{VaultState}
use Rattle.casper_turns.specs.Good.{IsGoodShared, IsGoodWith}
use Rattle.casper_turns.specs.Kept.{KeptByTurn, KeptForAll}
use Rattle.casper_turns.specs.Right.{ReadsAreRight}

-- a state is good where its shared part is, also with each own part. What is said of the vault stands beside it
pub record IsGoodState (state : State) : Type 0 where
  pub owns : length state.owns ≡ 33
  pub numbers : (who : ℕ) → (own_at state who).who ≡ who
  pub shared : IsGoodShared state.shared
  pub each : (who : ℕ) → IsClient who → IsGoodWith state.shared (own_at state who)

-- and it is right where its trail is legal over the array that the session found, and each client's pending reads are right
pub record IsRightState (state : State) : Type 0 where
  pub legal : IsLegal state.base state.shared.trail
  pub reads : (who : ℕ) → IsClient who → ReadsAreRight state.base state.shared (own_at state who)

abbrev pub StartIsGood : Type 0
StartIsGood = (vault : VaultState) (pages limit capacity : ℕ) → IsGoodState (start vault pages limit capacity)

abbrev pub StartIsRight : Type 0
StartIsRight = (vault : VaultState) (pages limit capacity : ℕ) → IsRightState (start vault pages limit capacity)

-- a turn of a client leaves the state good and right, and so does what is no turn of one
abbrev pub GoodBehindTurn : Type 0
GoodBehindTurn =
    (state : State) (who : ℕ) (after : Shared) (own_after : Own) → IsClient who → IsGoodState state → KeptByTurn state.shared (own_at state who) after own_after
    → IsGoodState (with_own (with_shared state after) own_after)

abbrev pub RightBehindTurn : Type 0
RightBehindTurn =
    (state : State) (who : ℕ) (after : Shared) (own_after : Own) → IsClient who → IsGoodState state → KeptByTurn state.shared (own_at state who) after own_after
    → IsRightState state → IsRightState (with_own (with_shared state after) own_after)

abbrev pub GoodBehindChange : Type 0
GoodBehindChange = (state : State) (after : Shared) → IsGoodState state → KeptForAll state.shared after → IsGoodState (with_shared state after)

abbrev pub RightBehindChange : Type 0
RightBehindChange = (state : State) (after : Shared) → IsGoodState state → KeptForAll state.shared after → IsRightState state → IsRightState (with_shared state after)
