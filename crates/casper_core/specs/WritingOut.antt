use Rattle.std.specs.Prelude.{◌≡◌, ◌==◌, ℕ, Bool, true, false, cond, List, Option, None, Some, option_map}
use Rattle.std.specs.Option.{option_or}
use Rattle.casper_space.specs.Changes.{Change}
use Rattle.casper_model.specs.declared.outcome.Outcome.{Outcome}
use Rattle.casper_model.specs.declared.outcome.Outcome.TheVariants as outcome
use Rattle.casper_model.specs.Outside.{Outside, NothingFailed, WriteOutFailed, WriteOutDoubted}
use Rattle.casper_model.specs.State.{Unfinished}
use Rattle.casper_model.specs.Vault.{VaultState, commit}
use Rattle.casper_hub.specs.Committing.{doubtful_in}
use Rattle.casper_core.specs.CoreView.{CoreView}

-- What a write-out is to a core and its vault.

-- the lead whose write-out is unfinished or in doubt, if there is one
abbrev pub busy_in : {V : Type 0} → CoreView V → Option ℕ
busy_in core = option_or (option_map (λ one. one.lead) core.unfinished) (option_map (λ one. one.lead) (doubtful_in core.hub))

-- what the outside did, as the outcome of a write-out tells it
abbrev pub outside_ended : Outcome → Outside
outside_ended (outcome.Ok version) = NothingFailed
outside_ended (outcome.Full need free) = NothingFailed
outside_ended outcome.Worn = NothingFailed
outside_ended outcome.Disk = WriteOutFailed
outside_ended outcome.Doubt = WriteOutDoubted

-- whether a write-out ended by a fault of the disk
abbrev pub ended_by_fault : Outcome → Bool
ended_by_fault (outcome.Ok version) = false
ended_by_fault (outcome.Full need free) = false
ended_by_fault outcome.Worn = false
ended_by_fault outcome.Disk = true
ended_by_fault outcome.Doubt = true

-- how the write-out of a lead ended, where it is the unfinished one
abbrev pub ended_of : ℕ → Option Unfinished → Option Outcome
ended_of lead None = None
ended_of lead (Some one) = cond (one.lead == lead) (Some one.outcome) None

-- a vault in which nothing was in doubt was given these changes: it ended so, and left it so
pub record IsCommit (before : VaultState) (changes : List Change) (how : Outcome) (after : VaultState) : Type 0 where
  pub ends : (commit before changes (outside_ended how)).outcome ≡ how
  pub leaves : (commit before changes (outside_ended how)).vault ≡ after
