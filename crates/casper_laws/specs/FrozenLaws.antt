use Rattle.std.specs.Prelude.{◌≡◌, ℕ, List, Bool, true, false, is_some, Option, None, Some, Contains}
use Rattle.std.specs.List.{list_any}
use Rattle.casper_words.specs.declared.call.Call.{Call}
use Rattle.casper_trail.specs.Value.{is_write}
use Rattle.casper_model.specs.declared.event.Event.{Event}
use Rattle.casper_model.specs.declared.outcome.Outcome.{Outcome}
use Rattle.casper_model.specs.declared.outcome.Outcome.TheVariants as outcome
use Rattle.casper_model.specs.Outside.{Outside}
use Rattle.casper_model.specs.Stabilisation.{Stabilisation, is_gathering, is_doubtful}
use Rattle.casper_model.specs.Client.{Client}
use Rattle.casper_model.specs.Shared.{Shared, client_at}
use Rattle.casper_model.specs.Frozen.{is_member}
use Rattle.casper_model.specs.Vault.{VaultState}
use Rattle.casper_model.specs.State.{State, Unfinished, own_at, start}
use Rattle.casper_model.specs.Step.{step}
use Rattle.casper_model.specs.Run.{Happening, state_after}
use Rattle.casper_model.specs.Rights.{NamesClients, AllNameClients}
use Rattle.casper_model.specs.LegalHistory.{HasHistory}
use Rattle.casper_turns.specs.Frozen.{AreFrozen, IsSealedBy}

-- whether a stabilisation is in doubt
abbrev pub is_any_doubtful : Shared → Bool
is_any_doubtful shared = list_any (λ one. is_doubtful one.phase) shared.stabilisations

-- whether a write-out ended in doubt
abbrev pub ended_in_doubt : Outcome → Bool
ended_in_doubt (outcome.Ok version) = false
ended_in_doubt (outcome.Full need free) = false
ended_in_doubt outcome.Worn = false
ended_in_doubt outcome.Disk = false
ended_in_doubt outcome.Doubt = true

-- no write-out is unfinished: at most one stabilisation is in doubt, and the vault has a doubt exactly then
pub record NoneIsUnfinished (state : State) : Type 0 where
  pub most : (one other : Stabilisation) → Contains state.shared.stabilisations one → Contains state.shared.stabilisations other
      → is_doubtful one.phase ≡ true → is_doubtful other.phase ≡ true → one ≡ other
  pub doubt : is_some state.vault.doubt ≡ is_any_doubtful state.shared

-- one write-out is unfinished: it is of a sealed stabilisation, no stabilisation is in doubt, and the vault has a doubt
-- exactly where this write-out ended so
pub record OneIsUnfinished (state : State) (unfinished : Unfinished) : Type 0 where
  pub stabilisation : IsSealedBy state.shared unfinished.lead
  pub alone : is_any_doubtful state.shared ≡ false
  pub doubt : is_some state.vault.doubt ≡ ended_in_doubt unfinished.outcome

abbrev pub AreWriteOutsInOrder : State → Option Unfinished → Type 0
AreWriteOutsInOrder state None = NoneIsUnfinished state
AreWriteOutsInOrder state (Some unfinished) = OneIsUnfinished state unfinished

-- a state whose stabilisations and write-outs are in order
pub record HasOrderlyStabilisations (state : State) : Type 0 where
  pub frozen : AreFrozen state.shared
  pub written : AreWriteOutsInOrder state state.unfinished

-- a session begins so, each step keeps it, and so does every run
abbrev pub StartsWithoutStabilisations : Type 0
StartsWithoutStabilisations = (vault : VaultState) (pages limit capacity : ℕ) → vault.doubt ≡ None → HasOrderlyStabilisations (start vault pages limit capacity)

abbrev pub EachStepKeepsStabilisationsInOrder : Type 0
EachStepKeepsStabilisationsInOrder =
    (state : State) (event : Event) (outside : Outside) → NamesClients event → HasHistory state → HasOrderlyStabilisations state
    → HasOrderlyStabilisations (step state event outside).state

abbrev pub EveryRunKeepsStabilisationsInOrder : Type 0
EveryRunKeepsStabilisationsInOrder =
    (vault : VaultState) (pages limit capacity : ℕ) (happenings : List Happening) → vault.doubt ≡ None → AllNameClients happenings
    → HasOrderlyStabilisations (state_after (start vault pages limit capacity) happenings)

-- a member of a stabilisation that is sealed or in doubt, if it is live and not fallen, has no write pending
abbrev pub IsSilent : State → Stabilisation → Type 0
IsSilent state one =
    (who : ℕ) (client : Client) (call : Call) → is_member state.shared who one ≡ true → client_at state.shared who ≡ Some client → client.fallen ≡ None
    → Contains (own_at state who).pending call → is_write call.op ≡ false

abbrev pub EveryRunKeepsHeldAssociationsSilent : Type 0
EveryRunKeepsHeldAssociationsSilent =
    (vault : VaultState) (pages limit capacity : ℕ) (happenings : List Happening) → vault.doubt ≡ None → AllNameClients happenings
    → (one : Stabilisation) → Contains (state_after (start vault pages limit capacity) happenings).shared.stabilisations one → is_gathering one.phase ≡ false
    → IsSilent (state_after (start vault pages limit capacity) happenings) one
