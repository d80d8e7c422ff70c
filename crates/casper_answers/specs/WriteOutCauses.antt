use Rattle.std.specs.Prelude.{◌≡◌, ◌≢◌, ◌⊎◌, ◌+◌, ◌<◌, ◌≤◌, ℕ, List, [], Bool, true, false, not, ◌&&◌, ◌||◌, ◌==◌, is_some, length, Option, None, Some, Contains}
use Rattle.std.specs.List.{list_any}
use Rattle.casper_words.specs.Crew.{IsClient}
use Rattle.casper_space.specs.Changes.{VaultRoom, last_version, need_of, free_of}
use Rattle.casper_space.specs.declared.answer.Answer.{Answer}
use Rattle.casper_space.specs.declared.answer.Answer.TheVariants as answer
use Rattle.casper_trail.specs.Association.{association_of}
use Rattle.casper_model.specs.declared.event.Event.TheVariants as event
use Rattle.casper_model.specs.declared.outcome.Outcome.{Outcome}
use Rattle.casper_model.specs.declared.outcome.Outcome.TheVariants as outcome
use Rattle.casper_model.specs.Frozen.{pages_modified_by}
use Rattle.casper_model.specs.Outside.{Outside, NothingFailed, WriteOutFailed, WriteOutDoubted, is_settle_failed}
use Rattle.casper_model.specs.Stabilisation.{Stabilisation, is_sealed, is_doubtful}
use Rattle.casper_model.specs.State.{State, Unfinished}
use Rattle.casper_model.specs.Step.{step}
use Rattle.casper_model.specs.WriteOutStep.{is_unfinished_of}
use Rattle.casper_laws.specs.Additions.{noted_by}
use Rattle.casper_laws.specs.FrozenLaws.{is_any_doubtful}
use Rattle.casper_answers.specs.Sessions.{AtEachMoment}

-- Why a write-out, a finish or a settle is answered so.

abbrev pub is_no_job : Answer → Bool
is_no_job answer.NoJob = true
is_no_job other = false

abbrev pub is_vault : Answer → Bool
is_vault (answer.Vault busy) = true
is_vault other = false

abbrev pub is_written : Answer → Bool
is_written (answer.Written version) = true
is_written other = false

-- whether a lead has a sealed stabilisation that is not written out
abbrev pub has_job : State → ℕ → Bool
has_job state lead = list_any (λ one. (one.lead == lead) && is_sealed one.phase) state.shared.stabilisations && not (is_unfinished_of lead state.unfinished)

-- whether a write-out is unfinished or in doubt
abbrev pub is_busy_vault : State → Bool
is_busy_vault state = is_some state.unfinished || is_any_doubtful state.shared

-- the lead of the write-out that is unfinished or in doubt
abbrev pub IsBusyLead : State → ℕ → Type 0
IsBusyLead state busy =
    ((unfinished : Unfinished) × (state.unfinished ≡ Some unfinished) × (unfinished.lead ≡ busy))
    ⊎ ((one : Stabilisation) × Contains state.shared.stabilisations one × (is_doubtful one.phase ≡ true) × (one.lead ≡ busy))

-- the pages that a write-out of a lead writes: those with an open write of its association
abbrev pub pages_due : State → ℕ → List ℕ
pages_due state lead = pages_modified_by state.shared.trail (association_of state.shared.trail lead)

-- nothing stands in the way of writing out these pages: there are none, or there is a further version, and room for them
abbrev pub CanWrite : State → List ℕ → Type 0
CanWrite state pages =
    (pages ≡ []) ⊎ ((state.vault.version ≢ last_version) × ((room : VaultRoom) → state.vault.room ≡ Some room → need_of room pages ≤ free_of room))

-- that there is no job is answered exactly where there is none
abbrev pub NoJobExactly : State → Type 0
NoJobExactly state = (lead : ℕ) (outside : Outside) → IsClient lead → is_no_job (step state (event.WriteOut lead) outside).answer ≡ not (has_job state lead)

-- another lead is named exactly where there is a job and the vault is busy, and it is the one that keeps it so
abbrev pub VaultExactly : State → Type 0
VaultExactly state =
    (lead : ℕ) (outside : Outside) → IsClient lead
    → (is_vault (step state (event.WriteOut lead) outside).answer ≡ (has_job state lead && is_busy_vault state))
    × ((busy : ℕ) → (step state (event.WriteOut lead) outside).answer ≡ answer.Vault busy → IsBusyLead state busy)

-- worn only where pages are due and there is no further version
abbrev pub WornHasItsCause : State → Type 0
WornHasItsCause state =
    (lead : ℕ) (outside : Outside) → IsClient lead → (step state (event.WriteOut lead) outside).answer ≡ answer.Worn
    → (pages_due state lead ≢ []) × (state.vault.version ≡ last_version)

-- full only where pages are due that need more frames than are free, with these numbers
abbrev pub FullHasItsCause : State → Type 0
FullHasItsCause state =
    (lead need free : ℕ) (outside : Outside) → IsClient lead → (step state (event.WriteOut lead) outside).answer ≡ answer.Full need free
    → (pages_due state lead ≢ [])
    × ((room : VaultRoom) × (state.vault.room ≡ Some room) × (need ≡ need_of room (pages_due state lead)) × (free ≡ free_of room) × (free < need))

-- a failed disk, or a doubt, only where the outside made it
abbrev pub FaultsAreOfTheOutside : State → Type 0
FaultsAreOfTheOutside state =
    (lead : ℕ) (outside : Outside) → IsClient lead
    → ((step state (event.WriteOut lead) outside).answer ≡ answer.Disk → outside ≡ WriteOutFailed)
    × ((step state (event.WriteOut lead) outside).answer ≡ answer.Doubt → outside ≡ WriteOutDoubted)

-- what is written has the version that the vault has then: the same where no pages were due, and else the next
abbrev pub WrittenIsTheVersion : State → Type 0
WrittenIsTheVersion state =
    (lead version : ℕ) (outside : Outside) → IsClient lead → (step state (event.WriteOut lead) outside).answer ≡ answer.Written version
    → ((step state (event.WriteOut lead) outside).state.vault.version ≡ version)
    × (((pages_due state lead ≡ []) × (version ≡ state.vault.version)) ⊎ ((pages_due state lead ≢ []) × (version ≡ state.vault.version + 1)))

-- where nothing is in the way and nothing fails, it is written
abbrev pub WrittenWhereItCan : State → Type 0
WrittenWhereItCan state =
    (lead : ℕ) → IsClient lead → has_job state lead ≡ true → is_busy_vault state ≡ false → CanWrite state (pages_due state lead)
    → is_written (step state (event.WriteOut lead) NothingFailed).answer ≡ true

-- the answer to the finish of a write-out that ended so: where it failed and a loss was noted, the loss is carried out
abbrev pub end_of : Outcome → Option ℕ → ℕ → Answer
end_of (outcome.Ok version) noted place = answer.Commit place
end_of outcome.Doubt noted place = answer.InDoubt
end_of (outcome.Full need free) (Some lost) place = answer.Undone place
end_of outcome.Worn (Some lost) place = answer.Undone place
end_of outcome.Disk (Some lost) place = answer.Undone place
end_of (outcome.Full need free) None place = answer.FailedFull need free
end_of outcome.Worn None place = answer.FailedWorn
end_of outcome.Disk None place = answer.FailedDisk false

-- a finish has no job exactly where no write-out of its lead is unfinished, and else it ends as the write-out did
abbrev pub FinishesAsItEnded : State → Type 0
FinishesAsItEnded state =
    (lead : ℕ) (outside : Outside) → IsClient lead
    → (is_no_job (step state (event.Finish lead) outside).answer ≡ not (is_unfinished_of lead state.unfinished))
    × ((unfinished : Unfinished) → state.unfinished ≡ Some unfinished → unfinished.lead ≡ lead
    → (step state (event.Finish lead) outside).answer ≡ end_of unfinished.outcome (noted_by state.shared lead) (length state.shared.trail))

-- a settle finds nothing exactly where nothing is in doubt. Else it fails with the disk, or answers the place of the mark
abbrev pub SettlesADoubt : State → Type 0
SettlesADoubt state =
    (outside : Outside)
    → (is_any_doubtful state.shared ≡ false → (step state event.Settle outside).answer ≡ answer.Nothing)
    × (is_any_doubtful state.shared ≡ true → is_settle_failed outside ≡ true → (step state event.Settle outside).answer ≡ answer.Disk)
    × (is_any_doubtful state.shared ≡ true → is_settle_failed outside ≡ false
    → (step state event.Settle outside).answer ≡ answer.Commit (length state.shared.trail))

abbrev pub EachNoJobIsExact : Type 0
EachNoJobIsExact = AtEachMoment NoJobExactly

abbrev pub EachVaultIsExact : Type 0
EachVaultIsExact = AtEachMoment VaultExactly

abbrev pub EachWornHasItsCause : Type 0
EachWornHasItsCause = AtEachMoment WornHasItsCause

abbrev pub EachFullHasItsCause : Type 0
EachFullHasItsCause = AtEachMoment FullHasItsCause

abbrev pub EachFaultIsOfTheOutside : Type 0
EachFaultIsOfTheOutside = AtEachMoment FaultsAreOfTheOutside

abbrev pub EachWrittenIsTheVersion : Type 0
EachWrittenIsTheVersion = AtEachMoment WrittenIsTheVersion

abbrev pub EachIsWrittenWhereItCan : Type 0
EachIsWrittenWhereItCan = AtEachMoment WrittenWhereItCan

abbrev pub EachFinishIsAsItEnded : Type 0
EachFinishIsAsItEnded = AtEachMoment FinishesAsItEnded

abbrev pub EachSettleIsOfADoubt : Type 0
EachSettleIsOfADoubt = AtEachMoment SettlesADoubt
