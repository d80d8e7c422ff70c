use Rattle.std.specs.Prelude.{ℕ, ◌∷◌, ◌++◌, [], ◌==◌, not, cond, filter, find, length, Option, None, Some}
use Rattle.casper_words.specs.Crew.{has_member}
use Rattle.casper_trail.specs.declared.item.Item.TheVariants as item
use Rattle.casper_trail.specs.declared.mark.Mark.TheVariants.{Commit}
use Rattle.casper_model.specs.declared.outcome.Outcome.{Outcome}
use Rattle.casper_model.specs.declared.outcome.Outcome.TheVariants as outcome
use Rattle.casper_model.specs.declared.outcome.Kept.{Kept}
use Rattle.casper_model.specs.declared.outcome.Kept.TheVariants as kept
use Rattle.casper_model.specs.declared.outcome.Finished.{Finished}
use Rattle.casper_model.specs.declared.outcome.Finished.TheVariants as finished
use Rattle.casper_model.specs.Stabilisation.{Stabilisation, Doubtful, is_doubtful}
use Rattle.casper_model.specs.Shared.{Shared, each_client, change_stabilisation}
use Rattle.casper_model.specs.Both.{Changed}
use Rattle.casper_model.specs.Frozen.{members_of_stabilisation}
use Rattle.casper_model.specs.Loss.{rolled_back}

-- a stabilisation over: the outcome is kept for each client that waits for it
abbrev pub ended : Shared → Stabilisation → Kept → Shared
ended shared one outcome =
    let after = each_client (λ who client. cond (has_member who one.askers) (record client { kept = Some outcome }) client) shared in
    record after { stabilisations = filter (λ other. not (other.lead == one.lead)) shared.stabilisations }

-- an association made stable: the mark is recorded, and losses that were noted are forgotten
abbrev pub committed : Shared → Stabilisation → Changed ℕ
committed shared one =
    let place = length shared.trail in
    let after = ended shared one (kept.Committed place) in
    record {
      reply = place;
      shared = record after { trail = shared.trail ++ item.Mark (Commit one.lead (members_of_stabilisation shared one)) ∷ [] };
    }

-- a write-out that failed: the association is no longer frozen. Where a loss was noted, it is carried out
abbrev pub failed : Shared → Stabilisation → Outcome → Option ℕ → Changed Finished
failed shared one cause None = record { reply = finished.Failed cause; shared = ended shared one (kept.Failed cause) }
failed shared one cause (Some lost) = record { reply = finished.Undone (length shared.trail); shared = rolled_back shared lost }

-- the stabilisation ends as its write-out did
abbrev pub finished_as : Shared → Stabilisation → Outcome → Changed Finished
finished_as shared one (outcome.Ok version) =
    let done = committed shared one in
    record { reply = finished.Committed done.reply; shared = done.shared }
finished_as shared one (outcome.Full need free) = failed shared one (outcome.Full need free) one.noted
finished_as shared one outcome.Worn = failed shared one outcome.Worn one.noted
finished_as shared one outcome.Disk = failed shared one outcome.Disk one.noted
finished_as shared one outcome.Doubt =
    record { reply = finished.Doubt; shared = change_stabilisation one.lead (λ other. record other { phase = Doubtful }) shared }

-- the stabilisation of a lead, if there is one
abbrev pub stabilisation_led_by : Shared → ℕ → Option Stabilisation
stabilisation_led_by shared lead = find (λ one. one.lead == lead) shared.stabilisations

abbrev pub finished_by : Shared → Outcome → Option Stabilisation → Changed (Option Finished)
finished_by shared how None = record { reply = None; shared = shared }
finished_by shared how (Some one) = let done = finished_as shared one how in record { reply = Some done.reply; shared = done.shared }

-- the finishing turn of the write-out of a lead. There is no reply where the lead has no stabilisation
abbrev pub finish : Shared → ℕ → Outcome → Changed (Option Finished)
finish shared lead how = finished_by shared how (stabilisation_led_by shared lead)

-- the stabilisation in doubt, if there is one
abbrev pub doubtful_of : Shared → Option Stabilisation
doubtful_of shared = find (λ one. is_doubtful one.phase) shared.stabilisations

abbrev pub settled_by : Shared → Option Stabilisation → Changed (Option ℕ)
settled_by shared None = record { reply = None; shared = shared }
settled_by shared (Some one) = let done = committed shared one in record { reply = Some done.reply; shared = done.shared }

-- the turn after a vault that has settled: the stabilisation in doubt is made stable
abbrev pub settled : Shared → Changed (Option ℕ)
settled shared = settled_by shared (doubtful_of shared)
