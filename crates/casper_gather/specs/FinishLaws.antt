use Rattle.std.specs.Prelude.{◌≡◌, ℕ, Bool, true, false, length, None, Some}
use Rattle.casper_model.specs.declared.outcome.Outcome.{Outcome}
use Rattle.casper_model.specs.declared.outcome.Outcome.TheVariants as outcome
use Rattle.casper_model.specs.declared.outcome.Finished.{Finished}
use Rattle.casper_model.specs.declared.outcome.Finished.TheVariants as finished
use Rattle.casper_model.specs.declared.outcome.Kept.TheVariants as kept
use Rattle.casper_model.specs.Shared.{Shared, change_stabilisation}
use Rattle.casper_model.specs.Both.{Changed}
use Rattle.casper_model.specs.Loss.{rolled_back}
use Rattle.casper_model.specs.Finish.{committed, ended, finished_as}
use Rattle.casper_gather.specs.declared.stab.Stab.{Stab}
use Rattle.casper_gather.specs.declared.resolved.Resolved.{Resolved}
use Rattle.casper_gather.specs.declared.resolved.Resolved.TheVariants as resolved
use Rattle.casper_gather.specs.Bookkeeping.{stabilisation_of, resolved_by}

-- what the machine does with a stabilisation, by what its outcome came to: the mark recorded and these askers told, these askers told of
-- the failure, the lost client's association rolled back, or the stabilisation in doubt
abbrev pub carried_out : Shared → Stab → Outcome → Resolved → Changed Finished
carried_out shared one how (resolved.Commit askers) =
    let done = committed shared (record (stabilisation_of one) { askers = askers }) in
    record { reply = finished.Committed done.reply; shared = done.shared }
carried_out shared one how (resolved.Fail askers) =
    record { reply = finished.Failed how; shared = ended shared (record (stabilisation_of one) { askers = askers }) (kept.Failed how) }
carried_out shared one how (resolved.Undo lost) = record { reply = finished.Undone (length shared.trail); shared = rolled_back shared lost }
carried_out shared one how (resolved.Doubt after) =
    record {
      reply = finished.Doubt;
      shared = change_stabilisation one.lead (λ other. record other { phase = (stabilisation_of after).phase }) shared;
    }

-- the machine's finishing turn carries out what the outcome comes to
abbrev pub FinishCarriesOut : Type 0
FinishCarriesOut = (shared : Shared) (one : Stab) (how : Outcome)
    → finished_as shared (stabilisation_of one) how ≡ carried_out shared one how (resolved_by one how)

-- whether a write-out failed without doubt
abbrev pub is_failure : Outcome → Bool
is_failure (outcome.Ok version) = false
is_failure (outcome.Full need free) = true
is_failure outcome.Worn = true
is_failure outcome.Disk = true
is_failure outcome.Doubt = false

-- a noted loss is carried out after each failure
abbrev pub NotedLossIsCarriedOut : Type 0
NotedLossIsCarriedOut = (one : Stab) (how : Outcome) (lost : ℕ) → one.noted ≡ Some lost → is_failure how ≡ true
    → resolved_by one how ≡ resolved.Undo lost

-- and without one the askers are told of it
abbrev pub FailureIsTold : Type 0
FailureIsTold = (one : Stab) (how : Outcome) → one.noted ≡ None → is_failure how ≡ true → resolved_by one how ≡ resolved.Fail one.askers

-- a loss that was noted stays noted in doubt
abbrev pub DoubtKeepsTheLoss : Type 0
DoubtKeepsTheLoss = (one doubtful : Stab) → resolved_by one outcome.Doubt ≡ resolved.Doubt doubtful → doubtful.noted ≡ one.noted
