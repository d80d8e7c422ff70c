use Rattle.std.specs.Prelude.{◌≡◌, ℕ, List, [], ◌∷◌, not, cond, Option, None, Some}
use Rattle.casper_words.specs.Crew.{crew_of, has_member}
use Rattle.casper_model.specs.declared.outcome.Outcome.{Outcome}
use Rattle.casper_model.specs.declared.outcome.Outcome.TheVariants as outcome
use Rattle.casper_model.specs.Stabilisation.{Stabilisation, is_gathering, handed_in_by, is_empty, phase_awaiting, without, Phase as MachinePhase, Gathering as machine_gathers, Sealed as machine_sealed, Doubtful as machine_doubts}
use Rattle.casper_gather.specs.declared.stab.Phase.{Phase}
use Rattle.casper_gather.specs.declared.stab.Phase.TheVariants as phase
use Rattle.casper_gather.specs.declared.stab.Stab.{Stab}
use Rattle.casper_gather.specs.declared.resolved.Resolved.{Resolved}
use Rattle.casper_gather.specs.declared.resolved.Resolved.TheVariants as resolved

-- a phase as the machine has it
abbrev pub phase_of : Phase → MachinePhase
phase_of phase.Gathering = machine_gathers
phase_of phase.Sealed = machine_sealed
phase_of phase.Doubt = machine_doubts

-- the machine's record of a stabilisation. The label is the server's own
abbrev pub stabilisation_of : Stab → Stabilisation
stabilisation_of one =
    record { lead = one.lead; awaited = one.left; askers = one.askers; noted = one.noted; phase = phase_of one.phase }

-- the stabilisation that a lead begins, for whose outcome it waits
abbrev pub begun_by : ℕ → List ℕ → Stabilisation
begun_by lead awaited =
    record {
      lead = lead;
      awaited = awaited;
      askers = crew_of (λ other. has_member other (lead ∷ []));
      noted = None;
      phase = phase_awaiting awaited;
    }

-- a stabilisation once a member has handed in its pages, where it gathers, and else as it was
abbrev pub after_hand_in : ℕ → Stabilisation → Stabilisation
after_hand_in who one = cond (is_gathering one.phase) (handed_in_by who one) one

-- a stabilisation for whose outcome a client no longer waits
abbrev pub without_asker : ℕ → Stabilisation → Stabilisation
without_asker who one = record one { askers = without who one.askers }

-- what a failure comes to: a noted loss is carried out, and without one the askers are told
abbrev pub failure_of : List ℕ → Option ℕ → Resolved
failure_of askers None = resolved.Fail askers
failure_of askers (Some lost) = resolved.Undo lost

-- what an outcome of the write-out comes to
abbrev pub resolved_by : Stab → Outcome → Resolved
resolved_by one (outcome.Ok version) = resolved.Commit one.askers
resolved_by one (outcome.Full need free) = failure_of one.askers one.noted
resolved_by one outcome.Worn = failure_of one.askers one.noted
resolved_by one outcome.Disk = failure_of one.askers one.noted
resolved_by one outcome.Doubt = resolved.Doubt (record one { phase = phase.Doubt })

-- members have to hand in pages exactly while it gathers
abbrev pub AwaitsAsItGathers : Stab → Type 0
AwaitsAsItGathers one = is_gathering (phase_of one.phase) ≡ not (is_empty one.left)
