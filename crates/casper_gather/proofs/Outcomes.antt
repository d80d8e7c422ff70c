use Rattle.std.proofs.Common.{◌≡◌, ℕ, Option, None, Some, refl, ap}
use Rattle.casper_model.specs.declared.outcome.Outcome.{Outcome}
use Rattle.casper_model.specs.declared.outcome.Outcome.TheVariants.{Ok, Full, Worn, Disk, Doubt}
use Rattle.casper_model.specs.Shared.{Shared}
use Rattle.casper_model.specs.Finish.{failed}
use Rattle.casper_gather.specs.declared.stab.Stab.{Stab}
use Rattle.casper_gather.specs.declared.stab.Phase.TheVariants as phase
use Rattle.casper_gather.specs.declared.resolved.Resolved.TheVariants as resolved
use Rattle.casper_gather.specs.Bookkeeping.{stabilisation_of, failure_of, resolved_by}
use Rattle.casper_gather.specs.AskerLaws.{AskersAreToldOnce}
use Rattle.casper_gather.specs.FinishLaws.{carried_out, FinishCarriesOut, NotedLossIsCarriedOut, FailureIsTold, DoubtKeepsTheLoss}

-- a failure, by the noted loss
failure : (shared : Shared) (one : Stab) (how : Outcome) (noted : Option ℕ)
    → failed shared (stabilisation_of one) how noted ≡ carried_out shared one how (failure_of one.askers noted)
failure shared one how None = refl
failure shared one how (Some lost) = refl

pub finish_carries_out : FinishCarriesOut
finish_carries_out shared one (Ok version) = refl
finish_carries_out shared one (Full need free) = failure shared one (Full need free) one.noted
finish_carries_out shared one Worn = failure shared one Worn one.noted
finish_carries_out shared one Disk = failure shared one Disk one.noted
finish_carries_out shared one Doubt = refl

pub noted_loss_is_carried_out : NotedLossIsCarriedOut
noted_loss_is_carried_out one (Ok version) lost noted fails = cc
noted_loss_is_carried_out one (Full need free) lost noted fails = ap (failure_of one.askers) noted
noted_loss_is_carried_out one Worn lost noted fails = ap (failure_of one.askers) noted
noted_loss_is_carried_out one Disk lost noted fails = ap (failure_of one.askers) noted
noted_loss_is_carried_out one Doubt lost noted fails = cc

pub failure_is_told : FailureIsTold
failure_is_told one (Ok version) noted fails = cc
failure_is_told one (Full need free) noted fails = ap (failure_of one.askers) noted
failure_is_told one Worn noted fails = ap (failure_of one.askers) noted
failure_is_told one Disk noted fails = ap (failure_of one.askers) noted
failure_is_told one Doubt noted fails = cc

-- the stabilisation that a doubt leaves
left_in_doubt : (one doubtful : Stab) → resolved_by one Doubt ≡ resolved.Doubt doubtful → doubtful ≡ record one { phase = phase.Doubt }
left_in_doubt one doubtful e = cc

pub doubt_keeps_the_loss : DoubtKeepsTheLoss
doubt_keeps_the_loss one doubtful e = ap (λ (s : Stab). s.noted) (left_in_doubt one doubtful e)

pub askers_are_told_once : AskersAreToldOnce
askers_are_told_once one doubtful version e = (refl, ap (λ (s : Stab). s.askers) (left_in_doubt one doubtful e))
