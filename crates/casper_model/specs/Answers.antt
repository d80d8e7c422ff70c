use Rattle.std.specs.Prelude.{false, Option, None, Some}
use Rattle.casper_space.specs.declared.answer.Answer.{Answer}
use Rattle.casper_space.specs.declared.answer.Answer.TheVariants as answer
use Rattle.casper_model.specs.declared.outcome.Outcome.{Outcome}
use Rattle.casper_model.specs.declared.outcome.Outcome.TheVariants as outcome
use Rattle.casper_model.specs.declared.outcome.Finished.{Finished}
use Rattle.casper_model.specs.declared.outcome.Finished.TheVariants as finished
use Rattle.casper_model.specs.declared.reply.JoinRefusal.{JoinRefusal}
use Rattle.casper_model.specs.declared.reply.JoinRefusal.TheVariants as refusal
use Rattle.casper_model.specs.declared.reply.Reply.{Reply}
use Rattle.casper_model.specs.declared.reply.Reply.TheVariants as reply
use Rattle.casper_model.specs.declared.reply.Served.{Served}
use Rattle.casper_model.specs.declared.reply.Served.TheVariants as served
use Rattle.casper_model.specs.declared.reply.StabReply.{StabReply}
use Rattle.casper_model.specs.declared.reply.StabReply.TheVariants as stab
use Rattle.casper_model.specs.declared.reply.Loss.{Loss}
use Rattle.casper_model.specs.declared.reply.Loss.TheVariants as loss

-- What a turn replies, as the answer to its event. A machine's turn never replies that memory is short, or that a page
-- has to be read first.

abbrev pub of_join : Option JoinRefusal → Answer
of_join None = answer.Joined
of_join (Some refusal.Memory) = answer.Absent
of_join (Some refusal.Busy) = answer.Busy
of_join (Some (refusal.TrailFull entries)) = answer.TrailFull entries

abbrev pub of_reply : Reply → Answer
of_reply reply.Granted = answer.Granted
of_reply (reply.Pending blockers) = answer.Pending blockers
of_reply (reply.Frozen lead) = answer.Frozen lead
of_reply reply.InDoubt = answer.InDoubt
of_reply (reply.RolledBack mark recorded unrecorded) = answer.RolledBack mark recorded unrecorded
of_reply (reply.TrailFull entries) = answer.TrailFull entries
of_reply (reply.Load page marks) = answer.Disk

abbrev pub of_served : Served → Answer
of_served served.Ok = answer.Ok
of_served (served.RolledBack mark recorded unrecorded) = answer.RolledBack mark recorded unrecorded

abbrev pub of_depart : Served → Answer
of_depart served.Ok = answer.Left
of_depart (served.RolledBack mark recorded unrecorded) = answer.RolledBack mark recorded unrecorded

-- the cause of a failed write-out, as the answer to a stabilise or a finish
abbrev pub of_failure : Outcome → Answer
of_failure (outcome.Ok version) = answer.Written version
of_failure (outcome.Full need free) = answer.FailedFull need free
of_failure outcome.Worn = answer.FailedWorn
of_failure outcome.Disk = answer.FailedDisk false
of_failure outcome.Doubt = answer.InDoubt

abbrev pub of_stabilise : StabReply → Answer
of_stabilise (stab.Gathering awaited) = answer.Gathering awaited
of_stabilise (stab.Sealed pages) = answer.Sealed pages
of_stabilise (stab.Doing lead) = answer.Doing lead
of_stabilise (stab.Doubtful lead) = answer.Doubtful lead
of_stabilise (stab.Committed mark) = answer.Commit mark
of_stabilise (stab.Failed cause) = of_failure cause
of_stabilise (stab.RolledBack mark recorded unrecorded) = answer.RolledBack mark recorded unrecorded

abbrev pub of_write_out : Outcome → Answer
of_write_out (outcome.Ok version) = answer.Written version
of_write_out (outcome.Full need free) = answer.Full need free
of_write_out outcome.Worn = answer.Worn
of_write_out outcome.Disk = answer.Disk
of_write_out outcome.Doubt = answer.Doubt

abbrev pub of_finish : Option Finished → Answer
of_finish None = answer.NoJob
of_finish (Some (finished.Committed mark)) = answer.Commit mark
of_finish (Some (finished.Failed cause)) = of_failure cause
of_finish (Some (finished.Undone mark)) = answer.Undone mark
of_finish (Some finished.Doubt) = answer.InDoubt

abbrev pub of_vanish : Loss → Answer
of_vanish (loss.Lost mark unrecorded) = answer.VanishLost mark unrecorded
of_vanish (loss.Noted lead unrecorded) = answer.VanishNoted lead unrecorded
of_vanish (loss.Already mark) = answer.Already mark

abbrev pub of_lose : Loss → Answer
of_lose (loss.Lost mark unrecorded) = answer.LoseLost mark
of_lose (loss.Noted lead unrecorded) = answer.LoseNoted lead
of_lose (loss.Already mark) = answer.Already mark
