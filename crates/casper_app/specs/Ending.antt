use Rattle.std.specs.Prelude.{◌≡◌, ◌≢◌, ℕ, ◌+◌, List, [], Option, Result, Ok, Err}
use Rattle.std.specs.Io.KnownBytes.{append_known}
use Rattle.casper_core.specs.Stepping.{RoseBy, failures_in}
use Rattle.casper_audit.specs.declared.verdict.AuditFault.{AuditFault}
use Rattle.casper_audit.specs.declared.verdict.AuditFault.TheVariants as fault
use Rattle.casper_audit.specs.declared.verdict.Verdict.{Verdict}
use Rattle.casper_audit.specs.declared.verdict.Verdict.TheVariants as verdict
use Rattle.casper_audit.specs.Verdicts.{IsAudit}
use Rattle.casper_io.specs.Reading.{ReadsLines}
use Rattle.casper_trail.specs.declared.item.Item.{Item}
use Rattle.casper_trail.specs.Legal.{IsLegal}
use Rattle.casper_model.specs.State.{State, zero_start}
use Rattle.casper_model.specs.WholeHistory.{whole_of}
use Rattle.casper_space.specs.declared.answer.Answer.{Answer}
use Rattle.casper_app.specs.declared.cause.Cause.{Cause}
use Rattle.casper_app.specs.declared.cause.Cause.TheVariants as cause
use Rattle.casper_app.specs.declared.command.Opening.{Opening}
use Rattle.casper_app.specs.declared.end.End.{End}
use Rattle.casper_app.specs.declared.end.End.TheVariants as end
use Rattle.casper_app.specs.declared.outlet.Outlet.{Outlet}
use Rattle.casper_app.specs.declared.schedule.Asked.{Asked}
use Rattle.casper_app.specs.Comes.{ComesFrom}
use Rattle.casper_app.specs.Lines.{asked_in}
use Rattle.casper_app.specs.Opening.{IsNoRefusal}
use Rattle.casper_app.specs.Play.{Standing, Plays, begun, by_machine}
use Rattle.casper_app.specs.Outlet.{kept_of}
use Rattle.casper_app.specs.Replay.{IsReplay, IsRefusal, IsSaid, WritesFor}
use Rattle.casper_app.specs.Texts.{end_line}

-- a last text was written for an end
pub record WritesLast (said last : End) (text : List ℕ) (before after : Option (List ℕ)) : Type 0 where
  pub out : List ℕ
  pub taken : after ≡ append_known before out
  pub written : WritesFor said last text out

-- the line that tells how a call ended was written for what it meant to say, or for want of memory
pub record EndsWith (meant last : End) (before after : Option (List ℕ)) : Type 0 where
  pub said : End
  pub said_is : IsSaid meant said
  pub out : List ℕ
  pub taken : after ≡ append_known before out
  pub written : WritesFor said last (end_line said) out

-- a call that reads the source was done
abbrev pub IsReadAndDone : End → Type 0
IsReadAndDone (end.Done summary) = Unit {0}
IsReadAndDone (end.Legal entries) = Unit {0}
IsReadAndDone (end.Formatted pages frames) = ⊥
IsReadAndDone (end.Checked found) = ⊥
IsReadAndDone (end.Stopped cause) = ⊥

-- a replay whose lines come to something wrote this, and as many steps failed by the outside, at most, as the count of the vault's
-- faults tells; and one more, where a reopen failed by the disk
pub record RunsReplay (Comes : ℕ → End → List Asked → List Answer → List Item → Type 0) (outlet : Outlet) (faults faults_after : ℕ) (left left_after taken taken_after : Option (List ℕ)) (answers : List Answer) (items : List Item) (last : End) : Type 0 where
  pub given : List Answer
  pub failures : RoseBy (failures_in given) faults faults_after
  pub stopped : last ≡ end.Stopped cause.Disk → RoseBy (failures_in given + 1) faults faults_after
  pub out : List ℕ
  pub taken_is : taken_after ≡ append_known taken out
  pub replay : IsReplay Comes outlet left left_after given answers items last out

-- no store was refused
abbrev pub IsUnrefused : End → Type 0
IsUnrefused (end.Stopped cause) = IsNoRefusal cause
IsUnrefused other = Unit {0}

-- the store was there: it was not refused, and its disk did not fail
abbrev pub HasItsStore : End → Type 0
HasItsStore last = IsUnrefused last × (last ≢ end.Stopped cause.Disk)

-- a session over so many zero pages in memory as it begins
abbrev pub start_of : ℕ → Opening → State
start_of pages opening = zero_start pages opening.entries opening.cache

-- a replay over zero pages in memory wrote this, and nothing failed by the outside
pub record RunsInMemory (pages : ℕ) (opening : Opening) (outlet : Outlet) (left left_after taken taken_after : Option (List ℕ)) (answers : List Answer) (items : List Item) (last : End) : Type 0 where
  pub given : List Answer
  pub unfailing : failures_in given ≡ 0
  pub out : List ℕ
  pub taken_is : taken_after ≡ append_known taken out
  pub replay : IsReplay (ComesFrom opening.entries (start_of pages opening)) outlet left left_after given answers items last out

-- the words were refused, and this was written
pub record RunsRefusal (refused : Cause) (left left_after taken taken_after : Option (List ℕ)) (answers : List Answer) (items : List Item) (last : End) : Type 0 where
  pub out : List ℕ
  pub taken_is : taken_after ≡ append_known taken out
  pub refusal : IsRefusal refused left left_after answers items last out

-- how an audit means to end
abbrev pub end_of_audit : Result Verdict AuditFault → End
end_of_audit (Ok (verdict.Legal entries)) = end.Legal entries
end_of_audit (Ok (verdict.FirstBad at rule)) = end.Stopped (cause.Illegal at rule)
end_of_audit (Err fault.Memory) = end.Stopped cause.Memory
end_of_audit (Err fault.Read) = end.Stopped cause.Read
end_of_audit (Err (fault.BadLine number)) = end.Stopped (cause.BadLine number)

-- the text of a trail was audited, and what it was found to be was written: nothing was answered or recorded
pub record RunsAudit (left left_after taken taken_after : Option (List ℕ)) (answers : List Answer) (items : List Item) (last : End) : Type 0 where
  pub found : Result Verdict AuditFault
  pub audit : IsAudit left left_after found
  pub ends : EndsWith (end_of_audit found) last taken taken_after
  pub answered : answers ≡ []
  pub recorded : items ≡ []

-- a replay from a start ended in a session: the answers, and the trail of that session, are those of what lines at the front of the
-- source ask for. The trail is legal over the array with which the session began, and so is the whole history: the trail, and then the
-- calls that are pending
pub record IsLegalFrom (entries : ℕ) (start : State) (outlet : Outlet) (left : Option (List ℕ)) (answers : List Answer) (items : List Item) : Type 0 where
  pub lines : List (List ℕ)
  pub rest : Option (List ℕ)
  pub reads : ReadsLines left lines rest
  pub given : List Answer
  pub answered : answers ≡ kept_of outlet given
  pub last : Standing
  pub plays : Plays by_machine entries (begun start) (asked_in lines) given last
  pub recorded : items ≡ last.state.shared.trail
  pub legal : IsLegal last.found.image items
  pub whole : IsLegal last.found.image (whole_of last.state)
