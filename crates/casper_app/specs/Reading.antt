use Rattle.std.specs.Prelude.{◌≡◌, ℕ, ◌+◌, ◌≤◌, Bool, List, ◌++◌, length, Option, None, Some, Result, Ok, Err, IfOk}
use Rattle.std.specs.Io.KnownBytes.{append_known}
use Rattle.casper_io.specs.Reading.{most_lines, ReadsLines}
use Rattle.casper_space.specs.declared.answer.Answer.{Answer}
use Rattle.casper_report.specs.Texts.{answer_lines}
use Rattle.casper_disk.specs.Vault.{Saved}
use Rattle.casper_core.specs.Stepping.{RoseBy, failures_in}
use Rattle.casper_app.specs.declared.cause.Cause.{Cause}
use Rattle.casper_app.specs.declared.cause.Cause.TheVariants as cause
use Rattle.casper_app.specs.declared.replay.Replay.{Replay}
use Rattle.casper_app.specs.Carrying.{Carries}
use Rattle.casper_app.specs.Lines.{asked_in, AreTaken}
use Rattle.casper_app.specs.Outlet.{kept_of, written_of}
use Rattle.casper_app.specs.Replay.{EndsFor, WritesAnswers}

-- so many lines were skipped or answered, from the bytes left at first, and their answers were kept and written
pub record Stands {V : Type 0} (tells : Bool) (faults moment : V → ℕ) (since : V → ℕ → Saved → Type 0) (count : ℕ) (first left taken_first taken : Option (List ℕ)) (old new : Replay V) : Type 0 where
  pub lines : List (List ℕ)
  pub counted : length lines ≡ count
  pub reads : ReadsLines first lines left
  pub each : AreTaken lines
  pub given : List Answer
  pub carries : Carries tells faults moment since (asked_in lines) given old.sessions new.sessions
  pub outlet : new.outlet ≡ old.outlet
  pub kept : new.answers.items ≡ old.answers.items ++ kept_of old.outlet given
  pub written : taken ≡ append_known taken_first (answer_lines (written_of old.outlet given))

-- why a reading ended before the source's end
abbrev pub stop_of : Result ℕ Cause → Option Cause
stop_of (Ok count) = None
stop_of (Err cause) = Some cause

-- lines were read and answered, one after another, until the source's end, where the result is their number, or until the reading
-- ended for a cause. A reopen that failed by the disk counts beside the steps
pub record IsReading {V : Type 0} (tells : Bool) (faults moment : V → ℕ) (since : V → ℕ → Saved → Type 0) (first left taken_first taken : Option (List ℕ)) (old new : Replay V) (result : Result ℕ Cause) : Type 0 where
  pub lines : List (List ℕ)
  pub rest : Option (List ℕ)
  pub reads : ReadsLines first lines rest
  pub each : AreTaken lines
  pub few : length lines ≤ most_lines
  pub counted : IfOk result (λ count. length lines ≡ count)
  pub given : List Answer
  pub told : List Answer
  pub ends : EndsFor (stop_of result) lines rest left (written_of old.outlet given) told
  pub carries : Carries tells faults moment since (asked_in lines) given old.sessions new.sessions
  pub stopped : stop_of result ≡ Some cause.Disk → RoseBy (failures_in given + 1) (faults old.sessions.core.vault) (faults new.sessions.core.vault)
  pub kept : new.answers.items ≡ old.answers.items ++ kept_of old.outlet given
  pub out : List ℕ
  pub taken_is : taken ≡ append_known taken_first out
  pub written : WritesAnswers (stop_of result) told out
