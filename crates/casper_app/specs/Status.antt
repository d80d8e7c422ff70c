use Rattle.std.specs.Prelude.{ℕ}
use Rattle.casper_app.specs.declared.cause.Cause.{Cause}
use Rattle.casper_app.specs.declared.cause.Cause.TheVariants.{Usage, Read, Write, Disk, Refused, Memory, BadLine, Illegal, Unbuilt}
use Rattle.casper_app.specs.declared.end.End.{End}
use Rattle.casper_app.specs.declared.end.End.TheVariants.{Done, Legal, Formatted, Checked, Stopped}

-- the status that stands for a cause
abbrev pub status_of : Cause → ℕ
status_of Usage = 2
status_of Read = 3
status_of Write = 4
status_of Disk = 5
status_of (Refused refusal) = 6
status_of Memory = 7
status_of (BadLine line) = 8
status_of (Illegal at rule) = 9
status_of (Unbuilt line) = 10

-- the status that stands for an end
abbrev pub status_of_end : End → ℕ
status_of_end (Done summary) = 0
status_of_end (Legal entries) = 0
status_of_end (Formatted pages frames) = 0
status_of_end (Checked found) = 0
status_of_end (Stopped cause) = status_of cause
