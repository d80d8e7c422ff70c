use Rattle.std.specs.Prelude.{ℕ, Bool, true, false, List, [], ◌∷◌, ◌++◌, codes}
use Rattle.std.specs.Fmt.{decimal}
use Rattle.casper_report.specs.Refusals.{counts, refusal_line}
use Rattle.casper_report.specs.Summary.{summary_line}
use Rattle.casper_report.specs.Texts.{as_line, joined, word_line}
use Rattle.casper_stores.specs.Lines.{formatted_line, checked_line}
use Rattle.casper_audit.specs.declared.verdict.AuditRule.{AuditRule}
use Rattle.casper_audit.specs.declared.verdict.AuditRule.TheVariants as rule
use Rattle.casper_app.specs.declared.cause.Cause.{Cause}
use Rattle.casper_app.specs.declared.cause.Cause.TheVariants as cause
use Rattle.casper_app.specs.declared.end.End.{End}
use Rattle.casper_app.specs.declared.end.End.TheVariants as end

-- the word for a rule of a trail
abbrev pub rule_word : AuditRule → List ℕ
rule_word rule.Read = codes "read"
rule_word rule.Commit = codes "commit"
rule_word rule.Rollback = codes "rollback"

-- the line for a status other than 0, which comes last
abbrev pub cause_line : Cause → List ℕ
cause_line cause.Usage = as_line (codes "usage")
cause_line cause.Read = as_line (codes "read fault")
cause_line cause.Write = []
cause_line cause.Disk = as_line (codes "disk fault")
cause_line (cause.Refused refusal) = refusal_line refusal
cause_line cause.Memory = as_line (codes "no memory")
cause_line (cause.BadLine n) = as_line (codes "bad line " ++ decimal n)
cause_line (cause.Illegal at which) = joined (codes "bad " ∷ decimal at ∷ codes " " ∷ rule_word which ∷ codes "\n" ∷ [])
cause_line (cause.Unbuilt n) = as_line (codes "unbuilt " ++ decimal n)

-- the line that tells how a call ended
abbrev pub end_line : End → List ℕ
end_line (end.Done summary) = summary_line summary
end_line (end.Legal entries) = word_line (codes "legal") entries
end_line (end.Formatted pages frames) = formatted_line pages frames
end_line (end.Checked found) = checked_line found
end_line (end.Stopped cause) = cause_line cause

-- whether the line that tells how a call ended tells a number: its text takes memory, and each other one is constant
abbrev pub tells_number : End → Bool
tells_number (end.Done summary) = true
tells_number (end.Legal entries) = true
tells_number (end.Formatted pages frames) = true
tells_number (end.Checked found) = true
tells_number (end.Stopped cause.Usage) = false
tells_number (end.Stopped cause.Read) = false
tells_number (end.Stopped cause.Write) = false
tells_number (end.Stopped cause.Disk) = false
tells_number (end.Stopped (cause.Refused refusal)) = counts refusal
tells_number (end.Stopped cause.Memory) = false
tells_number (end.Stopped (cause.BadLine n)) = true
tells_number (end.Stopped (cause.Illegal at which)) = true
tells_number (end.Stopped (cause.Unbuilt n)) = true
