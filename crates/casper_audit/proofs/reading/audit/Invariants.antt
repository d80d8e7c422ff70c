use Rattle.std.proofs.Common.{◌≡◌, ◌≤◌, false}
use Rattle.casper_audit.proofs.AuditLemmas.{Behind}
use Rattle.casper_audit.proofs.reading.audit.Given as goal

abbrev pub invariant-loop-lines : goal.invariant-loop-lines
invariant-loop-lines g l =
    Behind (g.S.Source.left l.fn.source) (g.S.Source.left l.source) l.lines l.auditor
    × (l.auditor.items ≤ l.lines)
    × (l.auditor.entries ≤ l.lines)
    × (g.S.Source.faults l.source ≡ g.S.Source.faults l.fn.source)
    × (g.S.Source.is_broken l.source ≡ false)
