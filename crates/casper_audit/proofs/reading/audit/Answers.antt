use Rattle.std.proofs.Common.{◌+◌, ◌∙◌, ℕ, List, Err, arith, subst, refl, inl, inr}
use Rattle.casper_audit.specs.declared.verdict.AuditFault.TheVariants as fault
use Rattle.casper_audit.specs.Lines.{line_parsed}
use Rattle.casper_audit.specs.Auditor.{TakesParsed}
use Rattle.casper_audit.specs.Verdicts.{IsAudit}
use Rattle.casper_audit.proofs.AuditLemmas.{behind_none, behind_more, audit_without, audit_refused, is_line, taken_line, err_is}
use Rattle.casper_audit.proofs.reading.audit.Goals as goal

pub returns-in_err-line-clause-audit : goal.returns-in_err-line-clause-audit
returns-in_err-line-clause-audit g c =
    err_is c.from_residual.result fault.Memory (IsAudit (g.S.Source.left c.args.source.now) (g.S.Source.left c.args.source.now)) c.from_residual.ensures.1
    (audit_without (g.S.Source.left c.args.source.now))

pub returns-in_err-auditor-clause-audit : goal.returns-in_err-auditor-clause-audit
returns-in_err-auditor-clause-audit g c =
    err_is c.from_residual-in_err-auditor.result fault.Memory (IsAudit (g.S.Source.left c.args.source.now) (g.S.Source.left c.args.source.now)) c.from_residual-in_err-auditor.ensures.1
    (audit_without (g.S.Source.left c.args.source.now))

pub returns-in_err-verdict-clause-audit : goal.returns-in_err-verdict-clause-audit
returns-in_err-verdict-clause-audit g c =
    err_is c.from_residual-in_err-verdict.result c.in_err-verdict.field-0.0 (IsAudit (g.S.Source.left c.args.source.now) (g.S.Source.left c.read_line.new.source))
    c.from_residual-in_err-verdict.ensures.1
    (audit_refused c.loop-lines.invariant.0 c.read_line.new.line c.in_err-verdict.field-0.0 c.take_line.new.self c.loop-lines-test.true
    (is_line _ _ c.in_ok-read_line.field-0 c.if-not-branch.false c.in_ok-read_line.ensures.next)
    (subst (λ (bytes : List ℕ). TakesParsed (c.loop-lines.lines + 1) (line_parsed bytes) c.loop-lines.invariant.0.text c.take_line.new.self (Err c.in_err-verdict.field-0.0)) c.bytes.ensures.bytes
    (c.in_err-verdict.ensures.takes c.loop-lines.invariant.0.text c.loop-lines.invariant.0.stands)))

pub loop-lines-init : goal.loop-lines-init
loop-lines-init g c = (
  behind_none _ c.in_ok-auditor.auditor c.in_ok-auditor.ensures,
  omega (arith, c.in_ok-auditor.ensures.items),
  omega (arith, c.in_ok-auditor.ensures.entries),
  refl,
  c.requires,
)

pub loop-lines-preserved : goal.loop-lines-preserved
loop-lines-preserved g c = (
  behind_more c.read_line.new.line c.loop-lines.invariant.0 (is_line _ _ c.in_ok-read_line.field-0 c.if-not-branch.false c.in_ok-read_line.ensures.next)
      (taken_line (c.loop-lines.lines + 1) c.bytes.result.now c.read_line.new.line c.loop-lines.invariant.0.text c.take_line.new.self c.in_ok-verdict.field-0 c.bytes.ensures.bytes c.in_default.is
      (c.in_ok-verdict.ensures.takes c.loop-lines.invariant.0.text c.loop-lines.invariant.0.stands)),
  omega (arith, c.take_line.ensures.items, c.loop-lines.invariant.1),
  omega (arith, c.take_line.ensures.entries, c.loop-lines.invariant.2),
  (elim c.in_ok-read_line.ensures.source_stands [ inl failed ↦ (let none = failed in cc) | inr same ↦ same ]) ∙ c.loop-lines.invariant.3,
  elim c.in_ok-read_line.ensures.source_whole [ inl failed ↦ (let none = failed in cc) | inr whole ↦ whole ],
)
