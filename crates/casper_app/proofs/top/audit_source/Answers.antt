use Rattle.std.proofs.Common.{◌∙◌, ap, sym, inl, inr}
use Rattle.casper_app.specs.Ending.{end_of_audit}
use Rattle.casper_app.proofs.EndLemmas.{audit_done, audit_read, audit_writes_not, done_meant, read_meant, source_by, runs_audit, end_by}
use Rattle.casper_app.proofs.top.audit_source.Goals as goal

pub returns-clause-run : goal.returns-clause-run
returns-clause-run g c =
    runs_audit c.audit-found.result c.end_of.result c.end_idle.result.last _ _ _ _ _ _ c.audit-found.ensures.audit c.end_of.ensures c.end_idle.ensures.ends
    c.end_idle.ensures.answers (c.end_idle.ensures.trail ∙ c.new.ensures.empty)

pub returns-clause-end : goal.returns-clause-end
returns-clause-end g c done =
    audit_done c.audit-found.result _ _ c.audit-found.ensures.audit
    (done_meant _ c.end_idle.result.last (end_by _ _ _ c.end_of.ensures c.end_idle.ensures.end) done)

pub returns-clause-read_fault : goal.returns-clause-read_fault
returns-clause-read_fault g c read =
    c.audit-found.ensures.fault (audit_read c.audit-found.result
    (read_meant _ c.end_idle.result.last (end_by _ _ _ c.end_of.ensures c.end_idle.ensures.end) read))

pub returns-clause-source_stands : goal.returns-clause-source_stands
returns-clause-source_stands g c =
    source_by _ _ _ _
    (elim c.audit-found.ensures.source_stands [ inl failed ↦ inl (c.end_of.ensures ∙ ap end_of_audit failed) | inr same ↦ inr same ])
    c.end_idle.ensures.constant

pub returns-clause-write_fault : goal.returns-clause-write_fault
returns-clause-write_fault g c write =
    elim (c.end_idle.ensures.fault write) [ inl meant ↦ absurd (audit_writes_not c.audit-found.result (sym c.end_of.ensures ∙ meant)) | inr rose ↦ rose ]
