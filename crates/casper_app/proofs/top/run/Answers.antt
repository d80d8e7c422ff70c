use Rattle.std.proofs.Common.{inl, inr}
use Rattle.casper_app.proofs.EndLemmas.{not_write}
use Rattle.casper_app.proofs.top.run.Goals as goal

pub returns-in-Err-clause-write_fault : goal.returns-in-Err-clause-write_fault
returns-in-Err-clause-write_fault g c write =
    elim (c.end_unread.ensures.fault write) [ inl same ↦ absurd (not_write c.in-Err.cause c.in-Err.ensures.refused same) | inr rose ↦ rose ]
