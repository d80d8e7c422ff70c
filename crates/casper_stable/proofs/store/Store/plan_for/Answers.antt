use Rattle.std.proofs.Common.{◌∙◌, ◌<◌, ℕ, List, map, sym, subst}
use Rattle.std.specs.Prelude.{All, Ok, Err}
use Rattle.casper_disk.specs.declared.vault.CommitFault.{CommitFault}
use Rattle.casper_map.specs.Mapped.{page_count}
use Rattle.casper_stable.specs.Doubts.{commit_fault_of}
use Rattle.casper_stable.specs.Kept.{Kept}
use Rattle.casper_stable.proofs.PlanningLemmas.{all_pages, IsFullBy, IsFullCommit, full_ok, full_err}
use Rattle.casper_stable.proofs.store.Store.plan_for.Goals as goal

pub plan-requires-clause-within : goal.plan-requires-clause-within
plan-requires-clause-within g c =
    subst (λ (pages : List ℕ). All (λ page. page < page_count c.self.inside.map) pages) (sym (c.deref.ensures.value
    ∙ c.in_ok-pages.ensures))
    (subst (λ (kept : Kept g.row.D.Denot). All (λ page. page < page_count kept.held) (map (λ
    (change : ℕ × List ℕ). change.0) c.args.changes.now)) (sym c.self.view_is)
    (all_pages c.args.changes.now (page_count c.args.self.now.held) c.requires.within))

pub returns-in-Ok-clause-full : goal.returns-in-Ok-clause-full
returns-in-Ok-clause-full g c =
    let whole = c.self.invariant.0.whole in
    subst (λ (kept : Kept g.row.D.Denot). IsFullCommit (Ok c.in-Ok.plan) kept.held c.args.changes.now) c.self.view_is
    (full_ok c.in-Ok.plan c.self.inside.map c.args.changes.now whole.apart whole.below c.requires.some
    (subst (λ (pages : List ℕ). IsFullBy (Ok c.in-Ok.plan) c.self.inside.map pages) (c.deref.ensures.value
    ∙ c.in_ok-pages.ensures) c.in-Ok.ensures.full))

pub returns-clause-full : goal.returns-clause-full
returns-clause-full g c =
    let whole = c.self.invariant.0.whole in
    subst (λ (given : CommitFault). IsFullCommit (Err given) c.args.self.now.held c.args.changes.now) (sym c.as_commit_fault.ensures)
    (subst (λ (kept : Kept g.row.D.Denot). IsFullCommit (Err (commit_fault_of c.in-Err.fault)) kept.held c.args.changes.now) c.self.view_is
    (full_err c.in-Err.fault c.self.inside.map c.args.changes.now whole.apart whole.below c.requires.some
    (subst (λ (pages : List ℕ). IsFullBy (Err c.in-Err.fault) c.self.inside.map pages) (c.deref.ensures.value
    ∙ c.in_ok-pages.ensures) c.in-Err.ensures.full)))
