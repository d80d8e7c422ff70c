use Rattle.std.proofs.Common.{◌∙◌, ap}
use Rattle.casper_space.specs.declared.answer.Answer.TheVariants as answer
use Rattle.casper_core.specs.CoreView.{told_by}
use Rattle.casper_core.proofs.LeftLemmas.{on_err}
use Rattle.casper_app.specs.declared.sessions.Sessions.{Sessions}
use Rattle.casper_app.specs.Carrying.{MakesNone}
use Rattle.casper_app.specs.Play.{past_with}
use Rattle.casper_app.proofs.CarryLemmas.{reopen_step, reopen_none}
use Rattle.casper_app.proofs.sessions.Sessions.reopen.Goals as goal

pub returns-clause-step : goal.returns-clause-step
returns-clause-step g c =
    let trail = c.trail.ensures.items ∙ ap (λ hub. hub.trail) c.hub.ensures.hub in
    let fine = c.in_ok-reopen.ensures in
    reopen_step c.args.self.now c.reopen.new.self c.with-past.result c.hub.ensures.sound (c.with-past.ensures ∙ ap (past_with c.args.self.now.past) trail)
    fine.size fine.capacity (answer.Reopened c.version.result) (ap answer.Reopened c.version.ensures) g.V.Vault.tells g.V.Vault.faults g.V.Vault.moment g.V.Vault.images_since fine.stands fine.shape fine.found fine.calls fine.vault.never_falls
    (told_by g.V.Vault.image g.V.Vault.version g.V.Vault.room g.V.Vault.doubt c.args.self.now.core.vault) c.calls-calls.ensures.told fine.images

pub returns-in_err-reopen-clause-none : goal.returns-in_err-reopen-clause-none
returns-in_err-reopen-clause-none g c =
    let after : Sessions g.row.V.Denot = record c.args.self.now { core = c.reopen.new.self } in
    let failed = c.in_err-reopen.ensures in
    on_err c.from_residual.result (MakesNone g.V.Vault.tells g.V.Vault.faults g.V.Vault.moment g.V.Vault.images_since c.args.self.now after)
    (reopen_none g.V.Vault.tells g.V.Vault.faults g.V.Vault.moment g.V.Vault.images_since c.args.self.now c.reopen.new.self failed.stays failed.stays_in_shape failed.calls failed.vault.never_falls
    (told_by g.V.Vault.image g.V.Vault.version g.V.Vault.room g.V.Vault.doubt c.args.self.now.core.vault) c.calls-calls.ensures.told failed.images)
