use Rattle.casper_app.proofs.CarryLemmas.{event_step}
use Rattle.casper_app.proofs.sessions.Sessions.carry_out.Goals as goal

pub returns-in-Ok-clause-step : goal.returns-in-Ok-clause-step
returns-in-Ok-clause-step g c =
    event_step g.V.Vault.tells g.V.Vault.faults g.V.Vault.moment g.V.Vault.images_since c.args.event.now c.in-Ok.answer c.args.self.now c.step.new.self
    c.in-Ok.ensures.step c.in-Ok.ensures.shape c.in-Ok.ensures.fault c.in-Ok.ensures.never_falls c.in-Ok.ensures.calls c.in-Ok.ensures.images
