use Rattle.std.proofs.Common.{ap, sym, subst, ◌∙◌}
use Rattle.casper_core.proofs.LeftLemmas.{on_err, adds_nothing}
use Rattle.casper_app.specs.declared.sessions.Sessions.{Sessions}
use Rattle.casper_app.specs.Carrying.{MakesNone}
use Rattle.casper_app.proofs.CarryLemmas.{makes_none, makes_step_at}
use Rattle.casper_app.proofs.replay.Replay.answer.Goals as goal
use Rattle.casper_app.proofs.replay.Replay.answer.Goals.{in-Event+in_ok-answer-in-Event, in-Reopen+in_ok-answer-in-Reopen}

pub returns-in_err-make_room-clause-none : goal.returns-in_err-make_room-clause-none
returns-in_err-make_room-clause-none g c =
    on_err c.from_residual.result (MakesNone g.V.Vault.tells g.V.Vault.faults g.V.Vault.moment g.V.Vault.images_since c.args.self.now.sessions c.make_room.new.self.sessions)
    (subst (λ (s : Sessions g.row.V.Denot). MakesNone g.V.Vault.tells g.V.Vault.faults g.V.Vault.moment g.V.Vault.images_since c.args.self.now.sessions s) (sym c.in_err-make_room.ensures.sessions)
    (makes_none g.V.Vault.tells g.V.Vault.faults g.V.Vault.moment g.V.Vault.images_since c.args.self.now.sessions
    (λ told. adds_nothing g.V.Vault.tells g.V.Vault.image g.V.Vault.version g.V.Vault.room g.V.Vault.doubt g.V.Vault.images_now g.V.Vault.moment g.V.Vault.images_since
    g.met.V.Vault.sure_image g.met.V.Vault.either_image g.met.V.Vault.only_now told c.args.self.now.sessions.core c.calls-calls.ensures.told)))

pub returns-clause-step : goal.returns-clause-step
returns-clause-step g c =
    elim c.match-asked.branch [
      | in-Event+in_ok-answer-in-Event w ↦ makes_step_at g.V.Vault.tells g.V.Vault.faults g.V.Vault.moment g.V.Vault.images_since _ _ _ _ _ _ _ _ (sym w.in-Event.is) (sym w.answer-is)
          c.in_ok-make_room.ensures.sessions (ap (λ r. r.sessions) (sym w.self-is) ∙ sym c.keep.ensures.sessions) w.in_ok-answer-in-Event.ensures.step
      | in-Reopen+in_ok-answer-in-Reopen w ↦ makes_step_at g.V.Vault.tells g.V.Vault.faults g.V.Vault.moment g.V.Vault.images_since _ _ _ _ _ _ _ _ (sym w.in-Reopen.is) (sym w.answer-is)
          c.in_ok-make_room.ensures.sessions (ap (λ r. r.sessions) (sym w.self-is) ∙ sym c.keep.ensures.sessions) w.in_ok-answer-in-Reopen.ensures.step
    ]
