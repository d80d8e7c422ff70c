use Rattle.std.proofs.Common.{◌≡◌, ap, sym, ◌∙◌}
use Rattle.casper_core.specs.CoreView.{told_by}
use Rattle.casper_core.proofs.LeftLemmas.{adds_nothing}
use Rattle.casper_app.specs.declared.sessions.Sessions.{Sessions}
use Rattle.casper_app.specs.Carrying.{MakesNone}
use Rattle.casper_app.specs.Schedule.{parsed_line}
use Rattle.casper_app.proofs.CarryLemmas.{makes_none}
use Rattle.casper_app.proofs.TakingLemmas.{may_be_asked, input_of_asked, line_skipped, line_unbuilt, line_bad}
use Rattle.casper_app.proofs.SessionLemmas.{askable_by_line}
use Rattle.casper_app.proofs.replay.Replay.take_line.Given as given
use Rattle.casper_app.proofs.replay.Replay.take_line.Goals as goal

-- where nothing happens
none : (g : given.Over) (sessions : Sessions g.row.V.Denot) → sessions.core.told ≡ told_by g.V.Vault.image g.V.Vault.version g.V.Vault.room g.V.Vault.doubt sessions.core.vault
    → MakesNone g.V.Vault.tells g.V.Vault.faults g.V.Vault.moment g.V.Vault.images_since sessions sessions
none g sessions same =
    makes_none g.V.Vault.tells g.V.Vault.faults g.V.Vault.moment g.V.Vault.images_since sessions
    (λ told. adds_nothing g.V.Vault.tells g.V.Vault.image g.V.Vault.version g.V.Vault.room g.V.Vault.doubt g.V.Vault.images_now g.V.Vault.moment g.V.Vault.images_since
    g.met.V.Vault.sure_image g.met.V.Vault.either_image g.met.V.Vault.only_now told sessions.core same)

pub returns-in-Skip-clause-takes : goal.returns-in-Skip-clause-takes
returns-in-Skip-clause-takes g c =
    line_skipped g.V.Vault.tells g.V.Vault.faults g.V.Vault.moment g.V.Vault.images_since c.args.number c.args.room.now.line c.args.self.now (g.K.Sink.taken c.args.sink.now)
    (none g c.args.self.now.sessions c.calls-calls.ensures.told) (ap parsed_line (sym c.bytes.ensures.bytes) ∙ sym c.parse_line.ensures ∙ c.in-Skip.is)

pub returns-in-Unbuilt-clause-takes : goal.returns-in-Unbuilt-clause-takes
returns-in-Unbuilt-clause-takes g c =
    line_unbuilt g.V.Vault.tells g.V.Vault.faults g.V.Vault.moment g.V.Vault.images_since c.args.number c.args.room.now.line c.args.self.now (g.K.Sink.taken c.args.sink.now)
    (none g c.args.self.now.sessions c.calls-calls.ensures.told) (ap parsed_line (sym c.bytes.ensures.bytes) ∙ sym c.parse_line.ensures ∙ c.in-Unbuilt.is)

pub returns-in-Bad-clause-takes : goal.returns-in-Bad-clause-takes
returns-in-Bad-clause-takes g c =
    line_bad g.V.Vault.tells g.V.Vault.faults g.V.Vault.moment g.V.Vault.images_since c.args.number c.args.room.now.line c.args.self.now (g.K.Sink.taken c.args.sink.now)
    (none g c.args.self.now.sessions c.calls-calls.ensures.told) (ap parsed_line (sym c.bytes.ensures.bytes) ∙ sym c.parse_line.ensures ∙ c.in-Bad.is)

pub take_asked-requires-clause-built : goal.take_asked-requires-clause-built
take_asked-requires-clause-built g c = may_be_asked c.in-Asked.asked (askable_by_line c.bytes.result.now c.in-Asked.asked (sym c.parse_line.ensures ∙ c.in-Asked.is))

pub returns-in-Asked-clause-takes : goal.returns-in-Asked-clause-takes
returns-in-Asked-clause-takes g c =
    input_of_asked g.V.Vault.tells g.V.Vault.faults g.V.Vault.moment g.V.Vault.images_since c.args.number c.args.room.now.line c.in-Asked.asked _ _ _ _ c.take_asked.result
    (ap parsed_line (sym c.bytes.ensures.bytes) ∙ sym c.parse_line.ensures ∙ c.in-Asked.is) c.take_asked.ensures.takes
