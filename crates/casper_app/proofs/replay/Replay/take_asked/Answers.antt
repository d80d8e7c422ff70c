use Rattle.std.proofs.Common.{refl, sym, ◌∙◌, Some}
use Rattle.casper_app.proofs.TakingLemmas.{unwritten, written_whole, written_text, front_of, memory_short, unanswered}
use Rattle.casper_app.proofs.replay.Replay.take_asked.Goals as goal

pub returns-then-not-writes-clause-takes : goal.returns-then-not-writes-clause-takes
returns-then-not-writes-clause-takes g c = record {
  given = Some c.in_ok-answer.answer;
  carries = c.in_ok-answer.ensures.step;
  outlet = c.in_ok-answer.ensures.outlet;
  kept = c.in_ok-answer.ensures.kept;
  writes = (refl, unwritten _ _ _ _ c.in_ok-answer.ensures.outlet (sym c.writes.ensures ∙ c.if-not-writes.true));
}

pub returns-in_err-text-clause-takes : goal.returns-in_err-text-clause-takes
returns-in_err-text-clause-takes g c =
    memory_short g.V.Vault.tells g.V.Vault.faults g.V.Vault.moment g.V.Vault.images_since c.args.asked.now c.in_ok-answer.answer c.args.self.now c.answer.new.self (g.K.Sink.taken c.args.sink.now)
    c.from_residual-in_err-text.result c.from_residual-in_err-text.ensures.1 c.in_ok-answer.ensures.step c.in_ok-answer.ensures.outlet c.in_ok-answer.ensures.kept
    (written_whole _ _ c.in_ok-answer.answer c.in_ok-answer.ensures.outlet (sym c.writes.ensures ∙ c.if-not-writes.false))

pub returns-in-Ok-clause-takes : goal.returns-in-Ok-clause-takes
returns-in-Ok-clause-takes g c = record {
  given = Some c.in_ok-answer.answer;
  carries = c.in_ok-answer.ensures.step;
  outlet = c.in_ok-answer.ensures.outlet;
  kept = c.in_ok-answer.ensures.kept;
  writes = (
    refl,
    written_text _ _ c.in_ok-answer.answer c.in_ok-text.text.now _ _ c.in_ok-answer.ensures.outlet (sym c.writes.ensures ∙ c.if-not-writes.false)
        c.in_ok-text.ensures.text c.in-Ok.ensures.all,
  );
}

pub returns-in-Err-Failed-clause-takes : goal.returns-in-Err-Failed-clause-takes
returns-in-Err-Failed-clause-takes g c = record {
  given = Some c.in_ok-answer.answer;
  carries = c.in_ok-answer.ensures.step;
  outlet = c.in_ok-answer.ensures.outlet;
  kept = c.in_ok-answer.ensures.kept;
  writes = (
    c.in_ok-answer.answer,
    refl,
    written_whole _ _ c.in_ok-answer.answer c.in_ok-answer.ensures.outlet (sym c.writes.ensures ∙ c.if-not-writes.false),
    front_of _ _ c.in_ok-text.text.now _ c.in_ok-text.ensures.text c.in-Err-Failed.ensures.part,
  );
}

pub returns-in_err-answer-clause-takes : goal.returns-in_err-answer-clause-takes
returns-in_err-answer-clause-takes g c =
    unanswered g.V.Vault.tells g.V.Vault.faults g.V.Vault.moment g.V.Vault.images_since c.args.asked.now c.in_err-answer.field-0.0 c.args.self.now c.answer.new.self (g.K.Sink.taken c.args.sink.now)
    c.from_residual.result c.from_residual.ensures.1 c.in_err-answer.ensures.why c.in_err-answer.ensures.none c.in_err-answer.ensures.outlet c.in_err-answer.ensures.same
