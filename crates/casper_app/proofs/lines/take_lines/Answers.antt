use Rattle.std.proofs.Common.{◌≡◌, ◌∙◌, Err, ap, arith, refl, inl, inr}
use Rattle.std.specs.Prelude.{IsTrue}
use Rattle.casper_core.specs.CoreView.{CoreView, told_by}
use Rattle.casper_core.specs.Leaving.{Adds, IsLeftBefore}
use Rattle.casper_core.proofs.LeftLemmas.{adds_nothing}
use Rattle.casper_app.specs.Reading.{IsReading}
use Rattle.casper_app.proofs.ReadingLemmas.{stands_first, stands_more, reading_failed, reading_failed_last, reading_refused, is_line, err_is}
use Rattle.casper_app.proofs.lines.take_lines.Given as given
use Rattle.casper_app.proofs.lines.take_lines.Goals as goal

-- where nothing was read
nothing : (g : given.Over) (core : CoreView g.row.V.Denot) → core.told ≡ told_by g.V.Vault.image g.V.Vault.version g.V.Vault.room g.V.Vault.doubt core.vault → IsTrue g.V.Vault.tells
    → Adds g.V.Vault.moment g.V.Vault.images_since core.vault core.vault (IsLeftBefore core)
nothing g core same told =
    adds_nothing g.V.Vault.tells g.V.Vault.image g.V.Vault.version g.V.Vault.room g.V.Vault.doubt g.V.Vault.images_now g.V.Vault.moment g.V.Vault.images_since
    g.met.V.Vault.sure_image g.met.V.Vault.either_image g.met.V.Vault.only_now told core same

pub loop-lines-init : goal.loop-lines-init
loop-lines-init g c = (stands_first g.V.Vault.tells g.V.Vault.faults g.V.Vault.moment g.V.Vault.images_since _ _ c.args.replay.now (nothing g c.args.replay.now.sessions.core c.calls-calls.ensures.told) c.requires.calls, refl, refl, c.requires.source, c.requires.sink)

pub returns-in_err-read_line-clause-reading : goal.returns-in_err-read_line-clause-reading
returns-in_err-read_line-clause-reading g c =
    err_is c.from_residual.result c.in_err-read_line.field-0.0
    (IsReading g.V.Vault.tells g.V.Vault.faults g.V.Vault.moment g.V.Vault.images_since (g.S.Source.left c.args.source.now) (g.S.Source.left c.read_line.new.source) (g.K.Sink.taken c.args.sink.now) (g.K.Sink.taken c.loop-lines.sink) c.args.replay.now c.loop-lines.replay)
    c.from_residual.ensures.1
    (reading_failed c.loop-lines.invariant.0 c.in_err-read_line.field-0.0 (omega (arith, c.loop-lines-test.true)) c.in_err-read_line.ensures.next)

pub returns-in_err-take_line-clause-reading : goal.returns-in_err-take_line-clause-reading
returns-in_err-take_line-clause-reading g c =
    err_is c.from_residual-in_err-take_line.result c.in_err-take_line.field-0.0
    (IsReading g.V.Vault.tells g.V.Vault.faults g.V.Vault.moment g.V.Vault.images_since (g.S.Source.left c.args.source.now) (g.S.Source.left c.read_line.new.source) (g.K.Sink.taken c.args.sink.now) (g.K.Sink.taken c.take_line.new.sink) c.args.replay.now c.take_line.new.self)
    c.from_residual-in_err-take_line.ensures.1
    (reading_refused g.met.V.Vault.earlier_counts _ _ c.take_line.new.self c.read_line.new.line c.loop-lines.invariant.0 (is_line _ _ c.in_ok-read_line.field-0 c.if-not-branch.false c.in_ok-read_line.ensures.next) c.in_err-take_line.field-0.0 c.loop-lines-test.true
    c.in_err-take_line.ensures.takes (λ disk. c.in_err-take_line.ensures.disk (ap Err disk)))

pub loop-lines-preserved : goal.loop-lines-preserved
loop-lines-preserved g c = (
  stands_more g.met.V.Vault.earlier_counts _ _ c.take_line.new.self c.read_line.new.line c.loop-lines.invariant.0 (is_line _ _ c.in_ok-read_line.field-0 c.if-not-branch.false c.in_ok-read_line.ensures.next)
      c.in_ok-take_line.ensures.takes,
  (elim c.in_ok-read_line.ensures.source_stands [ inl failed ↦ (let none = failed in cc) | inr same ↦ same ]) ∙ c.loop-lines.invariant.1,
  (elim c.in_ok-take_line.ensures.sink_stands [ inl failed ↦ (let none = failed in cc) | inr same ↦ same ]) ∙ c.loop-lines.invariant.2,
  elim c.in_ok-read_line.ensures.source_whole [ inl failed ↦ (let none = failed in cc) | inr whole ↦ whole ],
  elim c.in_ok-take_line.ensures.sink_whole [ inl failed ↦ (let none = failed in cc) | inr whole ↦ whole ],
)

pub returns-in_err-read_line-2-clause-reading : goal.returns-in_err-read_line-2-clause-reading
returns-in_err-read_line-2-clause-reading g c =
    err_is c.from_residual-in_err-read_line-2.result c.in_err-read_line-2.field-0.0
    (IsReading g.V.Vault.tells g.V.Vault.faults g.V.Vault.moment g.V.Vault.images_since (g.S.Source.left c.args.source.now) (g.S.Source.left c.read_line-2.new.source) (g.K.Sink.taken c.args.sink.now) (g.K.Sink.taken c.loop-lines.sink) c.args.replay.now c.loop-lines.replay)
    c.from_residual-in_err-read_line-2.ensures.1
    (reading_failed_last c.loop-lines.invariant.0 c.in_err-read_line-2.field-0.0 (omega (arith, c.loop-lines-test.false, c.loop-lines.auto.lines-end)) c.in_err-read_line-2.ensures.next)

pub take_line-requires-clause-limit : goal.take_line-requires-clause-limit
take_line-requires-clause-limit g c = omega (arith, c.loop-lines.invariant.0.carries.entries, c.requires.limit)
