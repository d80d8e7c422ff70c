use Rattle.std.proofs.Common.{◌≡◌, false}
use Rattle.casper_app.specs.Reading.{Stands}
use Rattle.casper_app.proofs.lines.take_lines.Given as goal

abbrev pub invariant-loop-lines : goal.invariant-loop-lines
invariant-loop-lines g l =
    Stands g.V.Vault.tells g.V.Vault.faults g.V.Vault.moment g.V.Vault.images_since l.lines (g.S.Source.left l.fn.source) (g.S.Source.left l.source) (g.K.Sink.taken l.fn.sink) (g.K.Sink.taken l.sink) l.fn.replay l.replay
    × (g.S.Source.faults l.source ≡ g.S.Source.faults l.fn.source)
    × (g.K.Sink.faults l.sink ≡ g.K.Sink.faults l.fn.sink)
    × (g.S.Source.is_broken l.source ≡ false)
    × (g.K.Sink.is_broken l.sink ≡ false)
