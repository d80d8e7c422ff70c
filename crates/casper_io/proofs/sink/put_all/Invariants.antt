use Rattle.std.proofs.Common.{length, ◌-◌, ◌≡◌, ◌≤◌, take, false}
use Rattle.std.specs.Io.KnownBytes.{append_known}
use Rattle.casper_io.proofs.sink.put_all.Given as goal

abbrev pub invariant-loop-done : goal.invariant-loop-done
invariant-loop-done g l =
    (l.done ≤ length l.bytes)
    × (g.K.Sink.taken l.sink ≡ append_known (g.K.Sink.taken l.initial.sink) (take l.done l.bytes))
    × (g.K.Sink.faults l.sink ≡ g.K.Sink.faults l.initial.sink)
    × (g.K.Sink.is_broken l.sink ≡ false)

abbrev pub decreases-loop-done : goal.decreases-loop-done
decreases-loop-done g l = length l.bytes - l.done
