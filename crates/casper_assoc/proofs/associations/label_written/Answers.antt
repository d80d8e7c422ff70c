use Rattle.std.proofs.Common.{sym, arith}
use Rattle.casper_assoc.proofs.associations.label_written.Goals as goal

pub wrote-requires : goal.wrote-requires
wrote-requires c =
    let inside = c.requires.within c.call-item.result (c.loop-call.call-index, c.loop-call-test.true, sym c.call-item.is) in
    omega (arith, inside, c.loop-call.invariant.count)
