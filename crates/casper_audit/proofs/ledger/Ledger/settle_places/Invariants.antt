use Rattle.std.proofs.Common.{take}
use Rattle.casper_audit.proofs.SettleLemmas.{SettledUpTo}
use Rattle.casper_audit.proofs.ledger.Ledger.settle_places.Given as goal

abbrev pub invariant-loop-place : goal.invariant-loop-place
invariant-loop-place l = SettledUpTo l.committed (take l.place-index l.places) l.initial.self l.self
