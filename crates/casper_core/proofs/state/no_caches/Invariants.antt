use Rattle.std.proofs.Common.{◌≡◌, None, replicate}
use Rattle.casper_core.proofs.state.no_caches.Given as goal

abbrev pub invariant-loop : goal.invariant-loop
invariant-loop l = l.caches.items ≡ replicate l.counter None
