use Rattle.std.proofs.Common.{◌≡◌, map, take}
use Rattle.casper_stable.proofs.planning.pages_of.Given as goal

abbrev pub invariant-loop-page : goal.invariant-loop-page
invariant-loop-page l = l.pages.items ≡ map (λ change. change.0) (take l.page-index l.changes)
