use Rattle.casper_bench.proofs.RisingLemmas.{AreRising}
use Rattle.casper_bench.proofs.commits.are_rising.Given as goal

abbrev pub invariant-loop-page : goal.invariant-loop-page
invariant-loop-page l = AreRising l.changes l.pages l.page-index l.least
