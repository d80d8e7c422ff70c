use Rattle.std.proofs.Common.{arith}
use Rattle.casper_bench.proofs.RisingLemmas.{all_rise, all_within}
use Rattle.casper_bench.proofs.commits.are_rising.Goals as goal

pub returns-clause-rising : goal.returns-clause-rising
returns-clause-rising c told =
    let ended = c.loop-page-test.false in
    all_rise c.args.changes.now c.args.pages c.loop-page.page-index c.loop-page.least c.loop-page.invariant (omega (arith, ended))

pub returns-clause-within : goal.returns-clause-within
returns-clause-within c told =
    let ended = c.loop-page-test.false in
    all_within c.args.changes.now c.args.pages c.loop-page.page-index c.loop-page.least c.loop-page.invariant (omega (arith, ended))
