use Rattle.std.proofs.Common.{◌||◌, ◌+◌, take}
use Rattle.casper_disk.specs.Touched.{touches, touched}
use Rattle.casper_disk.proofs.TearLemmas.{torn_both, torn_same, touched_more}
use Rattle.casper_disk.proofs.tear.tear_written.Goals as goal

pub loop-step-preserved : goal.loop-step-preserved
loop-step-preserved c =
    let steps = c.args.steps.now in
    let one = c.step-item.result in
    let done = touched (take c.loop-step.step-index steps) in
    torn_same (λ at. done at || touches one at) (touched (take (c.loop-step.step-index + 1) steps)) c.args.byte c.args.blocks.now.items c.tear_one.new.blocks.items
    (λ at. touched_more steps c.loop-step.step-index one at c.loop-step-test.true c.step-item.is)
    (torn_both done (touches one) c.args.byte c.args.blocks.now.items c.loop-step.blocks.items c.tear_one.new.blocks.items c.loop-step.invariant c.tear_one.ensures)
