use Rattle.std.proofs.Common.{◌<◌, length, arith}
use Rattle.casper_assoc.proofs.WrittenLists.{listed_at}
use Rattle.casper_hub.proofs.pages.forget_each.Goals as goal

pub bounds-frames-page-inside : goal.bounds-frames-page-inside
bounds-frames-page-inside c =
    let within : c.loop-page.page-index < length c.args.pages.now = omega (arith, c.loop-page-test.true) in
    let below : c.page-item.result < length c.args.frames.now =
    c.requires c.page-item.result (listed_at c.args.pages.now c.loop-page.page-index c.page-item.result within c.page-item.is) in
    omega (arith, below, c.page.view_is, c.loop-page.invariant.count)
