use Rattle.std.proofs.Common.{◌<◌, ◌∙◌, length, length-set, arith}
use Rattle.casper_disk.proofs.VaultLemmas.{changed_page, put_more, held_still, filled_more}
use Rattle.casper_disk.proofs.mem_vault.put_all.Goals as goal

pub loop-page-preserved : goal.loop-page-preserved
loop-page-preserved c =
    let item = c.loop-page-item.result in
    let place = changed_page c.args.changes.now c.loop-page.page-index c.page.inside.0 item c.page.view_is c.loop-page-item.is in
    let bound = c.requires.within c.loop-page.page-index item c.loop-page-test.true in
    let within : c.page.inside.0 < length c.loop-page.frames.items = omega (arith, place, bound, c.loop-page.invariant.count) in
    record {
      words = put_more c.loop-page.frames.items _ c.args.changes.now c.loop-page.page-index c.page.inside.0 item c.put.new.place
          c.loop-page-test.true c.loop-page-item.is c.page.view_is c.put.ensures.words c.loop-page.invariant.words;
      count = length-set c.loop-page.frames.items c.page.inside.0 c.put.new.place ∙ c.loop-page.invariant.count;
      held = held_still c.loop-page.frames.items c.args.changes.now (length c.args.changes.now) c.page.inside.0 c.put.new.place within
          c.put.ensures.keeps c.loop-page.invariant.held;
      long = filled_more c.args.changes.now c.loop-page.page-index item c.loop-page-test.true c.loop-page-item.is c.put.ensures.long
          c.loop-page.invariant.long;
    }
