use Rattle.std.proofs.Common.{◌<◌, ◌∙◌, length, length-set, arith}
use Rattle.casper_disk.proofs.VaultLemmas.{changed_page, same_words, held_more}
use Rattle.casper_disk.proofs.mem_vault.hold_all.Goals as goal

pub returns-in_err-hold-clause-same : goal.returns-in_err-hold-clause-same
returns-in_err-hold-clause-same c =
    let item = c.loop-page-item.result in
    let place = changed_page c.args.changes.now c.loop-page.page-index c.page.inside.0 item c.page.view_is c.loop-page-item.is in
    let bound = c.requires c.loop-page.page-index item c.loop-page-test.true in
    let within : c.page.inside.0 < length c.loop-page.frames.items = omega (arith, place, bound, c.loop-page.invariant.count) in
    same_words c.loop-page.frames.items c.page.inside.0 c.index_mut.result.now c.hold.new.place within c.index_mut.ensures.value c.hold.ensures.same
    ∙ c.loop-page.invariant.words

pub loop-page-preserved : goal.loop-page-preserved
loop-page-preserved c =
    let item = c.loop-page-item.result in
    let place = changed_page c.args.changes.now c.loop-page.page-index c.page.inside.0 item c.page.view_is c.loop-page-item.is in
    let bound = c.requires c.loop-page.page-index item c.loop-page-test.true in
    let within : c.page.inside.0 < length c.loop-page.frames.items = omega (arith, place, bound, c.loop-page.invariant.count) in
    record {
      words = same_words c.loop-page.frames.items c.page.inside.0 c.index_mut.result.now c.hold.new.place within c.index_mut.ensures.value c.hold.ensures.same
          ∙ c.loop-page.invariant.words;
      count = length-set c.loop-page.frames.items c.page.inside.0 c.hold.new.place ∙ c.loop-page.invariant.count;
      held = held_more c.loop-page.frames.items c.args.changes.now c.loop-page.page-index c.page.inside.0 item c.hold.new.place
          c.loop-page-test.true c.loop-page-item.is c.page.view_is within c.in_ok-hold.ensures.held c.loop-page.invariant.held;
    }
