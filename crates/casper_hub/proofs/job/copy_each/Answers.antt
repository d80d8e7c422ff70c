use Rattle.std.proofs.Common.{◌+◌, ℕ, sym, ap, ◌∙◌}
use Rattle.casper_hub.proofs.Jobs.{copied_more}
use Rattle.casper_hub.proofs.job.copy_each.Goals as goal

pub copy-requires-clause-page : goal.copy-requires-clause-page
copy-requires-clause-page c = c.requires.within c.page-item.result (c.loop-page.page-index, c.loop-page-test.true, sym c.page-item.is)

pub loop-page-preserved : goal.loop-page-preserved
loop-page-preserved c = record {
  copies = copied_more c.args.pages.now c.args.each.now c.loop-page.page-index c.page-item.result c.in_ok-copy.field-0 c.loop-page.changes.items
      c.push_reserved.new.self.items c.loop-page-test.true c.page-item.is c.in_ok-copy.ensures c.push_reserved.ensures.items c.loop-page.invariant.copies;
  count = c.push_reserved.ensures.len ∙ ap (λ (n : ℕ). n + 1) c.loop-page.invariant.count;
  room = c.push_reserved.ensures.capacity ∙ c.loop-page.invariant.room;
}
