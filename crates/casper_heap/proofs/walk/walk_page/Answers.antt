use Rattle.std.proofs.Common.{◌≡◌, ◌∙◌, sym}
use Rattle.casper_heap.proofs.Tests.{some_by_test, none_by_test}
use Rattle.casper_heap.proofs.Walking.{walking_next, walking_last, walk_made, walk_blocks, walk_stops, read_made}
use Rattle.casper_heap.proofs.walk.walk_page.Goals as goal

pub loop-block-preserved : goal.loop-block-preserved
loop-block-preserved g c =
    walking_next c.in-Some.block c.push.new.self.items c.end-place.result c.loop-block.invariant
    (some_by_test _ _ _ (sym c.next_block.ensures.block ∙ c.in-Some.is)) c.next_block.ensures.made c.push.ensures.items c.end-place.ensures

pub returns-clause-blocks : goal.returns-clause-blocks
returns-clause-blocks g c =
    walk_blocks c.loop-block.invariant (none_by_test _ _ (sym c.next_block.ensures.block ∙ c.in_default.is)) c.get-first.ensures.words

pub returns-clause-made : goal.returns-clause-made
returns-clause-made g c =
    let so = c.loop-block.invariant in
    let one = c.get-first.ensures in
    walk_made so.end_is (read_made one.word one.right one.words one.made one.left one.step)
    (walking_last so (none_by_test _ _ (sym c.next_block.ensures.block ∙ c.in_default.is)) c.next_block.ensures.made)

pub returns-clause-end : goal.returns-clause-end
returns-clause-end g c =
    walk_stops c.loop-block.invariant (none_by_test _ _ (sym c.next_block.ensures.block ∙ c.in_default.is)) c.get-first.ensures.words
