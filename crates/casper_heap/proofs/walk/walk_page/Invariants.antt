use Rattle.std.proofs.Common.{◌-◌}
use Rattle.casper_heap.proofs.Walking.{Walking}
use Rattle.casper_heap.proofs.walk.walk_page.Given as goal

abbrev pub invariant-loop-block : goal.invariant-loop-block
invariant-loop-block g l =
    Walking g.W.Words.seen g.W.Words.step l.page l.end l.initial.words l.words l.blocks.items l.place

abbrev pub decreases-loop-block : goal.decreases-loop-block
decreases-loop-block g l = l.end - l.place
