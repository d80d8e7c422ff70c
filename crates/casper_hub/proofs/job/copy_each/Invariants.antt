use Rattle.std.specs.Prelude.{◌≡◌, take, length}
use Rattle.std.specs.Vec.{vec_capacity, vec_len}
use Rattle.casper_hub.specs.Jobs.{AreCopiesOf}
use Rattle.casper_hub.proofs.job.copy_each.Given as goal

-- the pages so far are copied, and there is memory for all
abbrev pub invariant-loop-page : goal.invariant-loop-page
invariant-loop-page l = record {
  copies : AreCopiesOf l.pages (take l.page-index l.each) l.changes.items;
  count : vec_len l.changes ≡ l.page-index;
  room : vec_capacity l.changes ≡ length l.each;
}
