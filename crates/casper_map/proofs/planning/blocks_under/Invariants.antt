use Rattle.std.proofs.Common.{◌≤◌, vec_len}
use Rattle.casper_map.proofs.ListLemmas.{FoundBlocks}
use Rattle.casper_map.proofs.planning.blocks_under.Given as goal

abbrev pub invariant-loop-page : goal.invariant-loop-page
invariant-loop-page l = record {
  found : FoundBlocks l.pages l.blocks.items l.page-index l.next;
  few : vec_len l.blocks ≤ l.page-index;
}
