use Rattle.std.proofs.Common.{◌≡◌, ◌≤◌, ◌++◌, length, drop}
use Rattle.casper_hub.specs.Deciding.{lacking_in}
use Rattle.casper_hub.proofs.acquire.lacking.Given as goal

abbrev pub invariant-loop-want : goal.invariant-loop-want
invariant-loop-want l = record {
  so_far : l.lacking ++ lacking_in l.cache.held (drop l.want-index l.wants) ≡ lacking_in l.cache.held l.wants;
  few : length l.lacking ≤ l.want-index;
}
