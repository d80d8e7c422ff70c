use Rattle.std.proofs.Common.{◌≡◌, ◌≤◌, ◌++◌, length, drop}
use Rattle.casper_hub.specs.Deciding.{blocked_in}
use Rattle.casper_hub.proofs.decide.blocked_of.Given as goal

abbrev pub invariant-loop-want : goal.invariant-loop-want
invariant-loop-want l = record {
  so_far : l.blocked ++ blocked_in l.pages l.clients l.who (drop l.want-index l.missing) ≡ blocked_in l.pages l.clients l.who l.missing;
  few : length l.blocked ≤ l.want-index;
}
