use Rattle.std.proofs.Common.{◌≡◌, ◌≤◌, ◌++◌, length, drop}
use Rattle.casper_hub.specs.Deciding.{missing_in}
use Rattle.casper_hub.proofs.decide.missing_of.Given as goal

abbrev pub invariant-loop-want : goal.invariant-loop-want
invariant-loop-want l = record {
  so_far : l.missing ++ missing_in l.pages l.clients l.who (drop l.want-index l.wants) ≡ missing_in l.pages l.clients l.who l.wants;
  few : length l.missing ≤ l.want-index;
}
