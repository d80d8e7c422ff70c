use Rattle.std.proofs.Common.{◌≡◌, drop}
use Rattle.casper_words.specs.Crew.{IsCrew}
use Rattle.casper_hub.specs.Deciding.{blockers_in, stands_in_the_way}
use Rattle.casper_hub.proofs.Deciding.{with_rest}
use Rattle.casper_hub.proofs.decide.blockers_of.Given as goal

abbrev pub invariant-loop-want : goal.invariant-loop-want
invariant-loop-want l = record {
  so_far : with_rest (stands_in_the_way l.pages l.clients l.who) l.blockers (drop l.want-index l.missing) ≡ blockers_in l.pages l.clients l.who l.missing;
  crew : IsCrew l.blockers;
}
