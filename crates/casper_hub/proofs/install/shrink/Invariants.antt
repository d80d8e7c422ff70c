use Rattle.std.proofs.Common.{◌≡◌, ℕ, length, take}
use Rattle.casper_dir.specs.Rights.{right_at}
use Rattle.casper_cache.specs.Holding.{right_of}
use Rattle.casper_hub.specs.Given.{GivesUp, Covers}
use Rattle.casper_hub.proofs.install.shrink.Given as goal

abbrev pub invariant-loop-who : goal.invariant-loop-who
invariant-loop-who l = record {
  gives : GivesUp l.who l.initial.pages l.initial.cache.held l.pages l.cache.held;
  all : (page : ℕ) → right_at l.pages.rights l.who page ≡ right_of page l.cache.held;
  covers : Covers l.who l.pages l.cache.held;
  rest : l.cache ≡ record (l.initial.cache) { held = l.cache.held };
  kept : take l.cache.capacity l.cache.held ≡ take l.initial.cache.capacity l.initial.cache.held;
}

abbrev pub decreases-loop-who : goal.decreases-loop-who
decreases-loop-who l = length l.cache.held
