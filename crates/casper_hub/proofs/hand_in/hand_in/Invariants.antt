use Rattle.std.proofs.Common.{◌≡◌, ℕ}
use Rattle.casper_dir.specs.Rights.{right_at}
use Rattle.casper_cache.specs.Holding.{right_of}
use Rattle.casper_hub.specs.Given.{GivesUp, Covers, lowered_right}
use Rattle.casper_hub.proofs.HandedIn.{all_lowered, count_to_write}
use Rattle.casper_hub.proofs.hand_in.hand_in.Given as goal

-- the pages handed in so far are kept for reading, and the others are held as before
abbrev pub invariant-loop-page : goal.invariant-loop-page
invariant-loop-page l = record {
  gives : GivesUp l.who l.initial.pages l.initial.cache.held l.pages l.cache.held;
  all : (page : ℕ) → right_at l.pages.rights l.who page ≡ right_of page l.cache.held;
  covers : Covers l.who l.pages l.cache.held;
  rights : (page : ℕ) → lowered_right (right_at l.pages.rights l.who page) ≡ lowered_right (right_at l.initial.pages.rights l.who page);
  kept : all_lowered l.cache.held ≡ all_lowered l.initial.cache.held;
  rest : l.cache ≡ record (l.initial.cache) { held = l.cache.held };
}

abbrev pub decreases-loop-page : goal.decreases-loop-page
decreases-loop-page l = count_to_write l.cache.held
