use Rattle.std.proofs.Common.{◌≡◌}
use Rattle.casper_cache.specs.Holding.{first_to_write}
use Rattle.casper_cache.specs.Leaves.{shown}
use Rattle.casper_cache.proofs.held_pages.HeldPages.first_to_write.Given as goal

-- the first among those that remain is the first of all
abbrev pub invariant-loop-page : goal.invariant-loop-page
invariant-loop-page l = first_to_write (shown l.rest) ≡ first_to_write l.self.held
