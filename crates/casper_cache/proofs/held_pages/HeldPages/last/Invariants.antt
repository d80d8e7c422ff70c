use Rattle.std.proofs.Common.{◌≡◌, map, take, drop, reverse}
use Rattle.casper_cache.specs.declared.held.Held.{Held}
use Rattle.casper_cache.specs.Leaves.{shown}
use Rattle.casper_cache.proofs.held_pages.HeldPages.last.Given as goal

-- the pages so far, from the back, and those that are left
abbrev pub invariant-loop : goal.invariant-loop
invariant-loop l =
    (l.pages ≡ take l.counter (reverse (map (λ (entry : Held). entry.page) l.self.held))) ×
    (reverse (map (λ (entry : Held). entry.page) (shown l.left)) ≡ drop l.counter (reverse (map (λ (entry : Held). entry.page) l.self.held)))
