use Rattle.std.proofs.Common.{ap}
use Rattle.casper_cache.specs.Bounded.{Bounded}
use Rattle.casper_cache.specs.Holding.{others}
use Rattle.casper_cache.specs.Leaves.{shown}
use Rattle.casper_cache.proofs.Entries.{distinct-others}
use Rattle.casper_cache.proofs.LeafLemmas.{shown-remove}
use Rattle.casper_cache.proofs.held_pages.HeldPages.remove.Goals as goal

pub invariant_of-self : goal.invariant_of-self
invariant_of-self c =
    let entries = c.self.inside.leaves.entries in
    rw (c.pop-removed.ensures.entries, shown-remove c.args.page entries c.self.invariant) (distinct-others c.args.page (shown entries) c.self.invariant)

pub returns : goal.returns
returns c =
    let entries = c.self.inside.leaves.entries in
    rw (c.pop-removed.ensures.entries, shown-remove c.args.page entries c.self.invariant)
    (ap (λ (pages : Bounded). record pages { held = others c.args.page pages.held }) c.self.view_is)
