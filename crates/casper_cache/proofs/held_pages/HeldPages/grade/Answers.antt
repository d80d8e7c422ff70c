use Rattle.std.proofs.Common.{◌≡◌, ◌∙◌, ap, sym, None, refl}
use Rattle.std.specs.Option.{option_copied_mut}
use Rattle.casper_cache.specs.Bounded.{Bounded}
use Rattle.casper_cache.specs.Holding.{graded}
use Rattle.casper_cache.specs.Leaves.{shown}
use Rattle.casper_cache.proofs.Entries.{distinct-graded, graded-absent}
use Rattle.casper_cache.proofs.LeafLemmas.{entry_of-at, shown-graded}
use Rattle.casper_cache.proofs.held_pages.HeldPages.grade.Goals as goal
use Rattle.casper_cache.proofs.held_pages.HeldPages.grade.Goals.{in-Some, in_default}

-- the page has the right, in its place
now : (c : goal.Joined-peek_mut) → shown c.match-peek_mut.self-inside.leaves.entries ≡ graded c.args.right c.args.page (shown c.self.inside.leaves.entries)
now c = elim c.match-peek_mut.branch [
  | in-Some w ↦
      rw w.self-inside-is
      (shown-graded c.args.right c.args.page c.self.inside.leaves.entries w.in-Some.leaf.now c.self.invariant
      (sym c.peek_mut.ensures.value ∙ ap option_copied_mut w.in-Some.is))
  | in_default w ↦
      rw w.self-inside-is
      (sym (graded-absent c.args.right c.args.page (shown c.self.inside.leaves.entries)
      (entry_of-at c.args.page c.self.inside.leaves.entries None (sym c.peek_mut.ensures.value ∙ ap option_copied_mut w.in_default.is))))
]

bound : (c : goal.Joined-peek_mut) → c.match-peek_mut.self-inside.leaves.cap ≡ c.self.inside.leaves.cap
bound c = elim c.match-peek_mut.branch [ in-Some w ↦ rw w.self-inside-is refl | in_default w ↦ rw w.self-inside-is refl ]

pub invariant_of-self : goal.invariant_of-self
invariant_of-self c = rw (now c) (distinct-graded c.args.right c.args.page (shown c.self.inside.leaves.entries) c.self.invariant)

pub returns : goal.returns
returns c = rw (now c, bound c) (ap (λ (pages : Bounded). record pages { held = graded c.args.right c.args.page pages.held }) c.self.view_is)
