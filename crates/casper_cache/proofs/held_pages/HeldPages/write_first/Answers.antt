use Rattle.std.proofs.Common.{◌≡◌, ◌∙◌, ap, sym, Some, refl, slice_get}
use Rattle.std.specs.Option.{option_map, option_copied_mut}
use Rattle.casper_cache.specs.declared.held.Held.{Held}
use Rattle.casper_cache.specs.Bounded.{Bounded}
use Rattle.casper_cache.specs.Holding.{written}
use Rattle.casper_cache.specs.Leaves.{shown}
use Rattle.casper_cache.proofs.Entries.{distinct-written}
use Rattle.casper_cache.proofs.LeafLemmas.{lookup-first, shown-written_first}
use Rattle.casper_cache.proofs.held_pages.HeldPages.write_first.Goals as goal
use Rattle.casper_cache.proofs.held_pages.HeldPages.write_first.Goals.{in-Some, in_default}

-- the page's entry is the first
first : (c : goal.Joined-peek_mut) → option_map (λ (entry : Held). entry.page) (slice_get (shown c.self.inside.leaves.entries) 0) ≡ Some c.args.page
first c = ap (λ (pages : Bounded). option_map (λ (entry : Held). entry.page) (slice_get pages.held 0)) c.self.view_is ∙ c.requires.first

-- it has the word
now : (c : goal.Joined-peek_mut) → shown c.match-peek_mut.self-inside.leaves.entries ≡ written c.args.page c.args.word c.args.value (shown c.self.inside.leaves.entries)
now c = elim c.match-peek_mut.branch [
  | in-Some w ↦
      rw (w.self-inside-is, w.set.ensures.word)
      (shown-written_first c.args.page c.args.word c.args.value c.self.inside.leaves.entries w.in-Some.leaf.now c.self.invariant (first c)
      (sym c.peek_mut.ensures.value ∙ ap option_copied_mut w.in-Some.is))
  | in_default w ↦
      absurd (lookup-first c.args.page c.self.inside.leaves.entries (first c) (sym c.peek_mut.ensures.value ∙ ap option_copied_mut w.in_default.is))
]

bound : (c : goal.Joined-peek_mut) → c.match-peek_mut.self-inside.leaves.cap ≡ c.self.inside.leaves.cap
bound c = elim c.match-peek_mut.branch [ in-Some w ↦ rw w.self-inside-is refl | in_default w ↦ rw w.self-inside-is refl ]

pub invariant_of-self : goal.invariant_of-self
invariant_of-self c = rw (now c) (distinct-written c.args.page c.args.word c.args.value (shown c.self.inside.leaves.entries) c.self.invariant)

pub returns : goal.returns
returns c = rw (now c, bound c) (ap (λ (pages : Bounded). record pages { held = written c.args.page c.args.word c.args.value pages.held }) c.self.view_is)
