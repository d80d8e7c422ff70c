use Rattle.std.proofs.Common.{◌≡◌, ◌∙◌, ap, sym, nat_eq, None, IsSome, refl, subst}
use Rattle.std.specs.Map.{lookup}
use Rattle.std.specs.Option.{option_copied_mut}
use Rattle.casper_cache.specs.Bounded.{Bounded}
use Rattle.casper_cache.specs.Holding.{written, right_of}
use Rattle.casper_cache.specs.Leaves.{shown}
use Rattle.casper_cache.proofs.Entries.{distinct-written}
use Rattle.casper_cache.proofs.LeafLemmas.{right_of-at, shown-written}
use Rattle.casper_cache.proofs.held_pages.HeldPages.write_behind.Goals as goal
use Rattle.casper_cache.proofs.held_pages.HeldPages.write_behind.Goals.{in-Some, in_default}

-- the page is not held: it is
missing : (c : goal.Joined-get_mut) → lookup (nat_eq c.args.page) c.self.inside.leaves.entries ≡ None → ⊥
missing c none =
    let right = sym (ap (λ (pages : Bounded). right_of c.args.page pages.held) c.self.view_is) ∙ right_of-at c.args.page c.self.inside.leaves.entries None none in
    let is = subst IsSome right c.requires.held in cc

-- the page is in front with the word
now : (c : goal.Joined-get_mut) → shown c.match-get_mut.self-inside.leaves.entries ≡ written c.args.page c.args.word c.args.value (shown c.self.inside.leaves.entries)
now c = elim c.match-get_mut.branch [
  | in-Some w ↦
      rw (w.self-inside-is, w.set.ensures.word)
      (shown-written c.args.page c.args.word c.args.value c.self.inside.leaves.entries w.in-Some.leaf.now c.self.invariant
      (sym c.get_mut.ensures.value ∙ ap option_copied_mut w.in-Some.is))
  | in_default w ↦ absurd (missing c (sym c.get_mut.ensures.value ∙ ap option_copied_mut w.in_default.is))
]

bound : (c : goal.Joined-get_mut) → c.match-get_mut.self-inside.leaves.cap ≡ c.self.inside.leaves.cap
bound c = elim c.match-get_mut.branch [ in-Some w ↦ rw w.self-inside-is refl | in_default w ↦ rw w.self-inside-is refl ]

pub invariant_of-self : goal.invariant_of-self
invariant_of-self c = rw (now c) (distinct-written c.args.page c.args.word c.args.value (shown c.self.inside.leaves.entries) c.self.invariant)

pub returns : goal.returns
returns c = rw (now c, bound c) (ap (λ (pages : Bounded). record pages { held = written c.args.page c.args.word c.args.value pages.held }) c.self.view_is)
