use Rattle.std.proofs.Common.{◌≡◌, ◌∙◌, ap, sym, subst, nat_eq, Some, None, IsSome, refl}
use Rattle.std.specs.Map.{lookup}
use Rattle.std.specs.Option.{option_copied}
use Rattle.casper_cache.specs.Bounded.{Bounded}
use Rattle.casper_cache.specs.Holding.{right_of, word_of, front_of}
use Rattle.casper_cache.specs.Leaves.{shown}
use Rattle.casper_cache.proofs.Entries.{distinct-front_of}
use Rattle.casper_cache.proofs.LeafLemmas.{right_of-at, word_of-at, promoted-absent, shown-promoted}
use Rattle.casper_cache.proofs.held_pages.HeldPages.read_behind.Goals as goal

-- the page is not found
absent : (c : goal.After-from_residual) → lookup (nat_eq c.args.page) c.self.inside.leaves.entries ≡ None
absent c = sym c.get.ensures.value ∙ ap option_copied c.in_err-leaf.was

no_right : (c : goal.After-from_residual) → right_of c.args.page c.args.self.now.held ≡ None
no_right c =
    sym (ap (λ (pages : Bounded). right_of c.args.page pages.held) c.self.view_is) ∙
    right_of-at c.args.page c.self.inside.leaves.entries None (absent c)

-- the page is found
found : (c : goal.After-self-2-1) → lookup (nat_eq c.args.page) c.self.inside.leaves.entries ≡ Some c.in_ok-leaf.leaf.now
found c = sym c.get.ensures.value ∙ ap option_copied c.in_ok-leaf.was

right_there : (c : goal.After-self-2-1) → right_of c.args.page c.args.self.now.held ≡ Some c.in_ok-leaf.leaf.now.right
right_there c =
    sym (ap (λ (pages : Bounded). right_of c.args.page pages.held) c.self.view_is) ∙
    right_of-at c.args.page c.self.inside.leaves.entries (Some c.in_ok-leaf.leaf.now) (found c)

pub invariant_of-self : goal.invariant_of-self
invariant_of-self c =
    let entries = c.self.inside.leaves.entries in
    rw (c.get.follows.holds-at-none, shown-promoted c.args.page entries c.self.invariant) (distinct-front_of c.args.page (shown entries) c.self.invariant)

pub returns-in_err-leaf-clause-exactly : goal.returns-in_err-leaf-clause-exactly
returns-in_err-leaf-clause-exactly c = rw (c.from_residual.ensures, no_right c) (λ is. is, λ is. is)

pub returns-in_err-leaf-clause-miss : goal.returns-in_err-leaf-clause-miss
returns-in_err-leaf-clause-miss c = rw (c.from_residual.ensures, c.get.follows.holds-at-none, promoted-absent c.args.page c.self.inside.leaves.entries (absent c)) c.self.view_is

pub invariant_of-self-2 : goal.invariant_of-self-2
invariant_of-self-2 c =
    let entries = c.self.inside.leaves.entries in
    rw (c.get.follows.holds-at-none, shown-promoted c.args.page entries c.self.invariant) (distinct-front_of c.args.page (shown entries) c.self.invariant)

pub returns-clause-exactly : goal.returns-clause-exactly
returns-clause-exactly c = (λ _. subst IsSome (sym (right_there c)) refl, λ _. refl)

pub returns-clause-value : goal.returns-clause-value
returns-clause-value c =
    c.get-2.ensures.word ∙
    sym (word_of-at c.args.page c.args.word c.self.inside.leaves.entries c.in_ok-leaf.leaf.now (found c)) ∙
    ap (λ (pages : Bounded). word_of c.args.page c.args.word pages.held) c.self.view_is

pub returns-clause-hit : goal.returns-clause-hit
returns-clause-hit c =
    let entries = c.self.inside.leaves.entries in
    rw (c.get.follows.holds-at-none, shown-promoted c.args.page entries c.self.invariant)
    (ap (λ (pages : Bounded). record pages { held = front_of c.args.page pages.held }) c.self.view_is)
