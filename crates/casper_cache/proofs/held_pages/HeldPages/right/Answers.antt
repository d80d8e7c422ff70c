use Rattle.std.proofs.Common.{◌∙◌, ap, sym, refl, Some, None}
use Rattle.std.specs.Option.{option_copied, option_map}
use Rattle.casper_cache.specs.declared.held.Held.{Held}
use Rattle.casper_cache.specs.Bounded.{Bounded}
use Rattle.casper_cache.specs.Holding.{right_of}
use Rattle.casper_cache.proofs.FirstPage.{entry_of-first}
use Rattle.casper_cache.proofs.LeafLemmas.{right_of-at}
use Rattle.casper_cache.proofs.held_pages.HeldPages.right.Goals as goal

pub returns-in_err-leaf : goal.returns-in_err-leaf
returns-in_err-leaf c =
    c.from_residual.ensures ∙
    sym (right_of-at c.args.page c.self.inside.leaves.entries None (sym c.peek.ensures ∙ ap option_copied c.in_err-leaf.was)) ∙
    ap (λ (pages : Bounded). right_of c.args.page pages.held) c.self.view_is

pub returns : goal.returns
returns c =
    sym (right_of-at c.args.page c.self.inside.leaves.entries (Some c.in_ok-leaf.leaf.now) (sym c.peek.ensures ∙ ap option_copied c.in_ok-leaf.was)) ∙
    ap (λ (pages : Bounded). right_of c.args.page pages.held) c.self.view_is

pub returns-in-Some : goal.returns-in-Some
returns-in-Some c =
    let entry : Held = record { page = c.args.page; right = c.in-Some.leaf.now.right; words = c.in-Some.leaf.now.words } in
    sym (ap (λ o. option_map (λ (e : Held). e.right) o) (entry_of-first c.args.page c.args.self.now.held entry c.in-Some.ensures.first refl))
