use Rattle.std.proofs.Common.{◌∙◌, ap, sym, Some, None}
use Rattle.std.specs.Option.{option_copied}
use Rattle.casper_cache.specs.Bounded.{Bounded}
use Rattle.casper_cache.specs.Holding.{words_of}
use Rattle.casper_cache.proofs.LeafLemmas.{words_of-at}
use Rattle.casper_cache.proofs.held_pages.HeldPages.frame.Goals as goal

pub returns-in_err-leaf : goal.returns-in_err-leaf
returns-in_err-leaf c =
    ap option_copied c.from_residual.ensures ∙
    sym (words_of-at c.args.page c.self.inside.leaves.entries None (sym c.peek.ensures ∙ ap option_copied c.in_err-leaf.was)) ∙
    ap (λ (pages : Bounded). words_of c.args.page pages.held) c.self.view_is

pub returns : goal.returns
returns c =
    sym (words_of-at c.args.page c.self.inside.leaves.entries (Some c.in_ok-leaf.leaf.now) (sym c.peek.ensures ∙ ap option_copied c.in_ok-leaf.was)) ∙
    ap (λ (pages : Bounded). words_of c.args.page pages.held) c.self.view_is
