use Rattle.std.proofs.Common.{◌≡◌, List, Some, None, ap, sym, subst, ◌∙◌}
use Rattle.casper_words.specs.declared.page.Right.TheVariants.{Read}
use Rattle.casper_dir.specs.declared.holders.Holders.{Holders}
use Rattle.casper_dir.specs.Rights.{right_at}
use Rattle.casper_hub.specs.HubView.{PagesView}
use Rattle.casper_hub.proofs.RightsHeld.{right_of_reader, right_of_nobody}
use Rattle.casper_hub.proofs.pages.Pages.right.Goals as goal

pub returns-then-has : goal.returns-then-has
returns-then-has c =
    subst (λ (rights : List Holders). Some Read ≡ right_at rights c.args.who c.args.page) (ap (λ (pages : PagesView). pages.rights) c.self.view_is)
    (right_of_reader c.self.inside.directory c.args.page c.args.who c.readers.result c.has.ensures.client c.readers.ensures.readers
    (sym c.has.ensures.member ∙ c.if-has.true))

pub returns-else-has : goal.returns-else-has
returns-else-has c =
    subst (λ (rights : List Holders). None ≡ right_at rights c.args.who c.args.page) (ap (λ (pages : PagesView). pages.rights) c.self.view_is)
    (right_of_nobody c.self.inside.directory c.args.page c.args.who c.readers.result c.writer.result c.has.ensures.client c.readers.ensures.readers
    (sym c.has.ensures.member ∙ c.if-has.false) c.writer.ensures.writer (sym c.eq.ensures ∙ c.if-eq.false))
