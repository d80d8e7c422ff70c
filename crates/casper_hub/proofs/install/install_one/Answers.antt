use Rattle.std.proofs.Common.{◌≡◌, List, ◌∙◌, sym, ap, is_some, false, Some}
use Rattle.casper_cache.specs.declared.held.Held.{Held}
use Rattle.casper_cache.specs.Holding.{right_of}
use Rattle.casper_hub.specs.HubView.{frame_in}
use Rattle.casper_hub.proofs.Installing.{installed_page}
use Rattle.casper_hub.proofs.install.install_one.Goals as goal

pub returns-in-Ok-clause-ok : goal.returns-in-Ok-clause-ok
returns-in-Ok-clause-ok c =
    let none : is_some (right_of c.args.want.page c.args.cache.now.held) ≡ false = ap is_some (sym c.right.ensures.right) ∙ sym c.is_some.ensures ∙ c.if-is_some.false in
    let framed : frame_in c.args.pages.now c.args.want.page ≡ Some c.in_ok-frame.frame = c.in_ok-frame.ensures in
    c.in-Ok.ensures.ok
    ∙ ap (λ (l : List Held). record (c.args.cache.now) { held = l }) (installed_page c.args.pages.now c.args.cache.now.held c.args.want c.in_ok-frame.frame none framed)
