use Rattle.std.proofs.Common.{◌<◌, ◌∙◌, ℕ, None, cond, ap, subst}
use Rattle.casper_assoc.proofs.WrittenLists.{within_some, listed_is}
use Rattle.casper_hub.specs.HubView.{frame_in}
use Rattle.casper_hub.proofs.lose.forget_of.Goals as goal

pub forget-requires : goal.forget-requires
forget-requires c page listed =
    subst (λ (n : ℕ). page < n) c.requires
    (within_some c.args.associations.now.labelling.writers page c.args.who ((c.written.ensures.pages.exactly page).0 listed))

pub returns-clause-frames : goal.returns-clause-frames
returns-clause-frames c page =
    c.forget.ensures.frames page
    ∙ ap (λ b. cond b None (frame_in c.args.pages.now page))
    (listed_is c.args.associations.now.labelling.writers c.args.who c.written.result.now page c.written.ensures.pages)
