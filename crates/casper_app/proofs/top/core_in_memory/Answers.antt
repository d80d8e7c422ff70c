use Rattle.std.proofs.Common.{refl, ◌∙◌}
use Rattle.casper_app.proofs.TakingLemmas.{stands_at_start}
use Rattle.casper_app.proofs.top.core_in_memory.Goals as goal

pub returns-in-Ok-clause-stands : goal.returns-in-Ok-clause-stands
returns-in-Ok-clause-stands c =
    stands_at_start c.args.pages c.args.opening.now.entries c.args.opening.now.cache c.in_ok-vault.vault c.in-Ok.core c.in-Ok.ensures.told
    (c.in-Ok.ensures.size ∙ c.in_ok-vault.ensures.size) c.in_ok-vault.ensures.image c.in_ok-vault.ensures.version (c.in-Ok.ensures.stands refl)
