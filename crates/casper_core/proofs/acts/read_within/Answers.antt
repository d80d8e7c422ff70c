use Rattle.casper_core.proofs.CallTurns.{leaves_hit}
use Rattle.casper_core.proofs.acts.read_within.Goals as goal

pub returns-then-page-pages-clause-leaves : goal.returns-then-page-pages-clause-leaves
returns-then-page-pages-clause-leaves g c = leaves_hit c.args.who g.V.Vault.tells (g.V.Vault.image c.args.vault.now) c.args.hub.now c.args.cache.now c.requires.sound
