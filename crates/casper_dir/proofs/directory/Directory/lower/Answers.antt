use Rattle.std.proofs.Common.{Some}
use Rattle.casper_words.specs.declared.page.Right.TheVariants.{Read}
use Rattle.casper_dir.proofs.RightsLemmas.{changed_rights, clients-set}
use Rattle.casper_dir.proofs.directory.Directory.lower.Goals as goal

pub invariant_of-self : goal.invariant_of-self
invariant_of-self c = clients-set c.self.inside.pages.items c.page.inside.0 c.lowered.result c.self.invariant c.lowered.ensures.clients

pub returns-clause-clients : goal.returns-clause-clients
returns-clause-clients c = invariant_of-self c

pub returns-clause-rights : goal.returns-clause-rights
returns-clause-rights c =
    changed_rights c.args.self.now c.self.inside.pages.items c.args.page c.page.inside.0 c.index_mut-holders.result.now c.lowered.result c.args.who (Some Read)
    c.self.view_is c.page.view_is c.requires.page c.index_mut-holders.ensures.value c.lowered.ensures.right
