use Rattle.casper_dir.proofs.RightsLemmas.{granted_rights, clients_read, clients-set}
use Rattle.casper_dir.proofs.directory.Directory.grant.Goals as goal

pub granted-requires-clause-clients : goal.granted-requires-clause-clients
granted-requires-clause-clients c =
    clients_read c.args.self.now c.self.inside.pages.items c.args.page c.page.inside.0 c.index_mut-holders.result.now
    c.self.view_is c.page.view_is c.requires.page c.index_mut-holders.ensures.value c.self.invariant

pub invariant_of-self : goal.invariant_of-self
invariant_of-self c = clients-set c.self.inside.pages.items c.page.inside.0 c.granted.result c.self.invariant c.granted.ensures.clients

pub returns-clause-clients : goal.returns-clause-clients
returns-clause-clients c = invariant_of-self c

pub returns-clause-rights : goal.returns-clause-rights
returns-clause-rights c =
    granted_rights c.args.self.now c.self.inside.pages.items c.args.page c.page.inside.0 c.index_mut-holders.result.now c.granted.result c.args.who c.args.right
    c.self.view_is c.page.view_is c.requires.page c.index_mut-holders.ensures.value c.granted.ensures.right
