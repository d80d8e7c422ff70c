use Rattle.std.proofs.Common.{None}
use Rattle.casper_dir.proofs.RightsLemmas.{changed_rights, clients_read, clients-set}
use Rattle.casper_dir.proofs.directory.Directory.release.Goals as goal

pub released-requires : goal.released-requires
released-requires c =
    clients_read c.args.self.now c.self.inside.pages.items c.args.page c.page.inside.0 c.index_mut-holders.result.now
    c.self.view_is c.page.view_is c.requires c.index_mut-holders.ensures.value c.self.invariant

pub invariant_of-self : goal.invariant_of-self
invariant_of-self c = clients-set c.self.inside.pages.items c.page.inside.0 c.released.result c.self.invariant c.released.ensures.clients

pub returns-clause-clients : goal.returns-clause-clients
returns-clause-clients c = invariant_of-self c

pub returns-clause-rights : goal.returns-clause-rights
returns-clause-rights c =
    changed_rights c.args.self.now c.self.inside.pages.items c.args.page c.page.inside.0 c.index_mut-holders.result.now c.released.result c.args.who None
    c.self.view_is c.page.view_is c.requires c.index_mut-holders.ensures.value c.released.ensures.right
