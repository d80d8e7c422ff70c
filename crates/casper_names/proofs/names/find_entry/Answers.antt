use Rattle.casper_names.specs.Table.{is_named}
use Rattle.casper_names.proofs.Naming.{position_below}
use Rattle.casper_names.proofs.names.find_entry.Goals as goal

pub returns-clause-within : goal.returns-clause-within
returns-clause-within c = position_below (is_named c.args.name.now) c.args.entries.now c.position_of.result c.position_of.ensures
