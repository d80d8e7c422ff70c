use Rattle.casper_dir.proofs.EqualRights.{writer_holds_to_write, same_rights_are_equal}
use Rattle.casper_dir.proofs.laws.rights_laws.Goals as goal

pub returns-clause-writer : goal.returns-clause-writer
returns-clause-writer c = writer_holds_to_write

pub returns-clause-equal : goal.returns-clause-equal
returns-clause-equal c = same_rights_are_equal
