use Rattle.std.proofs.Common.{◌∙◌, refl}
use Rattle.casper_disk.proofs.TearLemmas.{torn_by_put}
use Rattle.casper_disk.proofs.tear.tear.Goals as goal

pub returns-clause-bytes : goal.returns-clause-bytes
returns-clause-bytes c = c.put.ensures.bytes ∙ torn_by_put c.args.byte c.args.block.now _ c.put.ensures.long refl
