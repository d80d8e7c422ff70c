use Rattle.casper_root.specs.Format.{zero_block}
use Rattle.casper_root.proofs.BlockLemmas.{over_whole}
use Rattle.casper_root.proofs.tables.clear.Goals as goal

pub returns : goal.returns
returns c = over_whole zero_block c.args.block.now c.put.new.self c.put.ensures.bytes c.put.ensures.long
