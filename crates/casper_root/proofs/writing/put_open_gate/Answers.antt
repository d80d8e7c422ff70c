use Rattle.casper_root.specs.Format.{gate_fields, open_gate_block}
use Rattle.casper_root.proofs.BlockLemmas.{written_on_zeros}
use Rattle.casper_root.proofs.writing.put_open_gate.Goals as goal

pub returns : goal.returns
unfolding open_gate_block
returns c = written_on_zeros _ gate_fields _ _ _ c.gate_rec.ensures c.clear.ensures c.write.ensures.written
