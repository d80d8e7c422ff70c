use Rattle.casper_root.proofs.PartLemmas.{opened_in_turn}
use Rattle.casper_root.proofs.laws.part_laws.Goals as goal

pub returns : goal.returns
returns c = record { in_turn = opened_in_turn }
