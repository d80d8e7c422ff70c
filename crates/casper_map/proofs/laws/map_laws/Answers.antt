use Rattle.casper_map.proofs.ByteLemmas.{blocks_keep_their_numbers}
use Rattle.casper_map.proofs.StandLemmas.{arrays_stand}
use Rattle.casper_map.proofs.laws.map_laws.Goals as goal

pub returns : goal.returns
returns c = record { numbers = blocks_keep_their_numbers; stand = arrays_stand }
