use Rattle.casper_map.proofs.FreeLemmas.{plans_take_free_frames, named_frames_stay}
use Rattle.casper_map.proofs.laws.frame_laws.Goals as goal

pub returns : goal.returns
returns c = record { taken = plans_take_free_frames; stand = named_frames_stay }
