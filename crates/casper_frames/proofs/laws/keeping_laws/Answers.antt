use Rattle.casper_frames.proofs.ChangeLaws.{kept_has_its_frame, dropped_is_gone, others_stay, others_are_the_rest}
use Rattle.casper_frames.proofs.laws.keeping_laws.Goals as goal

pub returns : goal.returns
returns c = record { kept = kept_has_its_frame; dropped = dropped_is_gone; stay = others_stay; rest = others_are_the_rest }
