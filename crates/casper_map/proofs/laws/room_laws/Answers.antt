use Rattle.casper_map.proofs.RoomLemmas.{rooms_have_the_free_frames, rooms_have_the_need, rooms_follow_plans}
use Rattle.casper_map.proofs.laws.room_laws.Goals as goal

pub returns : goal.returns
returns c = record { free = rooms_have_the_free_frames; need = rooms_have_the_need; plans = rooms_follow_plans }
