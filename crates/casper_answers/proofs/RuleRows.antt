use Rattle.std.proofs.Common.{refl}
use Rattle.casper_words.specs.Crew.{clients, crew_of}
use Rattle.casper_trail.specs.Association.{association_of}
use Rattle.casper_answers.specs.RuleRows.{StrangerAfterAFinish, RollbackBesideAGather, ServeInDoubt, LossNotedThenFull, LossNotedThenWorn, FrozenByTheFirstWant, FrozenByOnesOwn, InDoubtBeforeFrozen, PendingBeforeTrailFull, TrailFullTellsEntries, RoomForOneCall, AsksAreTheBlockedWants, OnePagePastTheEnd, DepartOfAFallenClient, WornBeforeFull, MapBlocksOfPages, HeapLineNeedsItsRoom, NoPagesNeedNoFrame}

-- What the runs come to.

pub stranger_after_a_finish : StrangerAfterAFinish
unfolding clients crew_of association_of
stranger_after_a_finish = (refl, refl, refl)

pub rollback_beside_a_gather : RollbackBesideAGather
unfolding clients crew_of association_of
rollback_beside_a_gather = (refl, refl, refl)

pub serve_in_doubt : ServeInDoubt
unfolding clients crew_of association_of
serve_in_doubt = (refl, refl, refl)

pub loss_noted_then_full : LossNotedThenFull
unfolding clients crew_of association_of
loss_noted_then_full = (refl, refl, refl)

pub loss_noted_then_worn : LossNotedThenWorn
unfolding clients crew_of association_of
loss_noted_then_worn = (refl, refl, refl)

pub frozen_by_the_first_want : FrozenByTheFirstWant
unfolding clients crew_of association_of
frozen_by_the_first_want = (refl, refl, refl)

pub frozen_by_ones_own : FrozenByOnesOwn
unfolding clients crew_of association_of
frozen_by_ones_own = (refl, refl, refl)

pub in_doubt_before_frozen : InDoubtBeforeFrozen
unfolding clients crew_of association_of
in_doubt_before_frozen = (refl, refl, refl)

pub pending_before_trail_full : PendingBeforeTrailFull
unfolding clients crew_of association_of
pending_before_trail_full = (refl, refl, refl)

pub trail_full_tells_entries : TrailFullTellsEntries
unfolding clients crew_of association_of
trail_full_tells_entries = (refl, refl, refl)

pub room_for_one_call : RoomForOneCall
unfolding clients crew_of association_of
room_for_one_call = (refl, refl, refl)

pub one_page_past_the_end : OnePagePastTheEnd
unfolding clients crew_of association_of
one_page_past_the_end = (refl, refl, refl)

pub depart_of_a_fallen_client : DepartOfAFallenClient
unfolding clients crew_of association_of
depart_of_a_fallen_client = (refl, refl, refl)

pub worn_before_full : WornBeforeFull
unfolding clients crew_of association_of
worn_before_full = (refl, refl, refl)

pub asks_are_the_blocked_wants : AsksAreTheBlockedWants
unfolding clients crew_of association_of
asks_are_the_blocked_wants = (refl, refl, refl)

pub map_blocks_of_pages : MapBlocksOfPages
unfolding clients crew_of association_of
map_blocks_of_pages = ((refl, refl, refl), (refl, refl, refl))

pub heap_line_needs_its_room : HeapLineNeedsItsRoom
unfolding clients crew_of association_of
heap_line_needs_its_room = ((refl, refl, refl), (refl, refl, refl))

pub no_pages_need_no_frame : NoPagesNeedNoFrame
unfolding clients crew_of association_of
no_pages_need_no_frame = (refl, refl, (refl, refl, refl))
