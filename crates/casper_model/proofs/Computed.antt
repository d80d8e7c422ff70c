use Rattle.std.specs.Prelude.{refl}
use Rattle.casper_words.specs.Crew.{clients, crew_of}
use Rattle.casper_trail.specs.Association.{association_of}
use Rattle.casper_model.specs.CallRows.{Empty, HitOnOnesOwnPendingCall, TheLastPlaceNeverWritten, PastTheEnd, RecallOfAWriter, FullTrail, Eviction}
use Rattle.casper_model.specs.AssociationRows.{RecallAndMerge, TrailOfRecallAndMerge, WriteRightThatWasNeverUsed, MarkOfWriteRightThatWasNeverUsed, MergeThroughTwoPages, MarkOfMergeThroughTwoPages, ImageOfMergeThroughTwoPages, LinkedRollback, LateHits, DepartedMember, MarkOfDepartedMember, DeclaredLoss}
use Rattle.casper_model.specs.StabilisationRows.{RepeatedStabilisation, TwoMembersStabilise, Gather, FramesTooFewByOne, FramesJustEnough, FramesUsedUp, FaultBeforeTheGate, DoubtSettled, DoubtThatStands, LossWhileSealed, LossWhileSealedUndone, LossWhileGathering, LossInDoubt}
use Rattle.casper_model.specs.CacheRows.{ToppedUp, EvictionByUse, OrderOfWants, TrailOfUpgrade, FailedLoad, TrailOfAPageKeptForReading, AskOnAPageGivenUp, AskOnAPageGivenUpBefore, AskThatEnded, RoomForPendingCalls}
use Rattle.casper_model.specs.FrozenRows.{OutcomeDropped, TurnBeforeTheFinish, AskerThatDeparted, FrozenPages, PagesOfOthersAreNotFrozen, PagesAreCounted, OneWriteOutAtATime, NoWriteOutInDoubt, DoubtBeforeItsFinish, SealedByAnAsker, MemberThatJoinsAgain, NoFurtherVersion, FirstNotedLoss, MarkOfFirstNotedLoss, FallenClientVanishes}
use Rattle.casper_model.specs.LossRows.{RightsOfAFallenClient, AsksOfAFallenClient, OutcomeOfAFallenClient}

-- Each row is computed.

pub empty : Empty
unfolding clients crew_of association_of
empty = (refl, refl, refl)

pub hit_on_ones_own_pending_call : HitOnOnesOwnPendingCall
unfolding clients crew_of association_of
hit_on_ones_own_pending_call = (refl, refl, refl)

pub the_last_place_never_written : TheLastPlaceNeverWritten
unfolding clients crew_of association_of
the_last_place_never_written = (refl, refl, refl)

pub past_the_end : PastTheEnd
unfolding clients crew_of association_of
past_the_end = (refl, refl, refl)

pub recall_of_a_writer : RecallOfAWriter
unfolding clients crew_of association_of
recall_of_a_writer = (refl, refl, refl)

pub full_trail : FullTrail
unfolding clients crew_of association_of
full_trail = (refl, refl, refl)

pub eviction : Eviction
unfolding clients crew_of association_of
eviction = (refl, refl, refl)

pub recall_and_merge : RecallAndMerge
unfolding clients crew_of association_of
recall_and_merge = (refl, refl, refl)

pub trail_of_recall_and_merge : TrailOfRecallAndMerge
unfolding clients crew_of association_of
trail_of_recall_and_merge = refl

pub write_right_that_was_never_used : WriteRightThatWasNeverUsed
unfolding clients crew_of association_of
write_right_that_was_never_used = (refl, refl, refl)

pub mark_of_write_right_that_was_never_used : MarkOfWriteRightThatWasNeverUsed
unfolding clients crew_of association_of
mark_of_write_right_that_was_never_used = refl

pub merge_through_two_pages : MergeThroughTwoPages
unfolding clients crew_of association_of
merge_through_two_pages = (refl, refl, refl)

pub mark_of_merge_through_two_pages : MarkOfMergeThroughTwoPages
unfolding clients crew_of association_of
mark_of_merge_through_two_pages = refl

pub image_of_merge_through_two_pages : ImageOfMergeThroughTwoPages
unfolding clients crew_of association_of
image_of_merge_through_two_pages = (refl, refl, refl)

pub linked_rollback : LinkedRollback
unfolding clients crew_of association_of
linked_rollback = (refl, refl, refl)

pub late_hits : LateHits
unfolding clients crew_of association_of
late_hits = (refl, refl, refl)

pub departed_member : DepartedMember
unfolding clients crew_of association_of
departed_member = (refl, refl, refl)

pub mark_of_departed_member : MarkOfDepartedMember
unfolding clients crew_of association_of
mark_of_departed_member = refl

pub declared_loss : DeclaredLoss
unfolding clients crew_of association_of
declared_loss = (refl, refl, refl)

pub repeated_stabilisation : RepeatedStabilisation
unfolding clients crew_of association_of
repeated_stabilisation = (refl, refl, refl)

pub two_members_stabilise : TwoMembersStabilise
unfolding clients crew_of association_of
two_members_stabilise = (refl, refl, refl)

pub gather : Gather
unfolding clients crew_of association_of
gather = (refl, refl, refl)

pub frames_too_few_by_one : FramesTooFewByOne
unfolding clients crew_of association_of
frames_too_few_by_one = (refl, refl, refl)

pub frames_just_enough : FramesJustEnough
unfolding clients crew_of association_of
frames_just_enough = (refl, refl, refl)

pub frames_used_up : FramesUsedUp
unfolding clients crew_of association_of
frames_used_up = (refl, refl, refl)

pub fault_before_the_gate : FaultBeforeTheGate
unfolding clients crew_of association_of
fault_before_the_gate = (refl, refl, refl)

pub doubt_settled : DoubtSettled
unfolding clients crew_of association_of
doubt_settled = (refl, refl, refl)

pub doubt_that_stands : DoubtThatStands
unfolding clients crew_of association_of
doubt_that_stands = (refl, refl, refl)

pub loss_while_sealed : LossWhileSealed
unfolding clients crew_of association_of
loss_while_sealed = (refl, refl, refl)

pub loss_while_sealed_undone : LossWhileSealedUndone
unfolding clients crew_of association_of
loss_while_sealed_undone = (refl, refl, refl)

pub loss_while_gathering : LossWhileGathering
unfolding clients crew_of association_of
loss_while_gathering = (refl, refl, refl)

pub loss_in_doubt : LossInDoubt
unfolding clients crew_of association_of
loss_in_doubt = (refl, refl, refl)

pub topped_up : ToppedUp
unfolding clients crew_of association_of
topped_up = (refl, refl, refl)

pub eviction_by_use : EvictionByUse
unfolding clients crew_of association_of
eviction_by_use = (refl, refl, refl)

pub order_of_wants : OrderOfWants
unfolding clients crew_of association_of
order_of_wants = (refl, refl, refl)

pub trail_of_upgrade : TrailOfUpgrade
unfolding clients crew_of association_of
trail_of_upgrade = refl

pub failed_load : FailedLoad
unfolding clients crew_of association_of
failed_load = (refl, refl, refl)

pub trail_of_a_page_kept_for_reading : TrailOfAPageKeptForReading
unfolding clients crew_of association_of
trail_of_a_page_kept_for_reading = refl

pub ask_on_a_page_given_up : AskOnAPageGivenUp
unfolding clients crew_of association_of
ask_on_a_page_given_up = (refl, refl, refl)

pub ask_on_a_page_given_up_before : AskOnAPageGivenUpBefore
unfolding clients crew_of association_of
ask_on_a_page_given_up_before = (refl, refl, refl)

pub ask_that_ended : AskThatEnded
unfolding clients crew_of association_of
ask_that_ended = (refl, refl, refl)

pub room_for_pending_calls : RoomForPendingCalls
unfolding clients crew_of association_of
room_for_pending_calls = (refl, refl, refl)

pub outcome_dropped : OutcomeDropped
unfolding clients crew_of association_of
outcome_dropped = (refl, refl, refl)

pub turn_before_the_finish : TurnBeforeTheFinish
unfolding clients crew_of association_of
turn_before_the_finish = (refl, refl, refl)

pub asker_that_departed : AskerThatDeparted
unfolding clients crew_of association_of
asker_that_departed = (refl, refl, refl)

pub frozen_pages : FrozenPages
unfolding clients crew_of association_of
frozen_pages = (refl, refl, refl)

pub pages_of_others_are_not_frozen : PagesOfOthersAreNotFrozen
unfolding clients crew_of association_of
pages_of_others_are_not_frozen = (refl, refl, refl)

pub pages_are_counted : PagesAreCounted
unfolding clients crew_of association_of
pages_are_counted = (refl, refl, refl)

pub one_write_out_at_a_time : OneWriteOutAtATime
unfolding clients crew_of association_of
one_write_out_at_a_time = (refl, refl, refl)

pub no_write_out_in_doubt : NoWriteOutInDoubt
unfolding clients crew_of association_of
no_write_out_in_doubt = (refl, refl, refl)

pub doubt_before_its_finish : DoubtBeforeItsFinish
unfolding clients crew_of association_of
doubt_before_its_finish = (refl, refl, refl)

pub sealed_by_an_asker : SealedByAnAsker
unfolding clients crew_of association_of
sealed_by_an_asker = (refl, refl, refl)

pub member_that_joins_again : MemberThatJoinsAgain
unfolding clients crew_of association_of
member_that_joins_again = (refl, refl, refl)

pub no_further_version : NoFurtherVersion
unfolding clients crew_of association_of
no_further_version = (refl, refl, refl)

pub first_noted_loss : FirstNotedLoss
unfolding clients crew_of association_of
first_noted_loss = (refl, refl, refl)

pub mark_of_first_noted_loss : MarkOfFirstNotedLoss
unfolding clients crew_of association_of
mark_of_first_noted_loss = refl

pub fallen_client_vanishes : FallenClientVanishes
unfolding clients crew_of association_of
fallen_client_vanishes = (refl, refl, refl)

pub rights_of_a_fallen_client : RightsOfAFallenClient
unfolding clients crew_of association_of
rights_of_a_fallen_client = (refl, refl, refl)

pub asks_of_a_fallen_client : AsksOfAFallenClient
unfolding clients crew_of association_of
asks_of_a_fallen_client = (refl, refl, refl)

pub outcome_of_a_fallen_client : OutcomeOfAFallenClient
unfolding clients crew_of association_of
outcome_of_a_fallen_client = (refl, refl, refl)
