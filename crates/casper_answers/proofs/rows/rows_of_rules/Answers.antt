use Rattle.casper_answers.proofs.RuleRows.{stranger_after_a_finish, rollback_beside_a_gather, serve_in_doubt, loss_noted_then_full, loss_noted_then_worn, frozen_by_the_first_want, frozen_by_ones_own, in_doubt_before_frozen, pending_before_trail_full, trail_full_tells_entries, room_for_one_call, one_page_past_the_end, depart_of_a_fallen_client, worn_before_full, asks_are_the_blocked_wants, map_blocks_of_pages, heap_line_needs_its_room, no_pages_need_no_frame}
use Rattle.casper_answers.proofs.rows.rows_of_rules.Goals as goal

pub returns-clause-stranger_after_a_finish : goal.returns-clause-stranger_after_a_finish
returns-clause-stranger_after_a_finish c = stranger_after_a_finish

pub returns-clause-rollback_beside_a_gather : goal.returns-clause-rollback_beside_a_gather
returns-clause-rollback_beside_a_gather c = rollback_beside_a_gather

pub returns-clause-serve_in_doubt : goal.returns-clause-serve_in_doubt
returns-clause-serve_in_doubt c = serve_in_doubt

pub returns-clause-loss_noted_then_full : goal.returns-clause-loss_noted_then_full
returns-clause-loss_noted_then_full c = loss_noted_then_full

pub returns-clause-loss_noted_then_worn : goal.returns-clause-loss_noted_then_worn
returns-clause-loss_noted_then_worn c = loss_noted_then_worn

pub returns-clause-frozen_by_the_first_want : goal.returns-clause-frozen_by_the_first_want
returns-clause-frozen_by_the_first_want c = frozen_by_the_first_want

pub returns-clause-frozen_by_ones_own : goal.returns-clause-frozen_by_ones_own
returns-clause-frozen_by_ones_own c = frozen_by_ones_own

pub returns-clause-in_doubt_before_frozen : goal.returns-clause-in_doubt_before_frozen
returns-clause-in_doubt_before_frozen c = in_doubt_before_frozen

pub returns-clause-pending_before_trail_full : goal.returns-clause-pending_before_trail_full
returns-clause-pending_before_trail_full c = pending_before_trail_full

pub returns-clause-trail_full_tells_entries : goal.returns-clause-trail_full_tells_entries
returns-clause-trail_full_tells_entries c = trail_full_tells_entries

pub returns-clause-room_for_one_call : goal.returns-clause-room_for_one_call
returns-clause-room_for_one_call c = room_for_one_call

pub returns-clause-one_page_past_the_end : goal.returns-clause-one_page_past_the_end
returns-clause-one_page_past_the_end c = one_page_past_the_end

pub returns-clause-depart_of_a_fallen_client : goal.returns-clause-depart_of_a_fallen_client
returns-clause-depart_of_a_fallen_client c = depart_of_a_fallen_client

pub returns-clause-worn_before_full : goal.returns-clause-worn_before_full
returns-clause-worn_before_full c = worn_before_full

pub returns-clause-asks_are_the_blocked_wants : goal.returns-clause-asks_are_the_blocked_wants
returns-clause-asks_are_the_blocked_wants c = asks_are_the_blocked_wants

pub returns-clause-map_blocks_of_pages : goal.returns-clause-map_blocks_of_pages
returns-clause-map_blocks_of_pages c = map_blocks_of_pages

pub returns-clause-heap_line_room : goal.returns-clause-heap_line_room
returns-clause-heap_line_room c = heap_line_needs_its_room

pub returns-clause-no_pages : goal.returns-clause-no_pages
returns-clause-no_pages c = no_pages_need_no_frame
