use Rattle.casper_model.proofs.Computed.{topped_up, eviction_by_use, order_of_wants, trail_of_upgrade, failed_load, ask_on_a_page_given_up, trail_of_a_page_kept_for_reading, ask_on_a_page_given_up_before, ask_that_ended, room_for_pending_calls}
use Rattle.casper_model.proofs.rows.rows_of_caches.Goals as goal

pub returns-clause-topped_up : goal.returns-clause-topped_up
returns-clause-topped_up c = topped_up

pub returns-clause-eviction_by_use : goal.returns-clause-eviction_by_use
returns-clause-eviction_by_use c = eviction_by_use

pub returns-clause-order_of_wants : goal.returns-clause-order_of_wants
returns-clause-order_of_wants c = order_of_wants

pub returns-clause-upgrade : goal.returns-clause-upgrade
returns-clause-upgrade c = trail_of_upgrade

pub returns-clause-failed_load : goal.returns-clause-failed_load
returns-clause-failed_load c = failed_load

pub returns-clause-ask_blocks : goal.returns-clause-ask_blocks
returns-clause-ask_blocks c = ask_on_a_page_given_up

pub returns-clause-kept_for_reading : goal.returns-clause-kept_for_reading
returns-clause-kept_for_reading c = trail_of_a_page_kept_for_reading

pub returns-clause-ask_of_before : goal.returns-clause-ask_of_before
returns-clause-ask_of_before c = ask_on_a_page_given_up_before

pub returns-clause-ask_ended : goal.returns-clause-ask_ended
returns-clause-ask_ended c = ask_that_ended

pub returns-clause-pending_room : goal.returns-clause-pending_room
returns-clause-pending_room c = room_for_pending_calls
