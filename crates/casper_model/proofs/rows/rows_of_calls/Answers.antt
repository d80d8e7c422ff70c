use Rattle.casper_model.proofs.Computed.{empty, hit_on_ones_own_pending_call, the_last_place_never_written, past_the_end, recall_of_a_writer, full_trail, eviction}
use Rattle.casper_model.proofs.rows.rows_of_calls.Goals as goal

pub returns-clause-empty : goal.returns-clause-empty
returns-clause-empty c = empty

pub returns-clause-own_pending_call : goal.returns-clause-own_pending_call
returns-clause-own_pending_call c = hit_on_ones_own_pending_call

pub returns-clause-last_place : goal.returns-clause-last_place
returns-clause-last_place c = the_last_place_never_written

pub returns-clause-past_the_end : goal.returns-clause-past_the_end
returns-clause-past_the_end c = past_the_end

pub returns-clause-recall : goal.returns-clause-recall
returns-clause-recall c = recall_of_a_writer

pub returns-clause-full_trail : goal.returns-clause-full_trail
returns-clause-full_trail c = full_trail

pub returns-clause-eviction : goal.returns-clause-eviction
returns-clause-eviction c = eviction
