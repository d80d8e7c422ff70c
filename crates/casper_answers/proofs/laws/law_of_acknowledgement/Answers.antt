use Rattle.casper_answers.proofs.Acknowledgement.{every_kept_commit, every_told_kept, every_told_only, every_told_commit, every_finished_commit, every_settled_commit, every_asker_member, every_asker_stands, every_asker_empty, every_wait_is_own, every_asker_waits_on, every_under_way_waits, every_kept_was_asked, every_asker_told, every_turn_drops, only_turns_drop}
use Rattle.casper_answers.proofs.laws.law_of_acknowledgement.Goals as goal

pub returns-clause-kept : goal.returns-clause-kept
returns-clause-kept c = every_kept_commit

pub returns-clause-told : goal.returns-clause-told
returns-clause-told c = every_told_kept

pub returns-clause-only : goal.returns-clause-only
returns-clause-only c = every_told_only

pub returns-clause-covered : goal.returns-clause-covered
returns-clause-covered c = every_told_commit

pub returns-clause-finish : goal.returns-clause-finish
returns-clause-finish c = every_finished_commit

pub returns-clause-settle : goal.returns-clause-settle
returns-clause-settle c = every_settled_commit

pub returns-clause-member : goal.returns-clause-member
returns-clause-member c = every_asker_member

pub returns-clause-stands : goal.returns-clause-stands
returns-clause-stands c = every_asker_stands

pub returns-clause-nothing : goal.returns-clause-nothing
returns-clause-nothing c = every_asker_empty

pub returns-clause-own : goal.returns-clause-own
returns-clause-own c = every_wait_is_own

pub returns-clause-on : goal.returns-clause-on
returns-clause-on c = every_asker_waits_on

pub returns-clause-way : goal.returns-clause-way
returns-clause-way c = every_under_way_waits

pub returns-clause-asked : goal.returns-clause-asked
returns-clause-asked c = every_kept_was_asked

pub returns-clause-each : goal.returns-clause-each
returns-clause-each c = every_asker_told

pub returns-clause-drops : goal.returns-clause-drops
returns-clause-drops c = every_turn_drops

pub returns-clause-leaves : goal.returns-clause-leaves
returns-clause-leaves c = only_turns_drop
