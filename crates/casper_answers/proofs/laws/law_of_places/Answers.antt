use Rattle.casper_answers.proofs.AftermathLaws.{every_left_is_absent, every_live_stays, every_pending_asks, every_other_asks_none, every_ask_is_left, every_cap_is_most, every_vault_is_left}
use Rattle.casper_answers.proofs.laws.law_of_places.Goals as goal

pub returns-clause-absent : goal.returns-clause-absent
returns-clause-absent c = every_left_is_absent

pub returns-clause-live : goal.returns-clause-live
returns-clause-live c = every_live_stays

pub returns-clause-pending : goal.returns-clause-pending
returns-clause-pending c = every_pending_asks

pub returns-clause-ended : goal.returns-clause-ended
returns-clause-ended c = every_other_asks_none

pub returns-clause-asks : goal.returns-clause-asks
returns-clause-asks c = every_ask_is_left

pub returns-clause-caps : goal.returns-clause-caps
returns-clause-caps c = every_cap_is_most

pub returns-clause-vault : goal.returns-clause-vault
returns-clause-vault c = every_vault_is_left
