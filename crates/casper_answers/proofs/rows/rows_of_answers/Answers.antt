use Rattle.casper_answers.proofs.Computed.{row_kept, row_sealed, row_noted, row_fallen, row_gather, row_doubt, row_pending}
use Rattle.casper_answers.proofs.rows.rows_of_answers.Goals as goal

pub returns-clause-kept : goal.returns-clause-kept
returns-clause-kept c = row_kept

pub returns-clause-sealed : goal.returns-clause-sealed
returns-clause-sealed c = row_sealed

pub returns-clause-noted : goal.returns-clause-noted
returns-clause-noted c = row_noted

pub returns-clause-fallen : goal.returns-clause-fallen
returns-clause-fallen c = row_fallen

pub returns-clause-gather : goal.returns-clause-gather
returns-clause-gather c = row_gather

pub returns-clause-doubt : goal.returns-clause-doubt
returns-clause-doubt c = row_doubt

pub returns-clause-pending : goal.returns-clause-pending
returns-clause-pending c = row_pending
