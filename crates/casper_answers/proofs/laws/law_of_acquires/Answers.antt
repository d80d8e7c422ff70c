use Rattle.casper_answers.proofs.AcquireLaws.{every_in_doubt, every_frozen, every_pending, every_trail_full, every_disk, every_granted, every_free, every_grant_free}
use Rattle.casper_answers.proofs.laws.law_of_acquires.Goals as goal

pub returns-clause-doubt : goal.returns-clause-doubt
returns-clause-doubt c = every_in_doubt

pub returns-clause-frozen : goal.returns-clause-frozen
returns-clause-frozen c = every_frozen

pub returns-clause-pending : goal.returns-clause-pending
returns-clause-pending c = every_pending

pub returns-clause-full : goal.returns-clause-full
returns-clause-full c = every_trail_full

pub returns-clause-disk : goal.returns-clause-disk
returns-clause-disk c = every_disk

pub returns-clause-granted : goal.returns-clause-granted
returns-clause-granted c = every_granted

pub returns-clause-free : goal.returns-clause-free
returns-clause-free c = every_free

pub returns-clause-only : goal.returns-clause-only
returns-clause-only c = every_grant_free
