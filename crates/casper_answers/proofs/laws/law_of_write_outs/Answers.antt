use Rattle.casper_answers.proofs.WriteOutLaws.{every_no_job, every_vault, every_worn, every_full, every_fault, every_written, every_writable, every_finish, every_settle}
use Rattle.casper_answers.proofs.laws.law_of_write_outs.Goals as goal

pub returns-clause-job : goal.returns-clause-job
returns-clause-job c = every_no_job

pub returns-clause-vault : goal.returns-clause-vault
returns-clause-vault c = every_vault

pub returns-clause-worn : goal.returns-clause-worn
returns-clause-worn c = every_worn

pub returns-clause-full : goal.returns-clause-full
returns-clause-full c = every_full

pub returns-clause-faults : goal.returns-clause-faults
returns-clause-faults c = every_fault

pub returns-clause-written : goal.returns-clause-written
returns-clause-written c = every_written

pub returns-clause-can : goal.returns-clause-can
returns-clause-can c = every_writable

pub returns-clause-finish : goal.returns-clause-finish
returns-clause-finish c = every_finish

pub returns-clause-settle : goal.returns-clause-settle
returns-clause-settle c = every_settle
