use Rattle.casper_laws.proofs.AnswerLaws.{every_grant_gives}
use Rattle.casper_laws.proofs.AnswerLawsKept.{every_kept_over}
use Rattle.casper_laws.proofs.AnswerLawsRuns.{every_answer, every_absent, every_range, every_busy, every_granted_call}
use Rattle.casper_laws.proofs.laws.law_of_answers.Goals as goal

pub returns-clause-event : goal.returns-clause-event
returns-clause-event c = every_answer

pub returns-clause-absent : goal.returns-clause-absent
returns-clause-absent c = every_absent

pub returns-clause-range : goal.returns-clause-range
returns-clause-range c = every_range

pub returns-clause-busy : goal.returns-clause-busy
returns-clause-busy c = every_busy

pub returns-clause-granted : goal.returns-clause-granted
returns-clause-granted c = every_grant_gives

pub returns-clause-calls : goal.returns-clause-calls
returns-clause-calls c = every_granted_call

pub returns-clause-kept : goal.returns-clause-kept
returns-clause-kept c = every_kept_over
