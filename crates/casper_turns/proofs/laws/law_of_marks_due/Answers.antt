use Rattle.casper_turns.proofs.TurnLaws.{turns_record_no_mark, changes_record_no_more, vanish_records_no_more}
use Rattle.casper_turns.proofs.laws.law_of_marks_due.Goals as goal

pub returns-clause-turns : goal.returns-clause-turns
returns-clause-turns c = turns_record_no_mark

pub returns-clause-changes : goal.returns-clause-changes
returns-clause-changes c = changes_record_no_more

pub returns-clause-vanish : goal.returns-clause-vanish
returns-clause-vanish c = vanish_records_no_more
