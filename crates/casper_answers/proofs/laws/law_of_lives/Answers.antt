use Rattle.casper_answers.proofs.LivesLaws.{every_end_is_so, every_member_stays, every_sealed_stays, every_doubt_stands, every_awaited_is_member, every_gathering_awaits}
use Rattle.casper_answers.proofs.laws.law_of_lives.Goals as goal

pub returns-clause-ends : goal.returns-clause-ends
returns-clause-ends c = every_end_is_so

pub returns-clause-members : goal.returns-clause-members
returns-clause-members c = every_member_stays

pub returns-clause-sealed : goal.returns-clause-sealed
returns-clause-sealed c = every_sealed_stays

pub returns-clause-doubt : goal.returns-clause-doubt
returns-clause-doubt c = every_doubt_stands

pub returns-clause-awaited : goal.returns-clause-awaited
returns-clause-awaited c = every_awaited_is_member

pub returns-clause-gathers : goal.returns-clause-gathers
returns-clause-gathers c = every_gathering_awaits
