use Rattle.casper_words.proofs.CrewMembers.{members_of_zero, IsCrew_members_of}
use Rattle.casper_words.proofs.crew.Crew.none.Goals as goal

pub returns-clause-empty : goal.returns-clause-empty
returns-clause-empty c = members_of_zero

pub returns-clause-crew : goal.returns-clause-crew
returns-clause-crew c = IsCrew_members_of 0
