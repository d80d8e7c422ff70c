use Rattle.casper_words.proofs.CrewMembers.{least_from_place, none_from_first, IsCrew_at}
use Rattle.casper_words.proofs.crew.Crew.least.Goals as goal

pub returns-clause-first : goal.returns-clause-first
returns-clause-first c =
    least_from_place c.self.inside.bits c.args.self c.new.result c.self.invariant c.self.view_is c.new.ensures.exactly c.new.ensures.number

pub returns-clause-empty : goal.returns-clause-empty
returns-clause-empty c = none_from_first c.args.self c.new.result (returns-clause-first c)

pub returns-clause-crew : goal.returns-clause-crew
returns-clause-crew c = IsCrew_at c.self.inside.bits c.args.self c.self.view_is
