use Rattle.std.proofs.Common.{sym, ◌∙◌, ap}
use Rattle.std.proofs.Common.{length}
use Rattle.casper_words.proofs.CrewMembers.{length_members_of, IsCrew_at}
use Rattle.casper_words.proofs.crew.Crew.count.Goals as goal

pub returns-clause-count : goal.returns-clause-count
returns-clause-count c = sym (length_members_of c.self.inside.bits c.self.invariant) ∙ ap length c.self.view_is

pub returns-clause-crew : goal.returns-clause-crew
returns-clause-crew c = IsCrew_at c.self.inside.bits c.args.self.now c.self.view_is
