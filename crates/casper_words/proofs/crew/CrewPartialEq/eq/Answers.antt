use Rattle.casper_words.proofs.CrewMembers.{same_by_members}
use Rattle.casper_words.proofs.crew.CrewPartialEq.eq.Goals as goal

pub returns : goal.returns
returns c =
    same_by_members c.self.inside.bits c.other.inside.bits c.args.self.now c.args.other.now c.self.invariant c.other.invariant c.self.view_is
    c.other.view_is
