use Rattle.std.proofs.Common.{ℕ, ◌&&◌, not, List, ◌∙◌, ap}
use Rattle.casper_words.specs.Crew.{has_member, crew_of}
use Rattle.casper_words.specs.CrewBits.{members_of_bits}
use Rattle.casper_words.proofs.CrewMembers.{members_minus, IsCrew_members_of, IsCrew_at}
use Rattle.casper_words.proofs.crew.Crew.minus.Goals as goal

pub returns-clause-members : goal.returns-clause-members
returns-clause-members c =
    members_minus c.self.inside.bits c.other.inside.bits c.other.invariant
    ∙ ap (λ (left : List ℕ). crew_of (λ client. has_member client left && not (has_member client (members_of_bits c.other.inside.bits)))) c.self.view_is
    ∙ ap (λ (right : List ℕ). crew_of (λ client. has_member client c.args.self && not (has_member client right))) c.other.view_is

pub returns-clause-crew : goal.returns-clause-crew
returns-clause-crew c = IsCrew_members_of _

pub returns-clause-left : goal.returns-clause-left
returns-clause-left c = IsCrew_at c.self.inside.bits c.args.self c.self.view_is

pub returns-clause-right : goal.returns-clause-right
returns-clause-right c = IsCrew_at c.other.inside.bits c.args.other c.other.view_is
