use Rattle.std.proofs.Common.{ℕ, ◌||◌, ◌==◌, List, ◌∙◌, ap}
use Rattle.casper_words.specs.Crew.{IsClient, has_member, crew_of}
use Rattle.casper_words.proofs.CrewMembers.{members_with, IsCrew_members_of, IsCrew_at}
use Rattle.casper_words.proofs.crew.Crew.with.Goals as goal

pub returns-clause-members : goal.returns-clause-members
returns-clause-members c =
    let number = c.number.result in
    let client : IsClient number = (c.number.ensures.least, c.number.ensures.most) in
    members_with c.self.inside.bits number client
    ∙ ap (λ (members : List ℕ). crew_of (λ client. has_member client members || client == number)) c.self.view_is
    ∙ ap (λ (number : ℕ). crew_of (λ client. has_member client c.args.self || client == number)) c.number.ensures.number

pub returns-clause-crew : goal.returns-clause-crew
returns-clause-crew c = IsCrew_members_of _

pub returns-clause-source : goal.returns-clause-source
returns-clause-source c = IsCrew_at c.self.inside.bits c.args.self c.self.view_is
