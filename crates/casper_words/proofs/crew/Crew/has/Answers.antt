use Rattle.std.proofs.Common.{◌∙◌, ap}
use Rattle.casper_words.specs.Crew.{IsClient, has_member}
use Rattle.casper_words.proofs.CrewMembers.{member_from_bit, IsCrew_at}
use Rattle.casper_words.proofs.crew.Crew.has.Goals as goal

pub returns-clause-member : goal.returns-clause-member
returns-clause-member c =
    let number = c.number.result in
    let client : IsClient number = (c.number.ensures.least, c.number.ensures.most) in
    member_from_bit c.self.inside.bits number client
    ∙ ap (λ members. has_member number members) c.self.view_is
    ∙ ap (λ who. has_member who c.args.self.now) c.number.ensures.number

pub returns-clause-crew : goal.returns-clause-crew
returns-clause-crew c = IsCrew_at c.self.inside.bits c.args.self.now c.self.view_is
