use Rattle.std.proofs.Common.{◌≡◌, refl, arith}
use Rattle.std.specs.Prelude.{None}
use Rattle.casper_words.specs.Crew.{IsClient}
use Rattle.casper_gather.specs.UnendedLaws.{stabilisations_of}
use Rattle.casper_model.specs.Loss.{lose}
use Rattle.casper_hub.specs.HubView.{fallen_in}
use Rattle.casper_hub.specs.Turns.{IsChange}
use Rattle.casper_hub.proofs.KeptUp.{up_seen}
use Rattle.casper_hub.proofs.LostKept.{lost_keeps, lost_commits_nothing}
use Rattle.casper_hub.proofs.LostTurns.{lost_so}
use Rattle.casper_hub.proofs.Relying.{kept_itself, nothing_itself}
use Rattle.casper_hub.proofs.hub.Hub.lose.Goals as goal

pub returns-in-Some-clause-others : goal.returns-in-Some-clause-others
returns-in-Some-clause-others c other = kept_itself other c.args.self.now

pub returns-in-Some-clause-still : goal.returns-in-Some-clause-still
returns-in-Some-clause-still c = nothing_itself c.args.self.now

client : (c : goal.After-lose_now) → IsClient c.args.who
client c = (omega arith, omega arith)

up : (c : goal.After-lose_now) → fallen_in c.args.self.now c.args.who ≡ None
up c =
    up_seen c.args.who c.args.who c.self.inside.limit (stabilisations_of c.self.inside.unended.each) c.self.inside.trail.items c.self.inside.clients c.self.inside.pages
    c.args.self.now c.fall.result c.self.view_is refl c.fall.ensures c.in_default.not-Some

turn : (c : goal.After-lose_now) → IsChange (λ shared. lose shared c.args.who) c.lose_now.result c.args.self.now c.lose_now.new.self
turn c = lost_so c.args.who c.args.self.now c.lose_now.new.self c.lose_now.result (up c) c.lose_now.ensures.turn

pub returns-clause-others : goal.returns-clause-others
returns-clause-others c = lost_keeps c.args.who c.args.self.now c.lose_now.new.self (client c) (turn c).shows

pub returns-clause-still : goal.returns-clause-still
returns-clause-still c = lost_commits_nothing c.args.who c.args.self.now c.lose_now.new.self (client c) (turn c).shows
