use Rattle.std.proofs.Common.{refl, sym, ap, ◌∙◌}
use Rattle.casper_hub.specs.HubFields.{hub_of}
use Rattle.casper_hub.specs.Places.{shown_fall}
use Rattle.casper_hub.specs.HubView.{fallen_in}
use Rattle.casper_hub.proofs.KeptUp.{fell_seen}
use Rattle.casper_hub.proofs.Told.{told_acquire}
use Rattle.casper_hub.proofs.hub.Hub.acquire.Goals as goal
use Rattle.casper_gather.specs.UnendedLaws.{stabilisations_of}
use Rattle.casper_hub.specs.Stages.{gathering_in}
use Rattle.casper_hub.proofs.Bridged.{keeps_for}
use Rattle.casper_hub.proofs.Handing.{gathering_shown, some_shown}
use Rattle.casper_hub.proofs.Whole.{nobody_there}

pub returns-in-Some-clause-turn : goal.returns-in-Some-clause-turn
returns-in-Some-clause-turn c =
    told_acquire c.args.self.now c.args.cache.now (shown_fall c.in-Some.fall)
    (ap (fallen_in c.args.self.now) c.requires.client
    ∙ fell_seen c.args.who c.self.inside.limit (stabilisations_of c.self.inside.unended.each) c.self.inside.trail.items c.self.inside.clients c.self.inside.pages c.args.self.now c.fall.result c.in-Some.fall c.self.view_is c.fall.ensures c.in-Some.is)
    c.tell.new.self c.tell.new.cache c.in-Some.fall.mark c.in-Some.fall.dropped c.in_ok-unrecorded.unrecorded c.in_ok-unrecorded.ensures.turn c.args.wants.now c.args.calls

-- whether the client's association is gathering

pub acquire_gathering-requires-clause-gathers : goal.acquire_gathering-requires-clause-gathers
acquire_gathering-requires-clause-gathers c =
    let kept = (keeps_for c.args.self.now (hub_of c.self.inside.trail.items c.self.inside.limit (stabilisations_of c.self.inside.unended.each) c.self.inside.clients c.self.inside.pages) c.self.inside.unended c.self.inside.associations c.self.view_is c.self.invariant.0 refl c.self.invariant.1.associations) in
    sym (some_shown c.gathering_of.result (gathering_in c.args.self.now c.args.who)
    (c.gathering_of.ensures.gathering kept.0.shared kept.1 ∙ gathering_shown kept.0.shared c.args.self.now c.args.who kept.0.shows))
    ∙ sym c.is_some.ensures ∙ c.if-is_some.true

pub acquire_apart-requires-clause-apart : goal.acquire_apart-requires-clause-apart
acquire_apart-requires-clause-apart c =
    let kept = (keeps_for c.args.self.now (hub_of c.self.inside.trail.items c.self.inside.limit (stabilisations_of c.self.inside.unended.each) c.self.inside.clients c.self.inside.pages) c.self.inside.unended c.self.inside.associations c.self.view_is c.self.invariant.0 refl c.self.invariant.1.associations) in
    nobody_there (gathering_in c.args.self.now c.args.who)
    (sym (some_shown c.gathering_of.result (gathering_in c.args.self.now c.args.who)
    (c.gathering_of.ensures.gathering kept.0.shared kept.1 ∙ gathering_shown kept.0.shared c.args.self.now c.args.who kept.0.shows))
    ∙ sym c.is_some.ensures ∙ c.if-is_some.false)
