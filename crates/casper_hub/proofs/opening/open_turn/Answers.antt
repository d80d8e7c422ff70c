use Rattle.std.proofs.Common.{ℕ, sym, ap, subst, ◌∙◌}
use Rattle.casper_gather.specs.UnendedLaws.{stabilisations_of}
use Rattle.casper_hub.specs.HubFields.{hub_of}
use Rattle.casper_hub.specs.HubView.{fallen_in}
use Rattle.casper_hub.specs.Stages.{Opens}
use Rattle.casper_hub.proofs.ForClient.{owning_for, covers_for, cap_for, covers_opened_for, rights_opened_for}
use Rattle.casper_hub.proofs.KeptUp.{may_record_for}
use Rattle.casper_hub.proofs.OpensFor.{opens_turn_for}
use Rattle.casper_hub.proofs.Whole.{whole, owning}
use Rattle.casper_hub.proofs.opening.open_turn.Goals as goal

pub open-requires-clause-own : goal.open-requires-clause-own
open-requires-clause-own c = c.requires.owns.sound

pub open-requires-clause-cap : goal.open-requires-clause-cap
open-requires-clause-cap c =
    cap_for c.args.who (hub_of c.args.trail.now.items c.args.limit (stabilisations_of c.args.unended.now.each) c.args.clients.now c.args.pages.now) c.args.cache.now
    c.requires.client c.requires.sound c.requires.owns c.requires.up

pub open-requires-clause-covers : goal.open-requires-clause-covers
open-requires-clause-covers c =
    covers_for c.args.who (hub_of c.args.trail.now.items c.args.limit (stabilisations_of c.args.unended.now.each) c.args.clients.now c.args.pages.now) c.args.cache.now
    c.requires.client c.requires.sound c.requires.owns c.requires.up

pub open-requires-clause-calls : goal.open-requires-clause-calls
open-requires-clause-calls c =
    may_record_for c.args.who (hub_of c.args.trail.now.items c.args.limit (stabilisations_of c.args.unended.now.each) c.args.clients.now c.args.pages.now) c.args.cache.now
    c.requires.client
    (whole (hub_of c.args.trail.now.items c.args.limit (stabilisations_of c.args.unended.now.each) c.args.clients.now c.args.pages.now) c.requires.sound)
    (owning_for c.args.who (hub_of c.args.trail.now.items c.args.limit (stabilisations_of c.args.unended.now.each) c.args.clients.now c.args.pages.now) c.args.cache.now
    c.requires.client c.requires.sound c.requires.owns c.requires.up)

pub hand_in_to_gathering-requires-clause-covers : goal.hand_in_to_gathering-requires-clause-covers
hand_in_to_gathering-requires-clause-covers c =
    covers_opened_for c.args.who (hub_of c.args.trail.now.items c.args.limit (stabilisations_of c.args.unended.now.each) c.args.clients.now c.args.pages.now) c.args.cache.now
    (hub_of c.open.new.trail.items c.args.limit (stabilisations_of c.args.unended.now.each) c.open.new.clients c.open.new.pages) c.open.new.cache
    c.requires.client c.requires.sound c.requires.owns c.requires.up
    (subst (λ (who : ℕ). Opens who (hub_of c.args.trail.now.items c.args.limit (stabilisations_of c.args.unended.now.each) c.args.clients.now c.args.pages.now) c.args.cache.now
    (hub_of c.open.new.trail.items c.args.limit (stabilisations_of c.args.unended.now.each) c.open.new.clients c.open.new.pages) c.open.new.cache)
    (sym c.requires.client) c.open.ensures.opens)

pub hand_in_to_gathering-requires-clause-all : goal.hand_in_to_gathering-requires-clause-all
hand_in_to_gathering-requires-clause-all c =
    rights_opened_for c.args.who (hub_of c.args.trail.now.items c.args.limit (stabilisations_of c.args.unended.now.each) c.args.clients.now c.args.pages.now) c.args.cache.now
    (hub_of c.open.new.trail.items c.args.limit (stabilisations_of c.args.unended.now.each) c.open.new.clients c.open.new.pages) c.open.new.cache
    c.requires.client c.requires.sound c.requires.owns c.requires.up
    (subst (λ (who : ℕ). Opens who (hub_of c.args.trail.now.items c.args.limit (stabilisations_of c.args.unended.now.each) c.args.clients.now c.args.pages.now) c.args.cache.now
    (hub_of c.open.new.trail.items c.args.limit (stabilisations_of c.args.unended.now.each) c.open.new.clients c.open.new.pages) c.open.new.cache)
    (sym c.requires.client) c.open.ensures.opens)

pub returns-clause-opens : goal.returns-clause-opens
returns-clause-opens c =
    opens_turn_for c.args.who c.args.limit c.open.new.trail.items c.open.new.clients c.open.new.associations c.args.unended.now c.hand_in_to_gathering.new.unended
    c.open.new.pages c.hand_in_to_gathering.new.pages c.open.new.cache c.hand_in_to_gathering.new.cache
    c.open.ensures.associations c.open.ensures.clients c.hand_in_to_gathering.ensures.handed
    (hub_of c.args.trail.now.items c.args.limit (stabilisations_of c.args.unended.now.each) c.args.clients.now c.args.pages.now) c.args.cache.now
    (whole (hub_of c.args.trail.now.items c.args.limit (stabilisations_of c.args.unended.now.each) c.args.clients.now c.args.pages.now) c.requires.sound)
    (owning (hub_of c.args.trail.now.items c.args.limit (stabilisations_of c.args.unended.now.each) c.args.clients.now c.args.pages.now) c.args.cache.now c.requires.sound
    c.requires.owns
    (ap (fallen_in (hub_of c.args.trail.now.items c.args.limit (stabilisations_of c.args.unended.now.each) c.args.clients.now c.args.pages.now)) c.requires.client ∙ c.requires.up))
    c.requires.client
    (subst (λ (who : ℕ). Opens who (hub_of c.args.trail.now.items c.args.limit (stabilisations_of c.args.unended.now.each) c.args.clients.now c.args.pages.now) c.args.cache.now
    (hub_of c.open.new.trail.items c.args.limit (stabilisations_of c.args.unended.now.each) c.open.new.clients c.open.new.pages) c.open.new.cache)
    (sym c.requires.client) c.open.ensures.opens)
