use Rattle.std.proofs.Common.{◌<◌, ◌^◌, ℕ, List, length, Contains, sym, subst, arith}
use Rattle.casper_words.specs.declared.page.Want.{Want}
use Rattle.casper_trail.specs.declared.item.Item.{Item}
use Rattle.casper_trail.specs.Calls.{entries_by}
use Rattle.casper_trail.specs.Clients.{AreOfClients}
use Rattle.casper_trail.specs.Parts.{as_items}
use Rattle.casper_trail.proofs.CallLists.{clients_of_more, clients_of_calls}
use Rattle.casper_assoc.specs.TrailAssociations.{AreAssociationsOf}
use Rattle.casper_assoc.proofs.TrailCounts.{open_calls_are_entries}
use Rattle.casper_hub.specs.Given.{topped}
use Rattle.casper_hub.proofs.KeptUp.{clients_recorded}
use Rattle.casper_hub.proofs.Recorded.{asks_beside_cap, opens_recorded, own_given, gives_recorded, sound_opened}
use Rattle.casper_hub.specs.HubFields.{hub_of}
use Rattle.casper_hub.proofs.Whole.{within_sound, cap_within, cap_fits, pending_within}
use Rattle.casper_hub.proofs.opening.open.Goals as goal
use Rattle.casper_gather.specs.UnendedLaws.{stabilisations_of}

pub free_room-free-requires : goal.free_room-free-requires
free_room-free-requires c = within_sound (hub_of c.args.trail.now.items c.args.limit (stabilisations_of c.args.unended.now.each) c.args.clients.now c.args.pages.now) c.requires.sound

pub record-requires-clause-limit : goal.record-requires-clause-limit
record-requires-clause-limit c =
    let within = cap_within (hub_of c.args.trail.now.items c.args.limit (stabilisations_of c.args.unended.now.each) c.args.clients.now c.args.pages.now) c.args.who c.requires.covers.client c.requires.sound in
    let pending = pending_within c.args.cache.now c.requires.own in
    let cap = c.requires.cap in
    let limit = c.requires.limit in
    omega (arith, within, pending, cap, limit)

pub record-requires-clause-fits : goal.record-requires-clause-fits
record-requires-clause-fits c =
    let fits = cap_fits (hub_of c.args.trail.now.items c.args.limit (stabilisations_of c.args.unended.now.each) c.args.clients.now c.args.pages.now) c.args.who c.requires.covers.client c.requires.sound in
    let cap = c.requires.cap in
    let free = c.free_room-free.ensures in
    omega (arith, fits, cap, free)

pub meet_all-requires-clause-asked : goal.meet_all-requires-clause-asked
meet_all-requires-clause-asked c other ask inside =
    let most = c.requires.covers.client.1 in
    let long = c.requires.sound.formed.places in
    let within : c.args.who < length c.args.clients.now = omega arith in
    c.requires.sound.formed.asked other ask (subst (λ (asks : List Want). Contains asks ask)
    (asks_beside_cap c.args.clients.now c.record.new.clients c.args.who (topped c.args.cache.now c.free_room-free.result) within c.record.ensures.clients other) inside)

pub returns-clause-opens : goal.returns-clause-opens
returns-clause-opens c =
    let most = c.requires.covers.client.1 in
    let long = c.requires.sound.formed.places in
    let within : c.args.who < length c.args.clients.now = omega arith in
    opens_recorded c.args.who c.args.limit (stabilisations_of c.args.unended.now.each) c.free_room-free.result c.args.trail.now.items c.record.new.trail.items c.args.clients.now c.record.new.clients
    c.args.pages.now c.meet_all.new.pages c.args.cache.now c.record.new.cache c.meet_all.new.cache within c.free_room-free.ensures
    c.record.ensures.trail c.record.ensures.clients c.record.ensures.cache c.meet_all.ensures.rest c.meet_all.ensures.meets

pub returns-clause-own : goal.returns-clause-own
returns-clause-own c =
    sound_opened c.args.who (topped c.args.cache.now c.free_room-free.result) c.args.pages.now c.meet_all.new.pages c.args.cache.now c.meet_all.new.cache c.requires.own
    (gives_recorded c.args.who (topped c.args.cache.now c.free_room-free.result) c.args.pages.now c.meet_all.new.pages c.args.cache.now c.record.new.cache c.meet_all.new.cache.held
    c.record.ensures.cache c.meet_all.ensures.meets.gives)
    (own_given c.args.cache.now c.record.new.cache c.meet_all.new.cache (topped c.args.cache.now c.free_room-free.result) c.record.ensures.cache c.meet_all.ensures.rest)

pub record-requires-clause-within : goal.record-requires-clause-within
record-requires-clause-within c call inside = subst (λ (n : ℕ). call.page < n) (sym c.requires.pages) (c.requires.calls.within call inside)

pub record-requires-clause-count : goal.record-requires-clause-count
record-requires-clause-count c =
    let within = cap_within (hub_of c.args.trail.now.items c.args.limit (stabilisations_of c.args.unended.now.each) c.args.clients.now c.args.pages.now) c.args.who c.requires.covers.client c.requires.sound in
    let pending = pending_within c.args.cache.now c.requires.own in
    let cap = c.requires.cap in
    let fits : c.args.limit < 2 ^ 32 = c.requires.sound.formed.fits in
    let calls = c.requires.kept.calls c.args.who c.requires.covers.client in
    let few = open_calls_are_entries c.args.trail.now.items c.args.who in
    omega (arith, within, pending, cap, fits, calls, few)

pub returns-clause-associations : goal.returns-clause-associations
returns-clause-associations c =
    subst (λ (items : List Item). AreAssociationsOf c.record.new.associations items) (sym c.record.ensures.trail)
    (c.record.ensures.associations c.args.trail.now.items
    (clients_recorded (hub_of c.args.trail.now.items c.args.limit (stabilisations_of c.args.unended.now.each) c.args.clients.now c.args.pages.now) c.requires.sound.stands)
    c.requires.kept c.requires.calls.writers)

pub returns-clause-clients : goal.returns-clause-clients
returns-clause-clients c =
    subst AreOfClients (sym c.record.ensures.trail)
    (clients_of_more c.args.trail.now.items (as_items (entries_by c.args.who c.args.cache.now.pending))
    (clients_recorded (hub_of c.args.trail.now.items c.args.limit (stabilisations_of c.args.unended.now.each) c.args.clients.now c.args.pages.now) c.requires.sound.stands)
    (clients_of_calls c.args.who c.args.cache.now.pending c.requires.covers.client))
