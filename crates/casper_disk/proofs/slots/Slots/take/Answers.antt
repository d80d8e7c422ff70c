use Rattle.std.proofs.Common.{List, sym, ◌∙◌, ap}
use Rattle.casper_disk.specs.Place.{Missing, is_standing}
use Rattle.casper_disk.specs.Slots.{Stored, slot_place, slot_handed, place_of, place_in, handed_in}
use Rattle.casper_disk.proofs.SlotLemmas.{first_has, exchanged, exchanged_beside, look_missing, taken_stood, taken_none, taken_handed, on_some}
use Rattle.casper_disk.proofs.slots.Slots.take.Goals as goal

pub returns-in-Some-clause-stood : goal.returns-in-Some-clause-stood
returns-in-Some-clause-stood c =
    taken_stood (place_in c.args.self.now c.args.name.now) c.index_mut-slot.result.now.disk c.take.result
    (ap (λ (slots : List Stored). place_in slots c.args.name.now) (sym c.self.view_is)
    ∙ first_has slot_place Missing c.self.inside.slots.items c.args.name.now c.in-Some.at c.index_mut-slot.result.now c.in-Some.ensures.within c.in-Some.ensures.named c.in-Some.ensures.first c.index_mut-slot.ensures.value)
    c.take.ensures.disk

pub returns-in-Some-clause-none : goal.returns-in-Some-clause-none
returns-in-Some-clause-none c =
    taken_none (place_in c.args.self.now c.args.name.now) c.index_mut-slot.result.now.disk c.take.result
    (ap (λ (slots : List Stored). place_in slots c.args.name.now) (sym c.self.view_is)
    ∙ first_has slot_place Missing c.self.inside.slots.items c.args.name.now c.in-Some.at c.index_mut-slot.result.now c.in-Some.ensures.within c.in-Some.ensures.named c.in-Some.ensures.first c.index_mut-slot.ensures.value)
    c.take.ensures.disk

pub returns-in-Some-clause-out : goal.returns-in-Some-clause-out
returns-in-Some-clause-out c =
    on_some c.take.result
    (exchanged slot_place Missing c.self.inside.slots.items c.args.name.now c.in-Some.at c.index_mut-slot.result.now c.take.new.self
    c.in-Some.ensures.within c.in-Some.ensures.named c.in-Some.ensures.first c.index_mut-slot.ensures.value c.take.ensures.name
    ∙ ap place_of c.take.ensures.out)

pub returns-in-Some-clause-others : goal.returns-in-Some-clause-others
returns-in-Some-clause-others c other apart =
    exchanged_beside slot_place Missing c.self.inside.slots.items c.args.name.now other c.in-Some.at c.index_mut-slot.result.now c.take.new.self
    c.in-Some.ensures.within c.in-Some.ensures.named c.index_mut-slot.ensures.value c.take.ensures.name apart
    ∙ ap (λ (slots : List Stored). place_in slots other) c.self.view_is

pub returns-in-Some-clause-handed : goal.returns-in-Some-clause-handed
returns-in-Some-clause-handed c =
    taken_handed _ c.take.new.self.handed c.take.result
    (exchanged slot_handed 0 c.self.inside.slots.items c.args.name.now c.in-Some.at c.index_mut-slot.result.now c.take.new.self
    c.in-Some.ensures.within c.in-Some.ensures.named c.in-Some.ensures.first c.index_mut-slot.ensures.value c.take.ensures.name)
    c.take.ensures.handed

pub returns-in-Some-clause-others_handed : goal.returns-in-Some-clause-others_handed
returns-in-Some-clause-others_handed c other apart =
    exchanged_beside slot_handed 0 c.self.inside.slots.items c.args.name.now other c.in-Some.at c.index_mut-slot.result.now c.take.new.self
    c.in-Some.ensures.within c.in-Some.ensures.named c.index_mut-slot.ensures.value c.take.ensures.name apart
    ∙ ap (λ (slots : List Stored). handed_in slots other) c.self.view_is

pub returns-in-None-clause-none : goal.returns-in-None-clause-none
returns-in-None-clause-none c =
    ap (λ (slots : List Stored). is_standing (place_in slots c.args.name.now)) (sym c.self.view_is)
    ∙ ap is_standing (look_missing slot_place Missing c.self.inside.slots.items c.args.name.now c.in-None.ensures.none)
