use Rattle.std.proofs.Common.{List, sym, ◌∙◌, ap}
use Rattle.casper_disk.specs.Place.{Missing}
use Rattle.casper_disk.specs.Slots.{Stored, slot_place, slot_handed, place_in, handed_in}
use Rattle.casper_disk.proofs.SlotLemmas.{exchanged, exchanged_beside, exchanged_same, look_missing, missing_is_not_out}
use Rattle.casper_disk.proofs.slots.Slots.put.Goals as goal

pub returns-in-Some-clause-stands : goal.returns-in-Some-clause-stands
returns-in-Some-clause-stands c =
    exchanged slot_place Missing c.self.inside.slots.items c.args.name.now c.in-Some.at c.index_mut-slot.result.now c.put.new.self
    c.in-Some.ensures.within c.in-Some.ensures.named c.in-Some.ensures.first c.index_mut-slot.ensures.value (ap (λ (slot : Stored). slot.name) c.put.ensures)
    ∙ ap slot_place c.put.ensures

pub returns-in-Some-clause-others : goal.returns-in-Some-clause-others
returns-in-Some-clause-others c other apart =
    exchanged_beside slot_place Missing c.self.inside.slots.items c.args.name.now other c.in-Some.at c.index_mut-slot.result.now c.put.new.self
    c.in-Some.ensures.within c.in-Some.ensures.named c.index_mut-slot.ensures.value (ap (λ (slot : Stored). slot.name) c.put.ensures) apart
    ∙ ap (λ (slots : List Stored). place_in slots other) c.self.view_is

pub returns-in-Some-clause-handed : goal.returns-in-Some-clause-handed
returns-in-Some-clause-handed c other =
    exchanged_same slot_handed 0 c.self.inside.slots.items other c.in-Some.at c.index_mut-slot.result.now c.put.new.self
    c.in-Some.ensures.within c.index_mut-slot.ensures.value (ap (λ (slot : Stored). slot.name) c.put.ensures) (ap slot_handed c.put.ensures)
    ∙ ap (λ (slots : List Stored). handed_in slots other) c.self.view_is

pub returns-in_default-clause-stands : goal.returns-in_default-clause-stands
returns-in_default-clause-stands c =
    absurd (missing_is_not_out (sym (look_missing slot_place Missing c.self.inside.slots.items c.args.name.now c.in_default.ensures.none)
    ∙ ap (λ (slots : List Stored). place_in slots c.args.name.now) c.self.view_is ∙ c.requires))
