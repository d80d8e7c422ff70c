use Rattle.std.proofs.Common.{List, sym, ◌∙◌, ap}
use Rattle.casper_disk.specs.Slots.{Stored, slot_handed, handed_in}
use Rattle.casper_disk.proofs.SlotLemmas.{first_has, look_missing}
use Rattle.casper_disk.proofs.slots.Slots.handed.Goals as goal

pub returns-in-Some : goal.returns-in-Some
returns-in-Some c =
    c.handed.ensures
    ∙ sym (ap (λ (slots : List Stored). handed_in slots c.args.name.now) (sym c.self.view_is)
    ∙ first_has slot_handed 0 c.self.inside.slots.items c.args.name.now c.in-Some.at c.index-slot.result.now c.in-Some.ensures.within c.in-Some.ensures.named c.in-Some.ensures.first c.index-slot.ensures)

pub returns-in-None : goal.returns-in-None
returns-in-None c =
    sym (ap (λ (slots : List Stored). handed_in slots c.args.name.now) (sym c.self.view_is)
    ∙ look_missing slot_handed 0 c.self.inside.slots.items c.args.name.now c.in-None.ensures.none)
