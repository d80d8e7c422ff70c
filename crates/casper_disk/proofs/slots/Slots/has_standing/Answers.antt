use Rattle.std.proofs.Common.{List, sym, ◌∙◌, ap}
use Rattle.casper_disk.specs.Place.{Missing, is_standing}
use Rattle.casper_disk.specs.Slots.{Stored, slot_place, place_in}
use Rattle.casper_disk.proofs.SlotLemmas.{first_has, look_missing, stands}
use Rattle.casper_disk.proofs.slots.Slots.has_standing.Goals as goal

pub returns-in-Some : goal.returns-in-Some
returns-in-Some c =
    c.is_standing.ensures ∙ stands c.index-slot.result.now.disk
    ∙ sym (ap (λ (slots : List Stored). is_standing (place_in slots c.args.name.now)) (sym c.self.view_is)
    ∙ ap is_standing (first_has slot_place Missing c.self.inside.slots.items c.args.name.now c.in-Some.at c.index-slot.result.now c.in-Some.ensures.within c.in-Some.ensures.named c.in-Some.ensures.first c.index-slot.ensures))

pub returns-in-None : goal.returns-in-None
returns-in-None c =
    sym (ap (λ (slots : List Stored). is_standing (place_in slots c.args.name.now)) (sym c.self.view_is)
    ∙ ap is_standing (look_missing slot_place Missing c.self.inside.slots.items c.args.name.now c.in-None.ensures.none))
