use Rattle.std.proofs.Common.{List, slice_index_or, sym, ◌∙◌, ap}
use Rattle.casper_disk.specs.Place.{Missing, is_there}
use Rattle.casper_disk.specs.Slots.{Stored, slot_place, place_in}
use Rattle.casper_disk.proofs.SlotLemmas.{blank, look_found, look_missing, there}
use Rattle.casper_disk.proofs.slots.Slots.has.Goals as goal

pub returns-in-Some : goal.returns-in-Some
returns-in-Some c =
    sym (ap (λ (slots : List Stored). is_there (place_in slots c.args.name.now)) (sym c.self.view_is)
    ∙ ap is_there (look_found slot_place Missing c.self.inside.slots.items c.args.name.now c.in-Some._at c.in-Some.ensures.within c.in-Some.ensures.named c.in-Some.ensures.first)
    ∙ there (slice_index_or c.self.inside.slots.items c.in-Some._at blank).disk)

pub returns-in-None : goal.returns-in-None
returns-in-None c =
    sym (ap (λ (slots : List Stored). is_there (place_in slots c.args.name.now)) (sym c.self.view_is)
    ∙ ap is_there (look_missing slot_place Missing c.self.inside.slots.items c.args.name.now c.in-None.ensures.none))
