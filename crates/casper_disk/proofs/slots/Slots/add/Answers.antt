use Rattle.std.proofs.Common.{◌∷◌, ◌++◌, [], ℕ, List, None, ◌∙◌, ap, refl}
use Rattle.casper_disk.specs.Place.{Missing}
use Rattle.casper_disk.specs.Slots.{Stored, slot_place, slot_handed, place_in, handed_in}
use Rattle.casper_disk.proofs.SlotLemmas.{look_added, look_beside}
use Rattle.casper_disk.proofs.slots.Slots.add.Goals as goal

abbrev new : List ℕ → Stored
new name = record { name = name; disk = None; handed = 0 }

pub returns-clause-out : goal.returns-clause-out
returns-clause-out c =
    ap (λ (slots : List Stored). place_in slots c.args.name.now) (c.in_ok-push.ensures.items ∙ ap (λ (slot : Stored). c.self.inside.slots.items ++ slot ∷ []) c.in_ok-slot.ensures)
    ∙ look_added slot_place Missing c.self.inside.slots.items c.args.name.now (new c.args.name.now)
    (ap (λ (slots : List Stored). place_in slots c.args.name.now) c.self.view_is ∙ c.requires) refl

pub returns-clause-others : goal.returns-clause-others
returns-clause-others c other apart =
    ap (λ (slots : List Stored). place_in slots other) (c.in_ok-push.ensures.items ∙ ap (λ (slot : Stored). c.self.inside.slots.items ++ slot ∷ []) c.in_ok-slot.ensures)
    ∙ look_beside slot_place Missing c.self.inside.slots.items c.args.name.now other (new c.args.name.now) apart refl
    ∙ ap (λ (slots : List Stored). place_in slots other) c.self.view_is

pub returns-clause-handed : goal.returns-clause-handed
returns-clause-handed c =
    ap (λ (slots : List Stored). handed_in slots c.args.name.now) (c.in_ok-push.ensures.items ∙ ap (λ (slot : Stored). c.self.inside.slots.items ++ slot ∷ []) c.in_ok-slot.ensures)
    ∙ look_added slot_handed 0 c.self.inside.slots.items c.args.name.now (new c.args.name.now)
    (ap (λ (slots : List Stored). place_in slots c.args.name.now) c.self.view_is ∙ c.requires) refl

pub returns-clause-others_handed : goal.returns-clause-others_handed
returns-clause-others_handed c other apart =
    ap (λ (slots : List Stored). handed_in slots other) (c.in_ok-push.ensures.items ∙ ap (λ (slot : Stored). c.self.inside.slots.items ++ slot ∷ []) c.in_ok-slot.ensures)
    ∙ look_beside slot_handed 0 c.self.inside.slots.items c.args.name.now other (new c.args.name.now) apart refl
    ∙ ap (λ (slots : List Stored). handed_in slots other) c.self.view_is
