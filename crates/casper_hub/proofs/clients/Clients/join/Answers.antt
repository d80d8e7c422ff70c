use Rattle.std.proofs.Common.{List, Some, None, ap, ◌∙◌, slice_set}
use Rattle.casper_words.specs.declared.page.Want.{Want}
use Rattle.casper_hub.proofs.ShownPlaces.{shown_set}
use Rattle.casper_hub.proofs.clients.Clients.join.Goals as goal

pub returns : goal.returns
returns c =
    shown_set c.self.inside.places.items c.args.self.now c.number.result c.args.who (Some (record { cap = c.args.cap; asks = c.none-asks.result; kept = None; fall = None }))
    c.self.view_is c.number.ensures.number ∙
    ap (λ (asks : List Want). slice_set c.args.self.now c.args.who (Some (record { cap = c.args.cap; asks = asks; kept = None; fallen = None }))) c.none-asks.ensures
