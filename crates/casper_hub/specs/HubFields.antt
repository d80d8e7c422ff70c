use Rattle.std.specs.Prelude.{ℕ, List, Option}
use Rattle.casper_trail.specs.declared.item.Item.{Item}
use Rattle.casper_model.specs.Stabilisation.{Stabilisation}
use Rattle.casper_hub.specs.HubView.{HubView, ClientView, PagesView}

-- what contracts see of a hub of these parts
abbrev pub hub_of : List Item → ℕ → List Stabilisation → List (Option ClientView) → PagesView → HubView
hub_of trail limit stabilisations clients pages =
    record { trail = trail; limit = limit; clients = clients; stabilisations = stabilisations; pages = pages }
