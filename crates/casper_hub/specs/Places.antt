use Rattle.std.specs.Prelude.{Option, option_map}
use Rattle.casper_hub.specs.declared.clients.Fall.{Fall}
use Rattle.casper_hub.specs.declared.clients.Place.{Place}
use Rattle.casper_hub.specs.HubView.{ClientView, FallenView}

-- what contracts see of a fall
abbrev pub shown_fall : Fall → FallenView
shown_fall fall = record { mark = fall.mark; dropped = fall.dropped }

-- what contracts see of a place
abbrev pub shown_place : Option Place → Option ClientView
shown_place place =
    option_map (λ client. record { cap = client.cap; asks = client.asks; kept = client.kept; fallen = option_map shown_fall client.fall }) place
