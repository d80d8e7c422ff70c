use Rattle.casper_model.specs.Shared.{Shared}
use Rattle.casper_hub.specs.HubView.{HubView}
use Rattle.casper_hub.specs.Shows.{Shows}
use Rattle.casper_hub.specs.Sound.{IsSound}

-- each hub stands for some shared part of the machine, so what is said of every shared part that it stands for is said of one
abbrev pub EachHubStandsForSome : Type 0
EachHubStandsForSome = (hub : HubView) → IsSound hub → (shared : Shared) × Shows shared hub
