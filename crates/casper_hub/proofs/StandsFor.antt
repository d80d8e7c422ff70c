use Rattle.casper_model.specs.Own as machine
use Rattle.casper_model.specs.Shared.{Shared}
use Rattle.casper_turns.specs.Good.{IsGoodShared, IsGoodWith}
use Rattle.casper_hub.specs.GoesOn.{ComesFrom, GoesOn}
use Rattle.casper_hub.specs.HubView.{HubView}
use Rattle.casper_hub.specs.Owned.{IsGoodWithEach}
use Rattle.casper_hub.specs.Shows.{Shows}
use Rattle.casper_hub.specs.Sound.{StandsFor, Stands}

-- The words of which a search does not look into the meaning, opened and closed.

pub stands_for : (hub : HubView) → Stands hub → StandsFor hub
unfolding Stands
stands_for hub stands = stands

pub standing : (hub : HubView) → StandsFor hub → Stands hub
unfolding Stands
standing hub stands = stands

pub goes_from : (between : Shared → Shared → Type 0) (hub after : HubView) → GoesOn between hub after
    → (shared : Shared) → Shows shared hub → IsGoodShared shared → ComesFrom between shared after
unfolding GoesOn
goes_from between hub after goes = goes

pub going : (between : Shared → Shared → Type 0) (hub after : HubView)
    → ((shared : Shared) → Shows shared hub → IsGoodShared shared → ComesFrom between shared after) → GoesOn between hub after
unfolding GoesOn
going between hub after goes = goes

pub good_with : (hub : HubView) (own : machine.Own) → IsGoodWithEach hub own → (shared : Shared) → Shows shared hub → IsGoodShared shared → IsGoodWith shared own
unfolding IsGoodWithEach
good_with hub own good = good

pub good_with_each : (hub : HubView) (own : machine.Own) → ((shared : Shared) → Shows shared hub → IsGoodShared shared → IsGoodWith shared own) → IsGoodWithEach hub own
unfolding IsGoodWithEach
good_with_each hub own good = good
