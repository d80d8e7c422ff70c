use Rattle.std.specs.Prelude.{ℕ}
use Rattle.casper_model.specs.Shared.{Shared}
use Rattle.casper_turns.specs.KeepsClient.{KeepsClient as SharedKeepsClient}
use Rattle.casper_turns.specs.Good.{IsGoodShared}
use Rattle.casper_turns.specs.CommitsNothing.{CommitsNothing as SharedCommitsNothing}
use Rattle.casper_hub.specs.HubView.{HubView}
use Rattle.casper_hub.specs.Shows.{Shows}

-- a hub stands for a good shared part that comes from another one
pub record ComesFrom (between : Shared → Shared → Type 0) (shared : Shared) (after : HubView) : Type 0 where
  pub next : Shared
  pub shows : Shows next after
  pub good : IsGoodShared next
  pub comes : between shared next

-- from each good shared part that a hub stands for there comes one that the hub after it stands for
unfoldable pub GoesOn : (Shared → Shared → Type 0) → HubView → HubView → Type 0
GoesOn between hub after = (shared : Shared) → Shows shared hub → IsGoodShared shared → ComesFrom between shared after

-- what a client may rely on while others act stands
abbrev pub KeepsClient : ℕ → HubView → HubView → Type 0
KeepsClient who hub after = GoesOn (SharedKeepsClient who) hub after

-- nothing is committed, and what is sealed or in doubt stands still
abbrev pub CommitsNothing : HubView → HubView → Type 0
CommitsNothing hub after = GoesOn SharedCommitsNothing hub after
