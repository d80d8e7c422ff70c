use Rattle.std.proofs.Common.{◌≡◌, ℕ, List, sym, subst}
use Rattle.std.specs.Prelude.{Option}
use Rattle.casper_model.specs.Shared.{Shared}
use Rattle.casper_turns.specs.KeepsClient.{KeepsClient as SharedKeepsClient}
use Rattle.casper_turns.specs.CommitsNothing.{CommitsNothing as SharedCommitsNothing}
use Rattle.casper_turns.proofs.Compose.{apart_itself, still_itself}
use Rattle.casper_hub.specs.HubView.{HubView}
use Rattle.casper_hub.specs.GoesOn.{KeepsClient, CommitsNothing}
use Rattle.casper_hub.specs.Shows.{Shows}
use Rattle.casper_hub.proofs.Relying.{goes_same}

-- a hub with other frames
abbrev pub with_frames : HubView → List (Option (List ℕ)) → HubView
with_frames hub frames = record hub { pages = record hub.pages { frames = frames } }

-- where nothing changed but frames, a hub stands for what it stood for
pub shows_beside_frames : (shared : Shared) (hub after : HubView) → Shows shared hub → after ≡ with_frames hub after.pages.frames → Shows shared after
shows_beside_frames shared hub after shows same =
    subst (Shows shared) (sym same) (record {
      trail = shows.trail;
      limit = shows.limit;
      pages = shows.pages;
      places = shows.places;
      stabilisations = shows.stabilisations;
      clients = shows.clients;
      rights = shows.rights;
    })

-- so every client may rely on what it knew, and nothing is committed
pub kept_beside_frames : (who : ℕ) (hub after : HubView) → after ≡ with_frames hub after.pages.frames → KeepsClient who hub after
kept_beside_frames who hub after same = goes_same (SharedKeepsClient who) (apart_itself who) hub after (λ shared shows. shows_beside_frames shared hub after shows same)

pub nothing_beside_frames : (hub after : HubView) → after ≡ with_frames hub after.pages.frames → CommitsNothing hub after
nothing_beside_frames hub after same = goes_same SharedCommitsNothing still_itself hub after (λ shared shows. shows_beside_frames shared hub after shows same)
