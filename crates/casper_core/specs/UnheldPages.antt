use Rattle.std.specs.Prelude.{◌≡◌, ℕ, ◌<◌, None, MatchOption}
use Rattle.casper_disk.specs.Vault.{page_at}
use Rattle.casper_dir.specs.Rights.{writer_at}
use Rattle.casper_model.specs.State.{State}
use Rattle.casper_hub.specs.HubView.{frame_in, page_count}
use Rattle.casper_hub.specs.Words.{AreWords, live_value}
use Rattle.casper_core.specs.CoreView.{CoreView}

-- a page that nobody holds for writing has the values over the live entries: at the server, or where the server has no frame of it, in
-- the vault
abbrev pub UnheldPagesAreRight : {V : Type 0} → State → CoreView V → Type 0
UnheldPagesAreRight state core =
    (page : ℕ) → page < page_count core.hub → writer_at core.hub.pages.rights page ≡ None →
    MatchOption (frame_in core.hub.pages page) (AreWords (live_value state.base core.hub) page (page_at core.told.image page))
    (λ words. AreWords (live_value state.base core.hub) page words)
