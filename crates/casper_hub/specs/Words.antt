use Rattle.std.specs.Prelude.{◌≡◌, ℕ, ◌<◌, Bool, false, List, ◌++◌, Some, slice_index, length, IfSome, MatchOption}
use Rattle.casper_trail.specs.Value.{value_of}
use Rattle.casper_trail.specs.Calls.{entries_by}
use Rattle.casper_trail.specs.Modified.{is_modified}
use Rattle.casper_trail.specs.Parts.{live_entries, stable_entries}
use Rattle.casper_dir.specs.Rights.{writer_at}
use Rattle.casper_cache.specs.declared.held.Held.{Held}
use Rattle.casper_cache.specs.Holding.{words_of}
use Rattle.casper_cache.specs.Own as cache
use Rattle.casper_hub.specs.HubView.{HubView, PagesView, frame_in, items_seen}

-- a page's words have these values
pub record AreWords (value : ℕ → ℕ → ℕ) (page : ℕ) (words : List ℕ) : Type 0 where
  pub long : length words ≡ 512
  pub each : (word : ℕ) → word < 512 → slice_index words word ≡ value page word

-- nobody holds a page for writing, or the page is not modified
abbrev pub HasNoOpenWriter : (ℕ → Bool) → PagesView → ℕ → Type 0
HasNoOpenWriter modified pages page = (who : ℕ) → writer_at pages.rights page ≡ Some who → modified page ≡ false

-- a page that nobody holds for writing has these values, and so has one that is held for writing and not modified: at the server, or
-- where the server has no frame of it, at the vault
abbrev pub ServerIsRight : (ℕ → Bool) → (ℕ → ℕ → ℕ) → (ℕ → ℕ → ℕ) → PagesView → Type 0
ServerIsRight modified value stored pages =
    (page : ℕ) → HasNoOpenWriter modified pages page →
    MatchOption (frame_in pages page) ((word : ℕ) → word < 512 → value page word ≡ stored page word) (λ words. AreWords value page words)

-- each held page has these values
abbrev pub HeldIsRight : (ℕ → ℕ → ℕ) → List Held → Type 0
HeldIsRight value held = (page : ℕ) → IfSome (words_of page held) (λ words. AreWords value page words)

-- the value of a word over the live entries, over the stable ones, and as a client sees it
abbrev pub live_value : List (List ℕ) → HubView → ℕ → ℕ → ℕ
live_value base hub page word = value_of base (live_entries hub.trail) page word

abbrev pub stored_value : List (List ℕ) → HubView → ℕ → ℕ → ℕ
stored_value base hub page word = value_of base (stable_entries hub.trail) page word

abbrev pub seen_value : List (List ℕ) → HubView → cache.Own → ℕ → ℕ → ℕ
seen_value base hub own page word = value_of base (live_entries (items_seen hub own.client) ++ entries_by own.client own.pending) page word

-- the frames of the server are right over an opening array, whoever holds the pages: the server lacks open writes of a page's writer
-- alone
abbrev pub FramesAreRight : List (List ℕ) → HubView → Type 0
FramesAreRight base hub = ServerIsRight (is_modified hub.trail) (live_value base hub) (stored_value base hub) hub.pages

-- and so are those of a cache
abbrev pub CacheIsRight : List (List ℕ) → HubView → cache.Own → Type 0
CacheIsRight base hub own = HeldIsRight (seen_value base hub own) own.held

-- these are the words of a page at the vault
abbrev pub IsStored : List (List ℕ) → HubView → ℕ → List ℕ → Type 0
IsStored base hub page words = AreWords (stored_value base hub) page words
