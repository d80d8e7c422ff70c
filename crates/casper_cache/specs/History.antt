use Rattle.std.specs.Prelude.{◌≡◌, ℕ, Bool, false, ◌==◌, if◌then◌else◌, List, [], ◌∷◌, slice_set, IfSome}
use Rattle.std.specs.List.{list_any}
use Rattle.casper_words.specs.declared.call.Call.{Call}
use Rattle.casper_cache.specs.declared.held.Held.{Held}
use Rattle.casper_cache.specs.Holding.{words_of, others, front_of, lowered, raised}
use Rattle.casper_cache.specs.Own.{Own, after_read, after_write}

-- one thing that happens to a cache
pub data Step : Type 0 where
  installed : Held → Step
  read_hit : Call → Step
  write_hit : Call → Step
  fronted : ℕ → Step
  given_up : ℕ → Bool → Step
  raised_up : ℕ → Step
  allowed : ℕ → Step
  pending_cleared : Step
  cleared : Step

-- the cache after it
abbrev pub after : Step → Own → Own
after (installed entry) own = record own { held = entry ∷ others entry.page own.held }
after (read_hit call) own = after_read own call
after (write_hit call) own = after_write own call
after (fronted page) own = record own { held = front_of page own.held }
after (given_up page keep) own = record own { held = (if keep then lowered page own.held else others page own.held) }
after (raised_up page) own = record own { held = raised page own.held }
after (allowed cap) own = record own { cap = cap }
after pending_cleared own = record own { pending = [] }
after cleared own = record own { held = []; pending = [] }

-- the cache after a list of steps
abbrev pub after_all : List Step → Own → Own
after_all [] own = own
after_all (step ∷ rest) own = after_all rest (after step own)

-- whether a step installs the page
abbrev pub is_install : ℕ → Step → Bool
is_install page (installed entry) = entry.page == page
is_install page _ = false

-- words of the page, with a write hit on it applied
abbrev pub with_write : ℕ → Step → List ℕ → List ℕ
with_write page (write_hit call) words = if call.page == page then slice_set words call.word call.value else words
with_write page _ words = words

-- words of the page, with each write hit on it applied, in order
abbrev pub with_writes : ℕ → List Step → List ℕ → List ℕ
with_writes page [] words = words
with_writes page (step ∷ rest) words = with_writes page rest (with_write page step words)

-- where a page is held, its words are those last installed with each write hit since then applied
abbrev pub WordsAreAsWritten : Type 0
WordsAreAsWritten =
    (own : Own) (entry : Held) (since : List Step) → list_any (is_install entry.page) since ≡ false →
    IfSome (words_of entry.page (after_all since (after (installed entry) own)).held)
    (λ words. words ≡ with_writes entry.page since entry.words)
