use Rattle.std.specs.Prelude.{◌≡◌, ◌⊎◌, ◌++◌, ℕ, ◌^◌, ◌<◌, ◌≤◌, Bool, List, Option, None, Some, is_some, length, map, take, drop, replicate, slice_index_or, Contains}
use Rattle.casper_space.specs.Changes.{last_version}
use Rattle.casper_disk.specs.Vault.{Saved}

-- a vault in memory: the words of its pages, its version, and what it was before each commit
pub record HeldPages : Type 0 where
  pub pages : List (List ℕ)
  pub version : ℕ
  pub past : List Saved

-- the words of a page, which are 0 where it has no frame
abbrev pub words_in : Option (List ℕ) → List ℕ
words_in None = replicate 512 0
words_in (Some words) = words

-- whether the page at a place has a frame
abbrev pub is_held : List (Option (List ℕ)) → ℕ → Bool
is_held frames page = is_some (slice_index_or frames page None)

-- 512 words: the first ones of these, and 0 where there are fewer
unfoldable pub whole : List ℕ → List ℕ
whole words = take 512 (words ++ replicate 512 0)

-- the image
abbrev pub held_image : HeldPages → List (List ℕ)
held_image vault = map whole vault.pages

-- what a stop leaves of these frames, and of a vault
abbrev pub saved_of : List (Option (List ℕ)) → ℕ → Saved
saved_of frames version = record { image = map whole (map words_in frames); version = version }

abbrev pub held_saved : HeldPages → Saved
held_saved vault = record { image = held_image vault; version = vault.version }

-- what a stop since some moment might have left: what one now leaves, or one before a commit since then
abbrev pub saved_since : HeldPages → ℕ → Saved → Type 0
saved_since vault moment saved = saved ≡ held_saved vault ⊎ Contains (drop moment vault.past) saved

-- what a vault in memory keeps: its pages are numbered by 32 bits, and its version is at most the last one
pub record IsHeldVault (frames : List (Option (List ℕ))) (blank : List ℕ) (version : ℕ) : Type 0 where
  pub size : length frames < 2 ^ 32
  pub zero : blank ≡ replicate 512 0
  pub bounded : version ≤ last_version
