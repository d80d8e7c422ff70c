use Rattle.std.specs.Prelude.{◌≡◌, ◌⊎◌, ◌==◌, ℕ, ◌+◌, Bool, false, List, [], ◌∷◌, nat_lt, cond, map, slice_index_or, option_map, Option, None, Some}
use Rattle.casper_space.specs.Changes.{Change, VaultRoom, last_version, pages_of, need_of, free_of, room_after, with_changes}

-- the page at a place, a list of its words
abbrev pub page_at : List (List ℕ) → ℕ → List ℕ
page_at image page = slice_index_or image page []

-- pages with their new words, as changes
abbrev pub as_changes : List (ℕ × List ℕ) → List Change
as_changes pairs = map (λ pair. record { page = pair.0; words = pair.1 }) pairs

-- the changes that are in doubt, if there are any
abbrev pub changes_in : Option (List Change) → List Change
changes_in None = []
changes_in (Some changes) = changes

-- what a stop leaves of a vault: an image and its version
pub record Saved : Type 0 where
  pub image : List (List ℕ)
  pub version : ℕ

-- the version after a commit of these changes
abbrev pub version_after : List Change → ℕ → ℕ
version_after [] version = version
version_after (change ∷ changes) version = version + 1

-- the room after a commit of these changes, where the vault has one
abbrev pub room_with : List Change → Option VaultRoom → Option VaultRoom
room_with [] room = room
room_with (change ∷ changes) room = option_map (room_after (pages_of (change ∷ changes))) room

-- the version once what is in doubt was settled, where something is
abbrev pub version_settled : Option (List Change) → ℕ → ℕ
version_settled None version = version
version_settled (Some changes) version = version + 1

-- and the room, where the vault has one
abbrev pub room_settled : Option (List Change) → Option VaultRoom → Option VaultRoom
room_settled None room = room
room_settled (Some changes) room = option_map (room_after (pages_of changes)) room

-- whether a commit of these changes would need a version past the last one
abbrev pub is_worn : List Change → ℕ → Bool
is_worn [] version = false
is_worn (change ∷ changes) version = version == last_version

-- frames that are needed, and frames that are free
pub record Frames : Type 0 where
  pub need : ℕ
  pub free : ℕ

-- what a commit of these changes needs, where that is more than the room has free
abbrev pub lacking : List Change → Option VaultRoom → Option Frames
lacking [] room = None
lacking (change ∷ changes) None = None
lacking (change ∷ changes) (Some room) =
    let pages = pages_of (change ∷ changes) in
    cond (nat_lt (free_of room) (need_of room pages)) (Some (record { need = need_of room pages; free = free_of room })) None

-- what was saved is this image with its version, or the image with these changes and that next version
abbrev pub IsOldOrNewImage : List (List ℕ) → ℕ → List Change → ℕ → Saved → Type 0
IsOldOrNewImage image version changes next saved =
    saved ≡ record { image = image; version = version } ⊎ saved ≡ record { image = with_changes image changes; version = next }
