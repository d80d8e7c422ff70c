use Rattle.std.specs.Prelude.{◌≡◌, ◌≢◌, ℕ, List, Bool, true, false, cond, Option, None, Some, IsSome, length, filter_map, option_map, slice_set, ◌-◌, ◌+◌, min}
use Rattle.std.specs.List.{list_any, range_with_len}
use Rattle.casper_words.specs.Crew.{IsClient}
use Rattle.casper_words.specs.declared.page.Right.{Right}
use Rattle.casper_words.specs.declared.page.Right.TheVariants as may
use Rattle.casper_dir.specs.Rights.{right_at, AreAllClients}
use Rattle.casper_cache.specs.declared.held.Held.{Held}
use Rattle.casper_cache.specs.Holding.{right_of, words_of, ArePagesDistinct}
use Rattle.casper_cache.specs.Own as cache
use Rattle.casper_model.specs.Held.{is_to_write}
use Rattle.casper_model.specs.Room.{most_cap}
use Rattle.casper_model.specs.Opening.{any_right}
use Rattle.casper_hub.specs.HubView.{PagesView, ClientView, frame_in}
use Rattle.casper_hub.specs.Asks.{asks_for, is_asked_for}
use Rattle.casper_hub.specs.Words.{ServerIsRight, HeldIsRight}

-- what is left of a right once asks are met: nothing where another client asks to write the page, and where another asks for it at
-- all the right to read
abbrev pub met : Bool → Bool → Option Right → Option Right
met wholly asked None = None
met true asked (Some right) = None
met false asked (Some right) = Some (cond asked may.Read right)

-- the right that a client keeps to a page as it meets the asks of the others
abbrev pub right_kept : PagesView → List (Option ClientView) → ℕ → ℕ → Option Right
right_kept pages places who page =
    met (is_asked_for is_to_write places who page) (is_asked_for any_right places who page) (right_at pages.rights who page)

-- a held page with the right that is left of the one that its client had to it. A page to which the client had none stays
abbrev pub left_of : Option Right → Option Right → Held → Option Held
left_of None after entry = Some entry
left_of (Some right) after entry = option_map (λ left. record entry { right = left }) after

abbrev pub kept_as : (ℕ → Option Right) → (ℕ → Option Right) → Held → Option Held
kept_as before after entry = left_of (before entry.page) (after entry.page) entry

-- a right once the page is handed in and kept for reading
abbrev pub lowered_right : Option Right → Option Right
lowered_right right = option_map {T = Right} (λ held. may.Read) right

-- whether a right is the right to write
abbrev pub writes : Option Right → Bool
writes None = false
writes (Some right) = is_to_write right

-- a right only falls
abbrev pub Falls : Option Right → Option Right → Type 0
Falls None after = after ≡ None
Falls (Some may.Read) None = Unit {0}
Falls (Some may.Read) (Some right) = right ≡ may.Read
Falls (Some may.Write) after = Unit {0}

-- the frames of the server once a client has handed in a page, if it held it for writing
abbrev pub handed_in : PagesView → ℕ → ℕ → List Held → List (Option (List ℕ))
handed_in pages who page held = cond (writes (right_at pages.rights who page)) (slice_set pages.frames page (words_of page held)) pages.frames

-- a client gave pages up, wholly or to reading: its rights fell and no other right changed, its cache holds what is left, and what
-- it held for writing is at the server
pub record GivesUp (who : ℕ) (pages : PagesView) (held : List Held) (after : PagesView) (held_after : List Held) : Type 0 where
  pub rights_count : length after.rights ≡ length pages.rights
  pub frames_count : length after.frames ≡ length pages.frames
  pub holders : AreAllClients after.rights
  pub others : (client page : ℕ) → IsClient client → client ≢ who → right_at after.rights client page ≡ right_at pages.rights client page
  pub falls : (page : ℕ) → Falls (right_at pages.rights who page) (right_at after.rights who page)
  pub held_is : held_after ≡ filter_map (kept_as (right_at pages.rights who) (right_at after.rights who)) held
  pub framed : (page : ℕ) → IsSome (frame_in pages page) → IsSome (frame_in after page)
  pub words : (modified : ℕ → Bool) (value stored : ℕ → ℕ → ℕ) → ServerIsRight modified value stored pages → HeldIsRight value held
      → ServerIsRight modified value stored after

-- a cache holds the pages to which its client has rights, each once and with these rights, and the server has a frame of each that
-- the client may write
pub record Covers (who : ℕ) (pages : PagesView) (held : List Held) : Type 0 where
  pub client : IsClient who
  pub holders : AreAllClients pages.rights
  pub frames_count : length pages.frames ≡ length pages.rights
  pub distinct : ArePagesDistinct held
  pub held_so : (page : ℕ) (right : Right) → right_at pages.rights who page ≡ Some right → right_of page held ≡ Some right
  pub framed : (page : ℕ) → right_at pages.rights who page ≡ Some may.Write → IsSome (frame_in pages page)

-- a client gave pages up to asks, of which the first test says which pages others ask to write, and the second which they ask for
pub record Meets (who : ℕ) (wholly asked : ℕ → Bool) (pages : PagesView) (held : List Held) (after : PagesView) (held_after : List Held) : Type 0 where
  pub gives : GivesUp who pages held after held_after
  pub rights : (page : ℕ) → right_at after.rights who page ≡ met (wholly page) (asked page) (right_at pages.rights who page)

-- whether one of the other clients with a lesser number than this has an ask on a page, for a right that passes the test
abbrev pub asked_below : ℕ → (Right → Bool) → List (Option ClientView) → ℕ → ℕ → Bool
asked_below number test places who page = list_any (asks_for test places who page) (range_with_len 1 (number - 1))

-- the cap of a client once its pending calls were recorded, with so much free room
abbrev pub topped : cache.Own → ℕ → ℕ
topped own free = min most_cap (own.cap - length own.pending + free)
