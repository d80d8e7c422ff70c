use Rattle.std.specs.Prelude.{◌≡◌, ◌≢◌, ◌+◌, ℕ, List, [], All, Option, None, Some}
use Rattle.casper_disk.specs.Vault.{page_at}
use Rattle.casper_map.specs.Faulty.{frame_at}
use Rattle.casper_map.specs.Mapped.{Mapped}
use Rattle.casper_map.specs.Planned.{Planned, moved}

-- the frame of a page, where it has one
abbrev pub frame_of_page : Mapped → ℕ → Option ℕ
frame_of_page held page = frame_at held.places (held.first_page + page)

-- each page but these has the frame that it had, or none as before
abbrev pub OthersKeepFrames : List ℕ → Mapped → Mapped → Type 0
OthersKeepFrames pages before after =
    (page : ℕ) → All (λ other. other ≢ page) pages → frame_of_page after page ≡ frame_of_page before page

-- the pages of a plan that is in doubt, or none
abbrev pub pages_in_doubt : Option Planned → List ℕ
pages_in_doubt None = []
pages_in_doubt (Some plan) = moved plan.pages

-- each page but these has the words that it had
abbrev pub OthersKeepWords : List ℕ → List (List ℕ) → List (List ℕ) → Type 0
OthersKeepWords pages before after = (page : ℕ) → All (λ other. other ≢ page) pages → page_at after page ≡ page_at before page
