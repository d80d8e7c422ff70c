use Rattle.std.proofs.Common.{◌≡◌, ◌∙◌, ◌+◌, ◌<◌, ℕ, List, [], ap, arith}
use Rattle.std.specs.Prelude.{None}
use Rattle.std.proofs.lemmas.List.{get_or-map, get_or-drop, length-drop}
use Rattle.casper_disk.specs.Vault.{page_at}
use Rattle.casper_map.specs.Faulty.{frame_at}
use Rattle.casper_map.specs.Levels.{one_reader, page_in}
use Rattle.casper_map.specs.Mapped.{Mapped, page_count, page_frames}
use Rattle.casper_stable.specs.Opens.{pages_in}

-- a page is read from its frame
pub page_found : (content : List (List ℕ)) (held : Mapped) (page : ℕ) → page < page_count held
    → page_at (pages_in content held) page ≡ page_in one_reader content (frame_at held.places (held.first_page + page))
page_found content held page within =
    get_or-map (page_in one_reader content) (page_frames held) page None [] (omega (arith, within, length-drop held.first_page held.places))
    ∙ ap (page_in one_reader content) (get_or-drop held.first_page held.places page None)
