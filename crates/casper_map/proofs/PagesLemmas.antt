use Rattle.std.proofs.Common.{◌≡◌, ℕ, suc, ◌+◌, ◌<◌, List, [], ◌∷◌, take, drop, map, get_or, set, refl, sym, ◌∙◌, ap, ⊎_elim, arith}
use Rattle.std.specs.Prelude.{Option, Some, All, Ok}
use Rattle.std.proofs.lemmas.List.{drop-set-lt, drop-set-add, map-set, drop_at, length-map, get_or-map}
use Rattle.casper_space.specs.Changes.{Change, pages_of, with_changes}
use Rattle.casper_words.specs.BlockWords.{words_of_block}
use Rattle.casper_map.specs.Faulty.{first_faulty, bad_map, pages_under}
use Rattle.casper_map.specs.Levels.{Opened, level, block_in, names, one_reader, page_in, array_of}
use Rattle.casper_map.specs.Mapped.{block_frames, page_frames}
use Rattle.casper_map.specs.Planned.{moved, with_moves, with_plan}
use Rattle.casper_map.specs.Reading.{mapped_in, levels_of, root_places}
use Rattle.casper_map.specs.PlanLaws.{PlansChangePages, OthersStay}
use Rattle.casper_map.proofs.MoveLemmas.{moves_below}
use Rattle.casper_map.proofs.OpenedLemmas.{all_in}
use Rattle.casper_map.proofs.OpensLemmas.{has_levels, fine_found, not_refused, fine_shown, split_of, few_pages, split_blocks}
use Rattle.casper_map.proofs.ChangeLemmas.{IsMoved, IsUnmoved, moved_or}
use Rattle.casper_map.proofs.PlanLemmas.{moves_long}
use Rattle.casper_map.proofs.PlannedLemmas.{pages_within, maps_below}
use Rattle.casper_map.proofs.StandLemmas.{Same, pages_stand, names_back}

first_page_is : (change : Change) (changes : List Change) (move : ℕ × ℕ) (moves : List (ℕ × ℕ)) → pages_of (change ∷ changes) ≡ moved (move ∷ moves) → change.page ≡ move.0
first_page_is change changes move moves is = cc

later_pages_are : (change : Change) (changes : List Change) (move : ℕ × ℕ) (moves : List (ℕ × ℕ)) → pages_of (change ∷ changes) ≡ moved (move ∷ moves) → pages_of changes ≡ moved moves
later_pages_are change changes move moves is = cc

first_item : (one other : List ℕ) (ones others : List (List ℕ)) → one ∷ ones ≡ other ∷ others → one ≡ other
first_item one other ones others is = cc

later_items : (one other : List ℕ) (ones others : List (List ℕ)) → one ∷ ones ≡ other ∷ others → ones ≡ others
later_items one other ones others is = cc

-- the words of changes
abbrev words_in : List Change → List (List ℕ)
words_in changes = map (λ change. change.words) changes

-- the words in the frames of moves
abbrev words_moved : List (List ℕ) → List (ℕ × ℕ) → List (List ℕ)
words_moved image moves = map (λ move. words_of_block (block_in image move.1)) moves

-- where moved pages have the words of changes, the pages are those with the changes
pages_with : (image : List (List ℕ)) (first : ℕ) (moves : List (ℕ × ℕ)) (changes : List Change) (places : List (Option ℕ)) (pages : List (List ℕ))
    → pages_of changes ≡ moved moves → words_in changes ≡ words_moved image moves → map (page_in one_reader image) (drop first places) ≡ pages
    → map (page_in one_reader image) (drop first (with_moves first moves places)) ≡ with_changes pages changes
pages_with image first [] [] places pages same words is = is
pages_with image first [] (change ∷ changes) places pages same words is = cc
pages_with image first (move ∷ moves) [] places pages same words is = cc
pages_with image first (move ∷ moves) (change ∷ changes) places pages same words is =
    let page = first_page_is change changes move moves same in
    let here : change.words ≡ words_of_block (block_in image move.1) = first_item change.words (words_of_block (block_in image move.1)) (words_in changes) (words_moved image moves) words in
    let step : map (page_in one_reader image) (drop first (set places (first + move.0) (Some move.1))) ≡ set pages change.page change.words =
    ap (map (page_in one_reader image)) (drop-set-add first places move.0 (Some move.1))
    ∙ map-set (page_in one_reader image) (drop first places) move.0 (Some move.1)
    ∙ ap (λ (list : List (List ℕ)). set list move.0 (words_of_block (block_in image move.1))) is
    ∙ ap (λ (number : ℕ). set pages number (words_of_block (block_in image move.1))) (sym page)
    ∙ ap (set pages change.page) (sym here) in
    pages_with image first moves changes (set places (first + move.0) (Some move.1)) (set pages change.page change.words)
    (later_pages_are change changes move moves same)
    (later_items change.words (words_of_block (block_in image move.1)) (words_in changes) (words_moved image moves) words) step

-- moves of lower places leave those after
pub moves_behind : (moves : List (ℕ × ℕ)) (places : List (Option ℕ)) (first : ℕ) → All (λ move. move.0 < first) moves → drop first (with_moves 0 moves places) ≡ drop first places
moves_behind [] places first below = refl
moves_behind (move ∷ moves) places first below =
    let low : move.0 < first = below 0 move (omega arith) in
    moves_behind moves (set places (0 + move.0) (Some move.1)) first (λ k d within. below (suc k) d (omega arith))
    ∙ drop-set-lt first places (0 + move.0) (Some move.1) (omega arith)

pub plans_change_pages : PlansChangePages
plans_change_pages blocks image roots new held plan changes old written was =
    let is = written.planned in
    let after = with_plan plan held in
    let first = held.first_page in
    let eaches = 1024 ∷ 1 ∷ [] in
    let bad = bad_map (pages_under eaches (levels_of blocks roots)) (all_in blocks roots) in
    let place = first_faulty roots.header.frames (all_in blocks roots) in
    let opened = fine_found bad place (mapped_in blocks roots) held written.opened in
    let split = split_of blocks roots held (few_pages roots written.map_blocks) opened.1 in
    let sizes = split_blocks blocks (root_places roots) roots.header.pages held split in
    let behind = take roots.header.pages (level one_reader blocks (root_places roots)) in
    let pages : drop first held.places ≡ behind = ap (drop first) split.places ∙ drop_at (root_places roots) behind first split.first in
    let named : Same blocks image behind =
    (λ frame there. written.others frame (ap (λ (list : List (Option ℕ)). names list frame) split.places ∙ names_back (root_places roots) behind frame there)) in
    let found = fine_found bad place (array_of one_reader blocks (roots.header.pages ∷ []) (root_places roots)) old was in
    let old_pages : map (page_in one_reader image) (drop first (with_moves 0 plan.maps held.places)) ≡ old.pages =
    ap (map (page_in one_reader image)) (moves_behind plan.maps held.places first (maps_below held plan sizes is) ∙ pages)
    ∙ pages_stand one_reader blocks image behind named ∙ ap (λ (opened : Opened). opened.pages) found.1 in
    let changed = pages_with image first plan.pages changes (with_moves 0 plan.maps held.places) old.pages written.pages written.words old_pages in
    let shown = has_levels blocks image roots new held plan changes written in
    let below = take new.header.pages (level one_reader image (root_places new)) in
    let made : List (List (Option ℕ)) → List (List ℕ) → Opened = λ levels pages. record { levels = levels; pages = pages } in
    not_refused new.header.frames (levels_of image new) (array_of one_reader image (new.header.pages ∷ []) (root_places new)) (fine_shown image new after shown)
    ∙ ap (λ (list : List (Option ℕ)). Ok (made (list ∷ below ∷ []) (map (page_in one_reader image) below))) shown.root
    ∙ ap (λ (list : List (Option ℕ)). Ok (made (block_frames after ∷ list ∷ []) (map (page_in one_reader image) list))) shown.below
    ∙ ap (λ (pages : List (List ℕ)). Ok (made (block_frames after ∷ page_frames after ∷ []) pages)) changed

pub others_stay : OthersStay
others_stay held plan page sizes is others =
    let first = held.first_page in
    let before = with_moves 0 plan.maps held.places in
    ⊎_elim
    (λ (found : IsMoved first plan.pages before (first + page)).
    let low = found.within in
    let there : get_or (moved plan.pages) found.k 0 ≡ (get_or plan.pages found.k (0, 0)).0 = get_or-map (λ (move : ℕ × ℕ). move.0) plan.pages found.k (0, 0) 0 low in
    absurd (others found.k 0 (omega (arith, low, length-map plan.pages (λ (move : ℕ × ℕ). move.0))) (omega (arith, there, found.target))))
    (λ (left : IsUnmoved first plan.pages before (first + page)). left.there ∙ moves_below plan.maps held.places first (first + page) (maps_below held plan sizes is) (omega arith))
    (moved_or first plan.pages before (first + page) (λ k d k_low. let it = pages_within held plan sizes is k d k_low in omega (arith, it, moves_long 0 plan.maps held.places)))
