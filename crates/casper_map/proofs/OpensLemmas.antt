use Rattle.std.proofs.Common.{◌≡◌, ◌≢◌, ℕ, ◌+◌, ◌*◌, ◌/◌, ◌%◌, ◌^◌, ◌<◌, ◌≤◌, true, List, [], ◌∷◌, ◌++◌, length, take, drop, map, get_or, refl, sym, ◌∙◌, ap, subst, ⊎_elim, arith}
use Rattle.std.specs.Prelude.{Option, Some, None, All, Result, Ok, option_map, ◌==◌}
use Rattle.std.proofs.lemmas.Bool.{cond-false, ne_eqb}
use Rattle.std.proofs.lemmas.List.{length-map, get_or-map, length-append, length-take, length-take-le, length-drop, get_or-take, get_or-drop, ext_get_or, take-append-drop}
use Rattle.std.proofs.lemmas.List.FromFn.{length-map-range_with_len, get_or-map-range_with_len}
use Rattle.casper_root.specs.declared.fault.OpenFault.{OpenFault}
use Rattle.casper_root.specs.declared.header.Header.{Header}
use Rattle.casper_root.specs.declared.roots.Roots.{Roots}
use Rattle.casper_space.specs.Changes.{Change, blocks_of}
use Rattle.casper_map.specs.Faulty.{frame_at, first_faulty, bad_map, bad_levels, pages_under, refused}
use Rattle.casper_map.specs.Levels.{level, entries_in, block_in, names, one_reader, joined}
use Rattle.casper_map.specs.Mapped.{Mapped, block_frames, page_frames, HasBlocks, AreBelow}
use Rattle.casper_map.specs.Numbers.{no_frame, frame_in, number_of, block_of_numbers, numbers_of_block}
use Rattle.casper_map.specs.Planned.{Planned, IsPlan, moved, with_moves, with_plan, block_numbers}
use Rattle.casper_map.specs.Reading.{mapped_in, levels_of, root_places}
use Rattle.casper_map.specs.PlanLaws.{IsWritten, PlansOpen, OpenedMapsAreWhole, PlansKeepTheMapBlocks}
use Rattle.casper_map.proofs.ByteLemmas.{blocks_keep_their_numbers}
use Rattle.casper_map.proofs.ChangeLemmas.{IsMoved, IsUnmoved, moved_or, block_stands_in}
use Rattle.casper_map.proofs.FineLemmas.{fine_apart, fine_below, none_faulty, plan_parts}
use Rattle.casper_map.proofs.LevelLemmas.{level_at, level_long, entry_at, map_at}
use Rattle.casper_map.proofs.MoveLemmas.{moves_above, moves_below}
use Rattle.casper_map.proofs.NameLemmas.{named_at}
use Rattle.casper_map.proofs.OpenedLemmas.{all_in, maps_long}
use Rattle.casper_map.proofs.PlanLemmas.{moves_long}
use Rattle.casper_map.proofs.PlannedLemmas.{pages_within, maps_within, maps_below}

ok_same : {T : Type 0} (one other : T) → ◌≡◌ {A = Result T OpenFault} (Ok one) (Ok other) → one ≡ other
ok_same one other is = cc

-- what was not refused
pub fine_found : {T : Type 0} (bad : ℕ → OpenFault) (place : Option ℕ) (found held : T) → refused (option_map bad place) found ≡ Ok held → (place ≡ None) × (found ≡ held)
fine_found bad None found held is = (refl, ok_same found held is)
fine_found bad (Some at) found held is = cc

-- a frame in range stands for itself
in_range : (frames : ℕ) (place : Option ℕ) → frames ≤ 65536 → ((frame : ℕ) → place ≡ Some frame → frame < frames) → frame_in (number_of place) ≡ place
in_range frames None few below = refl
in_range frames (Some frame) few below =
    let low : frame < frames = below frame refl in
    let other : frame ≢ no_frame = omega (arith, low, few) in
    cond-false (frame == no_frame) None (Some frame) (ne_eqb frame no_frame other)

number_fits : (frames : ℕ) (place : Option ℕ) → frames ≤ 65536 → ((frame : ℕ) → place ≡ Some frame → frame < frames) → number_of place < 2 ^ 32
number_fits frames None few below = omega arith
number_fits frames (Some frame) few below = let low : frame < frames = below frame refl in omega (arith, low, few)

-- the entries of a map block that was written
entry_written : (image : List (List ℕ)) (held : Mapped) (frame number i : ℕ) → held.frames ≤ 65536 → AreBelow held.frames held.places
    → block_in image frame ≡ block_of_numbers (block_numbers held number) → i < 1024
    → frame_at (entries_in one_reader image (Some frame)) i ≡ frame_at held.places (held.first_page + 1024 * number + i)
entry_written image held frame number i few below is low =
    let place : ℕ → Option ℕ = λ entry. frame_at held.places (held.first_page + 1024 * number + entry) in
    let numbers = block_numbers held number in
    let long : length numbers ≡ 1024 = length-map-range_with_len (λ entry. number_of (place entry)) 0 1024 in
    let at : (k : ℕ) → k < 1024 → get_or numbers k 0 ≡ number_of (place k) = (λ k k_low. get_or-map-range_with_len (λ entry. number_of (place entry)) 0 1024 k k 0 k_low (omega arith)) in
    let fits : (k : ℕ) → k < length numbers → get_or numbers k 0 < 2 ^ 32 =
    (λ k k_low. subst (λ (n : ℕ). n < 2 ^ 32) (sym (at k (omega (arith, long, k_low)))) (number_fits held.frames (place k) few (λ f there. below (held.first_page + 1024 * number + k) f there))) in
    ap (λ (block : List ℕ). frame_at (map frame_in (numbers_of_block block)) i) is
    ∙ ap (λ (list : List ℕ). frame_at (map frame_in list) i) (blocks_keep_their_numbers numbers long fits)
    ∙ get_or-map frame_in numbers i 0 None (omega (arith, long, low))
    ∙ ap frame_in (at i low)
    ∙ in_range held.frames (place i) few (λ f there. below (held.first_page + 1024 * number + i) f there)

-- and those of one that was left
entry_left : (blocks image : List (List ℕ)) (place : Option ℕ) (places : List (Option ℕ)) (at i : ℕ) → frame_at places at ≡ place
    → ((frame : ℕ) → names places frame ≡ true → block_in image frame ≡ block_in blocks frame)
    → frame_at (entries_in one_reader image place) i ≡ frame_at (entries_in one_reader blocks place) i
entry_left blocks image None places at i is others = refl
entry_left blocks image (Some frame) places at i is others =
    ap (λ (block : List ℕ). frame_at (map frame_in (numbers_of_block block)) i) (others frame (named_at places at frame is))

-- the places of a map in two parts
pub record IsSplit (blocks : List (List ℕ)) (maps : List (Option ℕ)) (pages : ℕ) (held : Mapped) : Type 0 where
  pub places : held.places ≡ maps ++ take pages (level one_reader blocks maps)
  pub first : length maps ≡ held.first_page
  pub few : pages ≤ 1024 * held.first_page

split_long : (blocks : List (List ℕ)) (maps : List (Option ℕ)) (pages : ℕ) (held : Mapped) → IsSplit blocks maps pages held → length held.places ≡ held.first_page + pages
split_long blocks maps pages held split =
    let first = split.first in
    let few = split.few in
    let behind = length-take pages (level one_reader blocks maps) in
    ap length split.places ∙ omega (arith, length-append maps (take pages (level one_reader blocks maps)), behind, level_long blocks maps, first, few)

pub split_blocks : (blocks : List (List ℕ)) (maps : List (Option ℕ)) (pages : ℕ) (held : Mapped) → IsSplit blocks maps pages held → HasBlocks held
split_blocks blocks maps pages held split =
    let few = split.few in
    let long = split_long blocks maps pages held split in
    record { blocks = omega (arith, long); mapped = omega (arith, long, few) }

-- the entries of a map block before the plan
old_entry : (blocks : List (List ℕ)) (maps : List (Option ℕ)) (pages : ℕ) (held : Mapped) → IsSplit blocks maps pages held
    → (number i : ℕ) → number < held.first_page → i < 1024 → 1024 * number + i < pages
    → frame_at (entries_in one_reader blocks (frame_at held.places number)) i ≡ frame_at held.places (held.first_page + 1024 * number + i)
old_entry blocks maps pages held split number i within low inside =
    let all = maps ++ take pages (level one_reader blocks maps) in
    ap (λ (frame : Option ℕ). frame_at (entries_in one_reader blocks frame) i)
    (ap (λ (list : List (Option ℕ)). frame_at list number) split.places ∙ map_at maps (take pages (level one_reader blocks maps)) held.first_page number split.first within)
    ∙ sym (entry_at blocks maps held.first_page pages number i split.first within low inside)
    ∙ sym (ap (λ (list : List (Option ℕ)). frame_at list (held.first_page + 1024 * number + i)) split.places)

-- a page whose map block a plan does not move is not moved itself
page_unmoved : (held : Mapped) (plan : Planned) (number i : ℕ) → IsPlan held plan → i < 1024
    → ((k : ℕ) → k < length plan.maps → 0 + (get_or plan.maps k (0, 0)).0 ≢ number)
    → (k : ℕ) → k < length plan.pages → held.first_page + (get_or plan.pages k (0, 0)).0 ≢ held.first_page + 1024 * number + i
page_unmoved held plan number i is low others k within same =
    let pages = moved plan.pages in
    let long : length pages ≡ length plan.pages = length-map plan.pages (λ (move : ℕ × ℕ). move.0) in
    let page : get_or pages k 0 ≡ (get_or plan.pages k (0, 0)).0 = get_or-map (λ (move : ℕ × ℕ). move.0) plan.pages k (0, 0) 0 within in
    let found = block_stands_in pages k (omega (arith, long, within)) in
    let maps : length (blocks_of pages) ≡ length plan.maps = ap length (sym is.blocks) ∙ length-map plan.maps (λ (move : ℕ × ℕ). move.0) in
    let low_found : found.0 < length plan.maps = omega (arith, found.1, maps) in
    let block : (get_or plan.maps found.0 (0, 0)).0 ≡ get_or pages k 0 / 1024 =
    sym (get_or-map (λ (move : ℕ × ℕ). move.0) plan.maps found.0 (0, 0) 0 low_found) ∙ ap (λ (list : List ℕ). get_or list found.0 0) is.blocks ∙ found.2 in
    let whole : get_or pages k 0 ≡ 1024 * number + i = omega (arith, page, same) in
    others found.0 low_found (omega (arith, block, whole, low))

-- a place of the pages with a plan is an entry of its map block in the image
pub level_with : (blocks image : List (List ℕ)) (maps : List (Option ℕ)) (pages : ℕ) (held : Mapped) (plan : Planned) → IsSplit blocks maps pages held → IsPlan held plan
    → held.frames ≤ 65536 → AreBelow held.frames (with_plan plan held).places
    → All (λ move. block_in image move.1 ≡ block_of_numbers (block_numbers (with_plan plan held) move.0)) plan.maps
    → ((frame : ℕ) → names held.places frame ≡ true → block_in image frame ≡ block_in blocks frame)
    → (number i : ℕ) → number < held.first_page → i < 1024 → 1024 * number + i < pages
    → frame_at (entries_in one_reader image (frame_at (with_plan plan held).places number)) i ≡ frame_at (with_plan plan held).places (held.first_page + 1024 * number + i)
level_with blocks image maps pages held plan split is few below written others number i within low inside =
    let first = held.first_page in
    let new = with_plan plan held in
    let before = with_moves 0 plan.maps held.places in
    let sizes = split_blocks blocks maps pages held split in
    let at = first + 1024 * number + i in
    let place : frame_at new.places number ≡ frame_at before number =
    sym (get_or-take first new.places number None within) ∙ ap (λ (list : List (Option ℕ)). frame_at list number) (moves_above first plan.pages before)
    ∙ get_or-take first before number None within in
    ⊎_elim
    (λ (found : IsMoved 0 plan.maps held.places number).
    let move = get_or plan.maps found.k (0, 0) in
    let target : move.0 ≡ number = omega (arith, found.target) in
    let block : block_in image move.1 ≡ block_of_numbers (block_numbers new number) =
    written found.k (0, 0) found.within ∙ ap (λ (n : ℕ). block_of_numbers (block_numbers new n)) target in
    ap (λ (frame : Option ℕ). frame_at (entries_in one_reader image frame) i) (place ∙ found.there)
    ∙ entry_written image new move.1 number i few below block low)
    (λ (none : IsUnmoved 0 plan.maps held.places number).
    let old = frame_at held.places number in
    let page : frame_at new.places at ≡ frame_at held.places at =
    ⊎_elim
    (λ (found : IsMoved first plan.pages before at). absurd (page_unmoved held plan number i is low none.others found.k found.within found.target))
    (λ (left : IsUnmoved first plan.pages before at). left.there ∙ moves_below plan.maps held.places first at (maps_below held plan sizes is) (omega arith))
    (moved_or first plan.pages before at (λ k d k_low. let it = pages_within held plan sizes is k d k_low in omega (arith, it, moves_long 0 plan.maps held.places))) in
    ap (λ (frame : Option ℕ). frame_at (entries_in one_reader image frame) i) (place ∙ none.there)
    ∙ entry_left blocks image old held.places number i refl others
    ∙ old_entry blocks maps pages held split number i within low inside
    ∙ sym page)
    (moved_or 0 plan.maps held.places number (maps_within held plan sizes is))

-- the map blocks of an image name the frames of the pages with the plan
below_with : (blocks image : List (List ℕ)) (maps : List (Option ℕ)) (pages : ℕ) (held : Mapped) (plan : Planned) → IsSplit blocks maps pages held → IsPlan held plan
    → held.frames ≤ 65536 → AreBelow held.frames (with_plan plan held).places
    → All (λ move. block_in image move.1 ≡ block_of_numbers (block_numbers (with_plan plan held) move.0)) plan.maps
    → ((frame : ℕ) → names held.places frame ≡ true → block_in image frame ≡ block_in blocks frame)
    → take pages (level one_reader image (block_frames (with_plan plan held))) ≡ page_frames (with_plan plan held)
below_with blocks image maps pages held plan split is few below written others =
    let first = held.first_page in
    let new = (with_plan plan held).places in
    let front = take first new in
    let all = level one_reader image front in
    let enough = split.few in
    let long : length new ≡ first + pages =
    moves_long first plan.pages (with_moves 0 plan.maps held.places) ∙ moves_long 0 plan.maps held.places ∙ split_long blocks maps pages held split in
    let front_long : length front ≡ first = length-take-le first new (omega (arith, long)) in
    let taken : length (take pages all) ≡ pages = length-take-le pages all (omega (arith, level_long image front, front_long, enough)) in
    ext_get_or None (take pages all) (drop first new) (taken ∙ sym (length-drop first new ∙ omega (arith, long)))
    (λ at low.
    let inside : at < pages = omega (arith, low, taken) in
    let number = at / 1024 in
    let i = at % 1024 in
    let e : at ≡ 1024 * number + i = omega arith in
    let i_low : i < 1024 = omega arith in
    let within : number < first = omega (arith, inside, enough) in
    let whole : first + 1024 * number + i ≡ first + at = omega (arith, e) in
    get_or-take pages all at None inside ∙ ap (frame_at all) e ∙ level_at image front number i (omega (arith, front_long, within)) i_low
    ∙ ap (λ (frame : Option ℕ). frame_at (entries_in one_reader image frame) i) (get_or-take first new number None within)
    ∙ level_with blocks image maps pages held plan split is few below written others number i within i_low (omega (arith, e, inside))
    ∙ ap (frame_at new) whole ∙ sym (get_or-drop first new at None))

-- the numbers of a root stand for the frames of the map blocks
root_with : (frames first : ℕ) (places : List (Option ℕ)) → frames ≤ 65536 → AreBelow frames places → map frame_in (map number_of (take first places)) ≡ take first places
root_with frames first places few below =
    let front = take first places in
    let one = length-map front number_of in
    let two = length-map (map number_of front) frame_in in
    ext_get_or None (map frame_in (map number_of front)) front (two ∙ one)
    (λ at low.
    let within : at < length front = omega (arith, low, one, two) in
    let in_first : at < first = omega (arith, within, length-take first places) in
    get_or-map frame_in (map number_of front) at 0 None (omega (arith, within, one)) ∙ ap frame_in (get_or-map number_of front at None 0 within)
    ∙ in_range frames (frame_at front at) few (λ frame there. below at frame (sym (get_or-take first places at None in_first) ∙ there)))

-- what an image with a plan shows: the places of its new root, those of the pages, and that no place is faulty
pub record HasLevels (image : List (List ℕ)) (new : Roots) (held : Mapped) : Type 0 where
  pub frames : new.header.frames ≡ held.frames
  pub first : length new.body.maps ≡ held.first_page
  pub root : root_places new ≡ block_frames held
  pub below : take new.header.pages (level one_reader image (root_places new)) ≡ page_frames held
  pub fine : first_faulty held.frames held.places ≡ None

pub split_of : (blocks : List (List ℕ)) (roots : Roots) (held : Mapped) → roots.header.pages ≤ 1024 * length roots.body.maps → mapped_in blocks roots ≡ held
    → IsSplit blocks (root_places roots) roots.header.pages held
split_of blocks roots held few is =
    let first : length roots.body.maps ≡ held.first_page = ap (λ (map : Mapped). map.first_page) is in
    record {
      places = sym (ap (λ (map : Mapped). map.places) is);
      first = maps_long roots ∙ first;
      few = omega (arith, few, first);
    }

pub few_pages : (roots : Roots) → length roots.body.maps ≡ (roots.header.pages + 1023) / 1024 → roots.header.pages ≤ 1024 * length roots.body.maps
few_pages roots count = omega (arith, count)

pub has_levels : (blocks image : List (List ℕ)) (roots new : Roots) (held : Mapped) (plan : Planned) (changes : List Change)
    → IsWritten blocks image roots new held plan changes → HasLevels image new (with_plan plan held)
has_levels blocks image roots new held plan changes written =
    let is = written.planned in
    let opened = fine_found (bad_map (pages_under (1024 ∷ 1 ∷ []) (levels_of blocks roots)) (all_in blocks roots)) (first_faulty roots.header.frames (all_in blocks roots)) (mapped_in blocks roots) held written.opened in
    let split = split_of blocks roots held (few_pages roots written.map_blocks) opened.1 in
    let same : roots.header.frames ≡ held.frames = ap (λ (map : Mapped). map.frames) opened.1 in
    let most = written.sizes.most_frames in
    let few : held.frames ≤ 65536 = omega (arith, same, most) in
    let fine : first_faulty held.frames held.places ≡ None =
    subst (λ (map : Mapped). first_faulty map.frames map.places ≡ None) opened.1 opened.0 in
    let parts = plan_parts held plan is (fine_apart held.frames held.places fine) (fine_below held.frames held.places fine) in
    let places = (with_plan plan held).places in
    let root : root_places new ≡ take held.first_page places = ap (map frame_in) written.root ∙ root_with held.frames held.first_page places few parts.1 in
    let long : length places ≡ length held.places =
    moves_long held.first_page plan.pages (with_moves 0 plan.maps held.places) ∙ moves_long 0 plan.maps held.places in
    let blocks_few = (split_blocks blocks (root_places roots) roots.header.pages held split).blocks in
    let pages : new.header.pages ≡ roots.header.pages = ap (λ (header : Header). header.pages) written.same_header in
    let frames : new.header.frames ≡ roots.header.frames = ap (λ (header : Header). header.frames) written.same_header in
    record {
      frames = frames ∙ same;
      first = ap length written.root ∙ length-map (take held.first_page places) number_of ∙ length-take-le held.first_page places (omega (arith, long, blocks_few));
      root = root;
      below = ap (λ (count : ℕ). take count (level one_reader image (root_places new))) pages ∙ ap (λ (list : List (Option ℕ)). take roots.header.pages (level one_reader image list)) root
          ∙ below_with blocks image (root_places roots) roots.header.pages held plan split is few parts.1 written.maps written.others;
      fine = none_faulty held.frames places parts.0 parts.1;
    }

-- without a faulty place nothing is refused
pub not_refused : {T : Type 0} (frames : ℕ) (levels : List (List (Option ℕ))) (found : T) → first_faulty frames (joined levels) ≡ None
    → refused (bad_levels (1024 ∷ 1 ∷ []) frames levels) found ≡ Ok found
not_refused frames levels found none =
    ap (λ (place : Option ℕ). refused (option_map (bad_map (pages_under (1024 ∷ 1 ∷ []) levels) (joined levels)) place) found) none

-- the levels of an image, joined, are the places of its map
pub places_shown : (image : List (List ℕ)) (new : Roots) (held : Mapped) → HasLevels image new held → all_in image new ≡ held.places
places_shown image new held shown =
    ap (λ (list : List (Option ℕ)). root_places new ++ list) shown.below ∙ ap (λ (list : List (Option ℕ)). list ++ page_frames held) shown.root ∙ take-append-drop held.first_page held.places

pub fine_shown : (image : List (List ℕ)) (new : Roots) (held : Mapped) → HasLevels image new held → first_faulty new.header.frames (all_in image new) ≡ None
fine_shown image new held shown =
    ap (λ (count : ℕ). first_faulty count (all_in image new)) shown.frames ∙ ap (first_faulty held.frames) (places_shown image new held shown) ∙ shown.fine

pub plans_open : PlansOpen
plans_open blocks image roots new held plan changes written =
    let after = with_plan plan held in
    let shown = has_levels blocks image roots new held plan changes written in
    let made : ℕ → List (Option ℕ) → ℕ → Mapped = λ first places frames. record { first_page = first; places = places; frames = frames } in
    not_refused new.header.frames (levels_of image new) (mapped_in image new) (fine_shown image new after shown)
    ∙ ap (λ (first : ℕ). Ok (made first (all_in image new) new.header.frames)) shown.first
    ∙ ap (λ (places : List (Option ℕ)). Ok (made held.first_page places new.header.frames)) (places_shown image new after shown)
    ∙ ap (λ (frames : ℕ). Ok (made held.first_page after.places frames)) shown.frames

pub opened_maps_are_whole : OpenedMapsAreWhole
opened_maps_are_whole blocks roots held count is =
    let opened = fine_found (bad_map (pages_under (1024 ∷ 1 ∷ []) (levels_of blocks roots)) (all_in blocks roots)) (first_faulty roots.header.frames (all_in blocks roots)) (mapped_in blocks roots) held is in
    let split = split_of blocks roots held (few_pages roots count) opened.1 in
    let fine : first_faulty held.frames held.places ≡ None = subst (λ (map : Mapped). first_faulty map.frames map.places ≡ None) opened.1 opened.0 in
    record {
      first_page = sym (ap (λ (map : Mapped). map.first_page) opened.1);
      pages = omega (arith, split_long blocks (root_places roots) roots.header.pages held split);
      frames = sym (ap (λ (map : Mapped). map.frames) opened.1);
      blocks = split_blocks blocks (root_places roots) roots.header.pages held split;
      apart = fine_apart held.frames held.places fine;
      below = fine_below held.frames held.places fine;
    }

pub plans_keep_the_map_blocks : PlansKeepTheMapBlocks
plans_keep_the_map_blocks blocks image roots new held plan changes written =
    let shown = has_levels blocks image roots new held plan changes written in
    let whole = opened_maps_are_whole blocks roots held written.map_blocks written.opened in
    shown.first ∙ whole.first_page
