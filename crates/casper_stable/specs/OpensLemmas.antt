use Rattle.std.proofs.Common.{◌≡◌, ◌∙◌, ◌+◌, ◌-◌, ℕ, Bool, true, false, List, [], ◌∷◌, length, take, map, refl, sym, ap, subst, arith, get_or}
use Rattle.std.specs.Prelude.{All, Option, None, Result, Ok, not, nat_le, nat_lt}
use Rattle.std.proofs.lemmas.Bool.{and_left, and_right, lt-leb, ltb-false, or_parts, or_from}
use Rattle.std.proofs.lemmas.List.{drop_at, take-append-drop}
use Rattle.casper_disk.specs.Disk.{AgreesBut}
use Rattle.casper_space.specs.Changes.{Change, with_changes, pages_of}
use Rattle.casper_words.specs.BlockWords.{words_of_block}
use Rattle.casper_root.specs.Fitting.{AreSizes}
use Rattle.casper_root.specs.Format.{body_block, map_blocks_of}
use Rattle.casper_root.specs.Opening.{opened}
use Rattle.casper_root.specs.Slots.{other_slot}
use Rattle.casper_root.specs.Spare.{IsNext, succeeded_by, with_spare}
use Rattle.casper_root.specs.declared.fault.OpenFault.{OpenFault}
use Rattle.casper_root.specs.declared.roots.Roots.{Roots}
use Rattle.casper_commit.specs.Root.{has_open_gate}
use Rattle.casper_commit.specs.States.{AreFrames, OpensTo, is_of_roots, none_free, next_root}
use Rattle.casper_commit.specs.States.{besides as beside_roots}
use Rattle.casper_commit.proofs.OpenedLemmas.{opened_still, opened_next}
use Rattle.casper_map.specs.Faulty.{first_faulty, bad_map, bad_levels, pages_under, refused}
use Rattle.casper_map.specs.Levels.{Opened, array_of, block_in, level, names, one_reader, page_in, passed, joined}
use Rattle.casper_map.specs.MapLaws.{besides}
use Rattle.casper_map.specs.Mapped.{Mapped, page_frames}
use Rattle.casper_map.specs.Numbers.{block_of_numbers}
use Rattle.casper_map.specs.PlanLaws.{IsWritten, opened_with}
use Rattle.casper_map.specs.Planned.{Planned, IsPlan, moved, with_plan, block_numbers}
use Rattle.casper_map.specs.Reading.{mapped_in, levels_of, root_places, opened_map, opened_pages}
use Rattle.casper_map.proofs.FreeLemmas.{named_frames_stay}
use Rattle.casper_map.proofs.OpenedLemmas.{all_in, maps_long}
use Rattle.casper_map.proofs.OpensLemmas.{fine_found, not_refused, plans_open}
use Rattle.casper_map.proofs.PagesLemmas.{plans_change_pages}
use Rattle.casper_map.proofs.StandLemmas.{Same, names_back, pages_stand, passed_stand}
use Rattle.casper_stable.specs.Opens.{Store, opens, store_of, store_with, store_at, pages_in}
use Rattle.casper_stable.specs.Kept.{next_body, change_written, changes_written}
use Rattle.casper_stable.specs.Sound.{OpensToMap, free_blocks, root_of}

-- what may differ beside the roots may differ beside all fixed blocks
pub agrees_frames : (free : ℕ → Bool) (base image : List (List ℕ)) → AgreesBut (beside_roots free) base image
    → AgreesBut (besides free) base image
agrees_frames free base image agrees = record {
  count = agrees.count;
  same = λ at fixed.
      let parts = or_parts (nat_lt at 5) (free at) fixed in
      agrees.same at (or_from (is_of_roots at) (free at) (behind at parts.0) parts.1);
}
  where
    behind : (at : ℕ) → nat_lt at 5 ≡ false → is_of_roots at ≡ false
    behind at late = and_right (nat_le 1 at) (nat_le at 4) (lt-leb at 4 (ltb-false at 5 late))

-- the root names no fixed block
pub free_are_frames : (base : List (List ℕ)) (roots : Roots) → AreFrames (free_blocks base roots)
free_are_frames base roots at fixed =
    and_left (nat_le 5 at) (not (names (joined (passed one_reader base (roots.header.pages ∷ []) (root_places roots))) (at - 5)))
    (lt-leb 5 at fixed)

-- what a map was found to be
pub map_found : (blocks : List (List ℕ)) (roots : Roots) (held : Mapped) → opened_map blocks roots ≡ Ok held
    → (first_faulty roots.header.frames (all_in blocks roots) ≡ None) × (mapped_in blocks roots ≡ held)
map_found blocks roots held is =
    fine_found (bad_map (pages_under (1024 ∷ 1 ∷ []) (levels_of blocks roots)) (all_in blocks roots)) (first_faulty roots.header.frames
    (all_in blocks roots)) (mapped_in blocks roots) held is

-- the pages of a map are those after its map blocks
pub frames_behind : (blocks : List (List ℕ)) (roots : Roots) (held : Mapped) → mapped_in blocks roots ≡ held
    → page_frames held ≡ take roots.header.pages (level one_reader blocks (root_places roots))
frames_behind blocks roots held is =
    let behind = take roots.header.pages (level one_reader blocks (root_places roots)) in
    subst (λ (map : Mapped). page_frames map ≡ behind) is (drop_at (root_places roots) behind (length roots.body.maps) (maps_long roots))

-- the map and the pages of blocks stand while only free frames change
pub map_stands : (base image : List (List ℕ)) (roots : Roots) (held : Mapped) → opened_map base roots ≡ Ok held
    → AgreesBut (beside_roots (free_blocks base roots)) base image
    → (opened_map image roots ≡ Ok held) × (pages_in image held ≡ pages_in base held)
map_stands base image roots held is agrees =
    let found = map_found base roots held is in
    let named : Same base image held.places =
    λ frame there. named_frames_stay base image roots held frame is (agrees_frames (free_blocks base roots) base image agrees) there in
    let all : Same base image (all_in base roots) =
    λ frame there. named frame (subst (λ (map : Mapped). names map.places frame ≡ true) found.1 there) in
    let levels = (passed_stand one_reader base image (roots.header.pages ∷ []) (root_places roots) all).0 in
    let answer : List (List (Option ℕ)) → Result Mapped OpenFault = λ list.
    refused (bad_levels (1024 ∷ 1 ∷ []) roots.header.frames list)
    (record { first_page = length roots.body.maps; places = joined list; frames = roots.header.frames }) in
    let of_pages : Same base image (page_frames held) =
    λ frame there. named frame (subst (λ list. names list frame ≡ true) (take-append-drop held.first_page held.places) (names_back
    (take held.first_page held.places) (page_frames held) frame there)) in
    (ap answer levels ∙ is, pages_stand one_reader base image (page_frames held) of_pages)

-- blocks whose root and map are known
pub opens_by : (blocks : List (List ℕ)) (roots : Roots) (held : Mapped) → opened blocks ≡ Ok roots → opened_map blocks roots ≡ Ok held
    → opens blocks ≡ Ok (store_of blocks roots held)
opens_by blocks roots held is map = ap (store_at blocks) is ∙ ap (store_with blocks roots) map

-- an image that opens to the old root
pub opens_old : (base image : List (List ℕ)) (roots : Roots) (held : Mapped) → OpensToMap base roots held
    → OpensTo (root_of base roots) (free_blocks base roots) base image
    → opens image ≡ Ok (store_of base roots held)
opens_old base image roots held is to =
    let spare = with_spare is.spare roots in
    let gate = not (has_open_gate image (other_slot roots.slot)) in
    let stands = map_stands base image roots held is.map to.same in
    let answer : List (List ℕ)
    → Result Store OpenFault = λ pages. Ok
    (record { header = roots.header; saved = record { image = pages; version = roots.body.seq }; held = held }) in
    opens_by image (with_spare gate spare) held (opened_still base image spare (free_blocks base roots) is.opens
    (free_are_frames base roots) to) stands.0
    ∙ ap answer stands.1

-- the pages of blocks by the definition over all levels
pub pages_opened : (blocks : List (List ℕ)) (roots : Roots) (held : Mapped) → opened_map blocks roots ≡ Ok held
    → opened_pages blocks roots ≡ Ok (record { levels = levels_of blocks roots; pages = pages_in blocks held })
pages_opened blocks roots held is =
    let found = map_found blocks roots held is in
    let made : List (List ℕ) → Result Opened OpenFault = λ pages. Ok (record { levels = levels_of blocks roots; pages = pages }) in
    not_refused roots.header.frames (levels_of blocks roots) (array_of one_reader blocks (roots.header.pages ∷ [])
    (root_places roots)) found.0
    ∙ ap (λ (list : List (Option ℕ)). made (map (page_in one_reader blocks) list)) (sym (frames_behind blocks roots held found.1))

-- the pages of changes that were written are those of the plan
pub changes_pages : (blocks : List (List ℕ)) (moves : List (ℕ × ℕ))
    → pages_of (map (change_written blocks) moves) ≡ moved moves
changes_pages blocks [] = refl
changes_pages blocks (move ∷ moves) = ap (λ rest. move.0 ∷ rest) (changes_pages blocks moves)

-- and their words those of its frames
pub changes_words : (blocks : List (List ℕ)) (moves : List (ℕ × ℕ))
    → map (λ (change : Change). change.words) (map (change_written blocks) moves)
    ≡ map (λ (move : ℕ × ℕ). words_of_block (block_in blocks move.1)) moves
changes_words blocks [] = refl
changes_words blocks (move ∷ moves) = ap (λ rest. words_of_block (block_in blocks move.1) ∷ rest) (changes_words blocks moves)

-- frames stand where only the two roots change
pub frame_stands : (blocks image : List (List ℕ)) (frame : ℕ) → AgreesBut (beside_roots none_free) blocks image
    → block_in image frame ≡ block_in blocks frame
frame_stands blocks image frame agrees = agrees.same (5 + frame) (or_from (is_of_roots (5 + frame)) false (and_right (nat_le 1
    (5 + frame)) (nat_le (5 + frame) 4) (lt-leb (5 + frame) 4 (omega arith))) refl)

-- and the changes in them
changes_stand : (blocks image : List (List ℕ)) (moves : List (ℕ × ℕ)) → AgreesBut (beside_roots none_free) blocks image
    → map (change_written image) moves
    ≡ map (change_written blocks) moves
changes_stand blocks image [] agrees = refl
changes_stand blocks image (move ∷ moves) agrees =
    let head : List ℕ → Change = λ words. record { page = move.0; words = words_of_block words } in
    let rest = map (change_written blocks) moves in
    ap (λ list. head (block_in image move.1) ∷ list) (changes_stand blocks image moves agrees)
    ∙ ap (λ words. head words ∷ rest) (frame_stands blocks image move.1 agrees)

pub written_stand : (blocks image : List (List ℕ)) (plan : Planned) → AgreesBut (beside_roots none_free) blocks image
    → changes_written image plan ≡ changes_written blocks plan
written_stand blocks image plan agrees = changes_stand blocks image plan.pages agrees

-- what beside free frames and then beside none agrees, agrees beside free frames
pub agrees_then : (free : ℕ → Bool) (base framed image : List (List ℕ)) → AgreesBut (beside_roots free) base framed
    → AgreesBut (beside_roots none_free) framed image
    → AgreesBut (beside_roots free) base image
agrees_then free base framed image first second = record {
  count = second.count ∙ first.count;
  same = λ at fixed.
      let parts = or_parts (is_of_roots at) (free at) fixed in
      second.same at (or_from (is_of_roots at) false parts.0 refl) ∙ first.same at fixed;
}

-- the blocks hold the new map blocks of a plan
abbrev pub HoldMaps : List (List ℕ) → Mapped → Planned → Type 0
HoldMaps blocks held plan = All (λ move. block_in blocks move.1 ≡ block_of_numbers (block_numbers (with_plan plan held) move.0)) plan.maps

-- the store after a plan, with the words that these blocks have in its new frames
abbrev pub next_store : List (List ℕ) → List (List ℕ) → Roots → Mapped → Planned → Store
next_store base framed roots held plan = record {
  header = roots.header;
  saved = record { image = with_changes (pages_in base held) (changes_written framed plan); version = roots.body.seq + 1 };
  held = with_plan plan held;
}

ok_pages : (one other : Opened) → ◌≡◌ {A = Result Opened OpenFault} (Ok one) (Ok other) → one ≡ other
ok_pages one other is = cc

-- an image that opens to the next root, beside frames with a plan
pub record OpensToNext (base framed image : List (List ℕ)) (roots : Roots) (held : Mapped) (plan : Planned) : Type 0 where
  pub to_map : OpensToMap image (succeeded_by (next_body roots.body held plan) roots) (with_plan plan held)
  pub pages : pages_in image (with_plan plan held) ≡ with_changes (pages_in base held) (changes_written framed plan)

pub opens_to_next : (base framed image : List (List ℕ)) (roots : Roots) (held : Mapped) (plan : Planned) → OpensToMap base roots held
    → AreSizes roots.header → length roots.body.maps ≡ map_blocks_of roots.header.pages → IsPlan held plan
    → IsNext roots.header roots.body.seq (next_body roots.body held plan)
    → AgreesBut (beside_roots (free_blocks base roots)) base framed → HoldMaps framed held plan
    → OpensTo (next_root roots.slot (body_block (next_body roots.body held plan))) none_free framed image
    → OpensToNext base framed image roots held plan
opens_to_next base framed image roots held plan is sizes count planned next agrees maps to =
    let spare = with_spare is.spare roots in
    let body = next_body roots.body held plan in
    let after = with_plan plan held in
    let new = succeeded_by body roots in
    let changes = changes_written image plan in
    let frames = free_blocks base roots in
    let whole = agrees_then frames base framed image agrees to.same in
    let written : IsWritten base image roots new held plan changes = record {
      sizes = sizes;
      map_blocks = count;
      opened = is.map;
      planned = planned;
      pages = changes_pages image plan.pages;
      words = changes_words image plan.pages;
      maps = λ k d within. frame_stands framed image (get_or plan.maps k d).1 to.same ∙ maps k d within;
      others = λ frame there. named_frames_stay base image roots held frame is.map (agrees_frames frames base image whole) there;
      same_header = refl;
      root = refl;
    } in
    let map_new = plans_open base image roots new held plan changes written in
    let by_levels = pages_opened image new after map_new in
    let by_plan = plans_change_pages base image roots new held plan changes
    (record { levels = levels_of base roots; pages = pages_in base held }) written (pages_opened base roots held is.map) in
    let same : pages_in image after ≡ with_changes (pages_in base held) changes =
    ap (λ (opened : Opened). opened.pages)
    (ok_pages (record { levels = levels_of image new; pages = pages_in image after }) (opened_with after (with_changes
    (pages_in base held) changes)) (sym by_levels ∙ by_plan)) in
    record {
      to_map = record {
        spare = not (has_open_gate image roots.slot);
        opens = opened_next base framed image spare body frames is.opens (free_are_frames base roots) agrees next to;
        map = map_new;
      };
      pages = same ∙ ap (with_changes (pages_in base held)) (written_stand framed image plan to.same);
    }

-- what such an image opens to
pub opens_next : (base framed image : List (List ℕ)) (roots : Roots) (held : Mapped) (plan : Planned)
    → OpensToNext base framed image roots held plan
    → opens image ≡ Ok (next_store base framed roots held plan)
opens_next base framed image roots held plan is =
    let new = succeeded_by (next_body roots.body held plan) roots in
    let after = with_plan plan held in
    let answer : List (List ℕ)
    → Result Store OpenFault = λ pages. Ok
    (record { header = roots.header; saved = record { image = pages; version = roots.body.seq + 1 }; held = after }) in
    opens_by image (with_spare is.to_map.spare new) after is.to_map.opens is.to_map.map ∙ ap answer is.pages
