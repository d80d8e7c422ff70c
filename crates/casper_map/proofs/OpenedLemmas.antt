use Rattle.std.proofs.Common.{◌≡◌, ℕ, ◌+◌, ◌-◌, ◌*◌, ◌<◌, ◌≤◌, List, [], ◌∷◌, ◌++◌, length, take, get_or, refl, sym, ◌∙◌, ap, subst, inl, inr, arith}
use Rattle.std.specs.Prelude.{Bool, Option, Some, None, Result, Ok, Err, option_map, IsErrAnd}
use Rattle.casper_root.specs.Reading.{IsOnlyRead}
use Rattle.std.proofs.lemmas.List.{length-map, length-take, length-append, length-replicate, get_or-map, get_or_append_left, get_or-append-add}
use Rattle.std.proofs.lemmas.List.FromFn.{length-map-range_with_len, get_or-map-range_with_len}
use Rattle.casper_root.specs.Refusal.{Answers}
use Rattle.casper_root.specs.declared.fault.OpenFault.{OpenFault}
use Rattle.casper_root.specs.declared.fault.OpenFault.TheVariants as fault
use Rattle.casper_root.specs.declared.roots.Roots.{Roots}
use Rattle.casper_map.specs.Faulty.{frame_at, first_faulty, first_pages, pages_under, bad_map, refused}
use Rattle.casper_map.specs.Levels.{level, one_reader, joined}
use Rattle.casper_map.specs.Mapped.{Mapped}
use Rattle.casper_map.specs.Numbers.{frame_in, number_of}
use Rattle.casper_map.specs.Reading.{IsRead, IsFirstBad, StandAt, root_places, levels_of, mapped_in, opened_map, unmapped}
use Rattle.casper_map.proofs.LevelLemmas.{level_long, map_at}
use Rattle.casper_map.proofs.ReadLemmas.{read_all, read_places}

-- the pages' places of the blocks of a root
abbrev pages_in : List (List ℕ) → Roots → List (Option ℕ)
pages_in blocks roots = take roots.header.pages (level one_reader blocks (root_places roots))

-- all places of the blocks of a root
abbrev pub all_in : List (List ℕ) → Roots → List (Option ℕ)
all_in blocks roots = joined (levels_of blocks roots)

pub maps_long : (roots : Roots) → length (root_places roots) ≡ length roots.body.maps
maps_long roots = length-map roots.body.maps frame_in

pub all_long : (blocks : List (List ℕ)) (roots : Roots) → roots.header.pages ≤ 1024 * length roots.body.maps → length (all_in blocks roots) ≡ length roots.body.maps + roots.header.pages
all_long blocks roots few =
    let behind = length-take roots.header.pages (level one_reader blocks (root_places roots)) in
    omega (arith, few, length-append (root_places roots) (pages_in blocks roots), behind, level_long blocks (root_places roots), maps_long roots)

-- with all read the map is the one that the blocks open to
pub opened_fully : (blocks : List (List ℕ)) (roots : Roots) (held : Mapped) → IsRead (length (all_in blocks roots)) (all_in blocks roots) held
    → held.first_page ≡ length roots.body.maps → held.frames ≡ roots.header.frames → Ok held ≡ opened_map blocks roots
opened_fully blocks roots held read first frames =
    let all = all_in blocks roots in
    let none : first_faulty roots.header.frames all ≡ None = subst (λ (count : ℕ). first_faulty count all ≡ None) frames (read_all all held read) in
    let made : ℕ → List (Option ℕ) → ℕ → Mapped = λ f list count. record { first_page = f; places = list; frames = count } in
    let same : held ≡ mapped_in blocks roots =
    ap (λ (f : ℕ). made f held.places held.frames) first ∙ ap (λ (list : List (Option ℕ)). made (length roots.body.maps) list held.frames) (read_places all held read)
    ∙ ap (λ (count : ℕ). made (length roots.body.maps) all count) frames in
    ap (λ (map : Mapped). Ok map) same
    ∙ sym (ap (λ (place : Option ℕ). refused (option_map (bad_map (pages_under (1024 ∷ 1 ∷ []) (levels_of blocks roots)) all) place) (mapped_in blocks roots)) none)

-- the refusal at the first faulty place
opened_bad : (blocks : List (List ℕ)) (roots : Roots) (at page : ℕ) (refusal : OpenFault) → first_faulty roots.header.frames (all_in blocks roots) ≡ Some at
    → get_or (pages_under (1024 ∷ 1 ∷ []) (levels_of blocks roots)) at 0 ≡ page → refusal ≡ fault.BadMap page (number_of (frame_at (all_in blocks roots) at))
    → Err refusal ≡ opened_map blocks roots
opened_bad blocks roots at page refusal first page_is is =
    let all = all_in blocks roots in
    let pages = pages_under (1024 ∷ 1 ∷ []) (levels_of blocks roots) in
    ap (λ (why : OpenFault). Err why) (is ∙ ap (λ (p : ℕ). fault.BadMap p (number_of (frame_at all at))) (sym page_is))
    ∙ sym (ap (λ (place : Option ℕ). refused (option_map (bad_map pages all) place) (mapped_in blocks roots)) first)

pub bad_in_maps : (blocks : List (List ℕ)) (roots : Roots) (refusal : OpenFault) → IsFirstBad roots.header.frames (all_in blocks roots) 0 (0 + length roots.body.maps) 0 1024 refusal
    → Err refusal ≡ opened_map blocks roots
bad_in_maps blocks roots refusal bad =
    let at = bad.at in
    let early = bad.early in
    let n = length (root_places roots) in
    let within : at < n = omega (arith, early, maps_long roots) in
    let behind = first_pages 1 (length (pages_in blocks roots)) ++ [] in
    let page : get_or (first_pages 1024 n ++ behind) at 0 ≡ 1024 * at =
    get_or_append_left (first_pages 1024 n) behind 0 at (omega (arith, within, length-map-range_with_len (λ place. 1024 * place) 0 n))
    ∙ get_or-map-range_with_len (λ place. 1024 * place) 0 n at at 0 within (omega arith) in
    let e : 0 + 1024 * (at - 0) ≡ 1024 * at = omega arith in
    opened_bad blocks roots at (1024 * at) refusal bad.first page (bad.is ∙ ap (λ (p : ℕ). fault.BadMap p (number_of (frame_at (all_in blocks roots) at))) e)

pub bad_in_pages : (blocks : List (List ℕ)) (roots : Roots) (first : ℕ) (refusal : OpenFault) → first ≡ length roots.body.maps
    → IsFirstBad roots.header.frames (all_in blocks roots) first (length (all_in blocks roots)) 0 1 refusal → Err refusal ≡ opened_map blocks roots
bad_in_pages blocks roots first refusal is_first bad =
    let at = bad.at in
    let behind_first = bad.behind in
    let within = bad.within in
    let n = length (root_places roots) in
    let m = length (pages_in blocks roots) in
    let i = at - n in
    let e : at ≡ n + i = omega (arith, behind_first, is_first, maps_long roots) in
    let inside : i < m = omega (arith, within, e, length-append (root_places roots) (pages_in blocks roots)) in
    let front = first_pages 1024 n in
    let front_long : length front ≡ n = length-map-range_with_len (λ place. 1024 * place) 0 n in
    let e_front : at ≡ length front + i = omega (arith, e, front_long) in
    let page : get_or (front ++ (first_pages 1 m ++ [])) at 0 ≡ 1 * i =
    ap (λ (k : ℕ). get_or (front ++ (first_pages 1 m ++ [])) k 0) e_front ∙ get_or-append-add front (first_pages 1 m ++ []) i 0
    ∙ get_or_append_left (first_pages 1 m) [] 0 i (omega (arith, inside, length-map-range_with_len (λ place. 1 * place) 0 m))
    ∙ get_or-map-range_with_len (λ place. 1 * place) 0 m i i 0 inside (omega arith) in
    let same : 0 + 1 * (at - first) ≡ 1 * i = omega (arith, is_first, maps_long roots) in
    opened_bad blocks roots at (1 * i) refusal bad.first page (bad.is ∙ ap (λ (p : ℕ). fault.BadMap p (number_of (frame_at (all_in blocks roots) at))) same)

-- before anything was read
pub unread_map : (blocks : List (List ℕ)) (roots : Roots) (held : Mapped) → roots.header.pages ≤ 1024 * length roots.body.maps
    → held ≡ unmapped (length roots.body.maps) roots.header.pages roots.header.frames → IsRead 0 (all_in blocks roots) held
unread_map blocks roots held few is = record {
  count = ap (λ (map : Mapped). length map.places) is ∙ length-replicate {A = Option ℕ} (length roots.body.maps + roots.header.pages) None ∙ sym (all_long blocks roots few);
  known = λ at low. absurd (omega (arith, low));
  sound = λ at low. absurd (omega (arith, low));
}

-- the numbers of the root stand first
pub root_stands : (blocks : List (List ℕ)) (roots : Roots) → StandAt 0 roots.body.maps (all_in blocks roots)
root_stands blocks roots k low =
    let e : 0 + k ≡ k = omega arith in
    ap (frame_at (all_in blocks roots)) e ∙ map_at (root_places roots) (pages_in blocks roots) (length (root_places roots)) k refl (omega (arith, low, maps_long roots))
    ∙ get_or-map frame_in roots.body.maps k 0 None low

pub of_disk : {T : Type 0} (answer expected : Result T OpenFault) → answer ≡ Err fault.Disk → Answers answer expected
of_disk answer expected is = inr (inl is)

pub as_opened : {T : Type 0} (answer expected : Result T OpenFault) → answer ≡ expected → Answers answer expected
as_opened answer expected is = inl is

pub handed_to : {T : Type 0} (result : Result T OpenFault) (why : OpenFault) → IsErrAnd result (λ given. given ≡ why) → result ≡ Err why
handed_to (Ok found) why held = absurd held
handed_to (Err given) why held = ap (λ (e : OpenFault). Err e) held

-- nothing was read, and reading goes on
pub only_same : {D : Type 0} (content : D → List (List ℕ)) (loose : D → ℕ → Bool) (moment : D → ℕ) (images_since : D → ℕ → List (List ℕ) → Type 0) (disk : D)
    → IsOnlyRead content loose moment images_since disk disk
only_same content loose moment images_since disk = record {
  same_content = refl;
  within_loose = λ at out. out;
  images = record { moment = refl; only = λ at image since. since; keeps = λ at image since. since };
}

pub only_then : {D : Type 0} (content : D → List (List ℕ)) (loose : D → ℕ → Bool) (moment : D → ℕ) (images_since : D → ℕ → List (List ℕ) → Type 0) (old mid new : D)
    → IsOnlyRead content loose moment images_since old mid → IsOnlyRead content loose moment images_since mid new → IsOnlyRead content loose moment images_since old new
only_then content loose moment images_since old mid new one two = record {
  same_content = two.same_content ∙ one.same_content;
  within_loose = λ at out. two.within_loose at (one.within_loose at out);
  images = record {
    moment = two.images.moment ∙ one.images.moment;
    only = λ at image since. one.images.only at image (two.images.only at image since);
    keeps = λ at image since. two.images.keeps at image (one.images.keeps at image since);
  };
}

-- all places, with the count of the pages and the blocks as variables
abbrev pub places_with : Roots → ℕ → List (List ℕ) → List (Option ℕ)
places_with roots pages blocks = root_places roots ++ take pages (level one_reader blocks (root_places roots))
