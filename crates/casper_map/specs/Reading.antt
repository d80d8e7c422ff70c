use Rattle.std.specs.Prelude.{◌≡◌, ◌⊎◌, ℕ, ◌+◌, ◌-◌, ◌*◌, ◌<◌, ◌≤◌, false, List, [], ◌∷◌, ◌++◌, length, map, take, slice_index, replicate, min, MatchResult, Option, None, Some, Result}
use Rattle.casper_root.specs.declared.fault.OpenFault.{OpenFault}
use Rattle.casper_root.specs.declared.fault.OpenFault.TheVariants as fault
use Rattle.casper_root.specs.declared.roots.Roots.{Roots}
use Rattle.casper_map.specs.Faulty.{frame_at, is_faulty, first_faulty, bad_levels, refused, opened_array}
use Rattle.casper_map.specs.Levels.{Opened, passed, joined, level, one_reader}
use Rattle.casper_map.specs.Mapped.{Mapped}
use Rattle.casper_map.specs.Numbers.{frame_in, number_of}

-- the frames of the map blocks of a root
abbrev pub root_places : Roots → List (Option ℕ)
root_places roots = map frame_in roots.body.maps

-- the two levels of a store of format 1: the map blocks and the pages
abbrev pub levels_of : List (List ℕ) → Roots → List (List (Option ℕ))
levels_of blocks roots = passed one_reader blocks (roots.header.pages ∷ []) (root_places roots)

-- the shadow map of the blocks of a root
abbrev pub mapped_in : List (List ℕ) → Roots → Mapped
mapped_in blocks roots = record {
  first_page = length roots.body.maps;
  places = joined (levels_of blocks roots);
  frames = roots.header.frames;
}

-- the shadow map that the blocks of a root open to, or the first faulty frame number
abbrev pub opened_map : List (List ℕ) → Roots → Result Mapped OpenFault
opened_map blocks roots = refused (bad_levels (1024 ∷ 1 ∷ []) roots.header.frames (levels_of blocks roots)) (mapped_in blocks roots)

-- the pages that the blocks of a root open to, or the first faulty frame number
abbrev pub opened_pages : List (List ℕ) → Roots → Result Opened OpenFault
opened_pages blocks roots = opened_array one_reader blocks (1024 ∷ 1 ∷ []) (roots.header.pages ∷ []) roots.header.frames (root_places roots)

-- from a place on the map has no frame
abbrev pub HasNoneFrom : ℕ → Mapped → Type 0
HasNoneFrom place held = (at : ℕ) → place ≤ at → frame_at held.places at ≡ None

-- of the places up to one, the map has the frames and none is faulty
pub record IsRead (upto : ℕ) (all : List (Option ℕ)) (held : Mapped) : Type 0 where
  pub count : length held.places ≡ length all
  pub known : (at : ℕ) → at < upto → frame_at held.places at ≡ frame_at all at
  pub sound : (at : ℕ) → at < upto → is_faulty held.frames all at ≡ false

-- the fault names the first faulty place, which is among some, and whose first page is found from the place and the page where the reading began
pub record IsFirstBad (frames : ℕ) (all : List (Option ℕ)) (place upto page each : ℕ) (refusal : OpenFault) : Type 0 where
  pub at : ℕ
  pub behind : place ≤ at
  pub early : at < upto
  pub within : at < length all
  pub first : first_faulty frames all ≡ Some at
  pub is : refusal ≡ fault.BadMap (page + each * (at - place)) (number_of (frame_at all at))

-- these numbers stand from a place on
abbrev pub StandAt : ℕ → List ℕ → List (Option ℕ) → Type 0
StandAt place numbers all = (k : ℕ) → k < length numbers → frame_at all (place + k) ≡ frame_in (slice_index numbers k)

-- a map in which nothing has a frame
abbrev pub unmapped : ℕ → ℕ → ℕ → Mapped
unmapped blocks pages frames = record { first_page = blocks; places = replicate (blocks + pages) None; frames = frames }

-- the first place after the pages of a map block
abbrev pub end_of_block : ℕ → Mapped → ℕ
end_of_block number held = held.first_page + min (1024 * (number + 1)) (length held.places - held.first_page)

-- what reading a map block gives: its pages have their frames then, or the disk failed, or the fault names the first faulty place
abbrev pub ReadsBlock : {T : Type 0} → List (List ℕ) → ℕ → List (Option ℕ) → Mapped → Mapped → Result T OpenFault → Type 0
ReadsBlock blocks number maps old new answer =
    let pages = length old.places - old.first_page in
    let all = maps ++ take pages (level one_reader blocks maps) in
    length maps ≡ old.first_page → IsRead (old.first_page + 1024 * number) all old
    → MatchResult answer (λ _. IsRead (end_of_block number old) all new)
    (λ refusal. (refusal ≡ fault.Disk) ⊎ IsFirstBad old.frames all old.first_page (length all) 0 1 refusal)

-- a map has the same sizes as another
pub record HasSizesOf (old new : Mapped) : Type 0 where
  pub first_page : new.first_page ≡ old.first_page
  pub places : length new.places ≡ length old.places
  pub frames : new.frames ≡ old.frames
