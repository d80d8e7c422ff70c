use Rattle.std.specs.Prelude.{ℕ, ◌*◌, ◌||◌, Bool, false, nat_le, List, [], ◌∷◌, ◌++◌, length, take, map, slice_index, slice_index_or, Option, None, Some, Result, Ok, Err, option_map, ◌≡◌, refl}
use Rattle.std.specs.List.{find, range_with_len}
use Rattle.casper_root.specs.declared.fault.OpenFault.{OpenFault}
use Rattle.casper_root.specs.declared.fault.OpenFault.TheVariants as fault
use Rattle.casper_map.specs.Levels.{Reader, Opened, names, passed, joined, array_of}
use Rattle.casper_map.specs.Numbers.{number_of}

-- the frame at a place, where it has one
abbrev pub frame_at : List (Option ℕ) → ℕ → Option ℕ
frame_at places at = slice_index_or places at None

-- beside these places a frame is faulty: it is out of range, or one of them has it
abbrev pub is_faulty_beside : ℕ → List (Option ℕ) → Option ℕ → Bool
is_faulty_beside frames places None = false
is_faulty_beside frames places (Some frame) = nat_le frames frame || names places frame

-- a place is faulty: its frame is out of range, or an earlier place has it
abbrev pub is_faulty : ℕ → List (Option ℕ) → ℕ → Bool
is_faulty frames places at = is_faulty_beside frames (take at places) (frame_at places at)

-- the first faulty place
abbrev pub first_faulty : ℕ → List (Option ℕ) → Option ℕ
first_faulty frames places = find (is_faulty frames places) (range_with_len 0 (length places))

-- the first page under each of so many places, where each stands for so many pages
abbrev pub first_pages : ℕ → ℕ → List ℕ
first_pages each count = map (λ place. each * place) (range_with_len 0 count)

-- the first page under each place of all levels
abbrev pub pages_under : List ℕ → List (List (Option ℕ)) → List ℕ
pages_under [] levels = []
pages_under (each ∷ eaches) [] = []
pages_under (each ∷ eaches) (places ∷ levels) = first_pages each (length places) ++ pages_under eaches levels

-- the refusal at a place
abbrev pub bad_map : List ℕ → List (Option ℕ) → ℕ → OpenFault
bad_map pages places at = fault.BadMap (slice_index pages at) (number_of (frame_at places at))

-- the refusal of these levels, where a place is faulty
abbrev pub bad_levels : List ℕ → ℕ → List (List (Option ℕ)) → Option OpenFault
bad_levels eaches frames levels = option_map (bad_map (pages_under eaches levels) (joined levels)) (first_faulty frames (joined levels))

-- what was found, but for a refusal
abbrev pub refused : {T : Type 0} → Option OpenFault → T → Result T OpenFault
refused None found = Ok found
refused (Some refusal) found = Err refusal

-- what the blocks open to below these places: the frames of all levels and the pages, or the first faulty frame number
abbrev pub opened_array : Reader → List (List ℕ) → List ℕ → List ℕ → ℕ → List (Option ℕ) → Result Opened OpenFault
opened_array reader blocks eaches counts frames places =
    refused (bad_levels eaches frames (passed reader blocks counts places)) (array_of reader blocks counts places)

-- of two map blocks and three pages, the third page has the frame of the first
faulty_twice : bad_levels (2 ∷ 1 ∷ []) 9 ((Some 4 ∷ None ∷ []) ∷ (Some 2 ∷ None ∷ Some 2 ∷ []) ∷ []) ≡ Some (fault.BadMap 2 2)
faulty_twice = refl

-- a frame number equal to the count of frames is out of range
faulty_past : bad_levels (1024 ∷ 1 ∷ []) 9 ((None ∷ Some 9 ∷ []) ∷ (Some 2 ∷ Some 2 ∷ []) ∷ []) ≡ Some (fault.BadMap 1024 9)
faulty_past = refl

-- a map block that names its own frame
faulty_own : bad_levels (1024 ∷ 1 ∷ []) 9 ((Some 3 ∷ []) ∷ (None ∷ Some 3 ∷ []) ∷ []) ≡ Some (fault.BadMap 1 3)
faulty_own = refl
