use Rattle.std.proofs.Common.{◌≡◌, ℕ, zero, suc, ◌+◌, ◌-◌, ◌*◌, ◌<◌, ◌≤◌, List, [], ◌∷◌, ◌++◌, length, take, get_or, refl, sym, ◌∙◌, ap, subst, ⊎_elim, inr, arith}
use Rattle.std.specs.Prelude.{◌⊎◌, Option, Some, None, min, Result, Ok, Err, MatchResult}
use Rattle.std.proofs.lemmas.Bool.{cases_lt}
use Rattle.std.proofs.lemmas.List.{length-map, length-replicate, get_or-map, get_or-replicate, get_or_append_left, get_or-append-add, get_or-take, length-append, length-take}
use Rattle.casper_root.specs.declared.fault.OpenFault.{OpenFault}
use Rattle.casper_root.specs.declared.fault.OpenFault.TheVariants as fault
use Rattle.casper_map.specs.Faulty.{frame_at, is_faulty_beside}
use Rattle.casper_map.specs.Levels.{level, entries_in, block_in, one_reader}
use Rattle.casper_map.specs.Mapped.{Mapped}
use Rattle.casper_map.specs.Numbers.{frame_in, number_of, numbers_of_block}
use Rattle.casper_map.specs.Reading.{IsRead, HasNoneFrom, IsFirstBad, StandAt, end_of_block}
use Rattle.casper_map.proofs.ByteLemmas.{numbers_long}

pub entries_long : (blocks : List (List ℕ)) (place : Option ℕ) → length (entries_in one_reader blocks place) ≡ 1024
entries_long blocks None = length-replicate {A = Option ℕ} 1024 None
entries_long blocks (Some frame) = length-map (numbers_of_block (block_in blocks frame)) frame_in ∙ numbers_long (block_in blocks frame)

-- what stands in a level is an entry of one of its map blocks
pub level_at : (blocks : List (List ℕ)) (maps : List (Option ℕ)) (number i : ℕ) → number < length maps → i < 1024
    → frame_at (level one_reader blocks maps) (1024 * number + i) ≡ frame_at (entries_in one_reader blocks (frame_at maps number)) i
level_at blocks [] number i within low = absurd (omega (arith, within))
level_at blocks (place ∷ maps) zero i within low =
    let entries = entries_in one_reader blocks place in
    let e : 1024 * 0 + i ≡ i = omega arith in
    ap (frame_at (entries ++ level one_reader blocks maps)) e ∙ get_or_append_left entries (level one_reader blocks maps) None i (omega (arith, entries_long blocks place, low))
level_at blocks (place ∷ maps) (suc number) i within low =
    let entries = entries_in one_reader blocks place in
    let e : 1024 * suc number + i ≡ length entries + (1024 * number + i) = omega (arith, entries_long blocks place) in
    ap (frame_at (entries ++ level one_reader blocks maps)) e ∙ get_or-append-add entries (level one_reader blocks maps) (1024 * number + i) None
    ∙ level_at blocks maps number i (omega arith) low

-- and so does what stands after the map blocks
pub entry_at : (blocks : List (List ℕ)) (maps : List (Option ℕ)) (first pages number i : ℕ) → length maps ≡ first → number < first → i < 1024 → 1024 * number + i < pages
    → frame_at (maps ++ take pages (level one_reader blocks maps)) (first + 1024 * number + i) ≡ frame_at (entries_in one_reader blocks (frame_at maps number)) i
entry_at blocks maps first pages number i long within low inside =
    let behind = take pages (level one_reader blocks maps) in
    let e : first + 1024 * number + i ≡ length maps + (1024 * number + i) = omega (arith, long) in
    ap (frame_at (maps ++ behind)) e ∙ get_or-append-add maps behind (1024 * number + i) None ∙ get_or-take pages (level one_reader blocks maps) (1024 * number + i) None inside
    ∙ level_at blocks maps number i (omega (arith, long, within)) low

-- the place of a map block in all places
pub map_at : (maps behind : List (Option ℕ)) (first number : ℕ) → length maps ≡ first → number < first → frame_at (maps ++ behind) number ≡ frame_at maps number
map_at maps behind first number long within = get_or_append_left maps behind None number (omega (arith, long, within))

-- the numbers of a map block that was read stand in their places
pub block_stands : (blocks : List (List ℕ)) (maps : List (Option ℕ)) (first pages number frame count : ℕ) (numbers : List ℕ) → length maps ≡ first → number < first
    → frame_at maps number ≡ Some frame → numbers ≡ take count (numbers_of_block (block_in blocks frame)) → count ≤ 1024 → 1024 * number + count ≤ pages
    → StandAt (first + 1024 * number) numbers (maps ++ take pages (level one_reader blocks maps))
block_stands blocks maps first pages number frame count numbers long within there is few inside k low =
    let all = numbers_of_block (block_in blocks frame) in
    let counted : length numbers ≡ min count (length all) = ap length is ∙ length-take count all in
    let below : k < count = omega (arith, low, counted) in
    let in_block : k < 1024 = omega arith in
    entry_at blocks maps first pages number k long within in_block (omega arith)
    ∙ ap (λ (place : Option ℕ). frame_at (entries_in one_reader blocks place) k) there
    ∙ get_or-map frame_in all k 0 None (omega (arith, numbers_long (block_in blocks frame)))
    ∙ ap frame_in (sym (ap (λ (list : List ℕ). get_or list k 0) is ∙ get_or-take count all k 0 below))

-- where a map block has no frame its pages have none
pub block_without : (blocks : List (List ℕ)) (maps : List (Option ℕ)) (first pages number : ℕ) (held : Mapped) → length maps ≡ first → number < first → first ≡ held.first_page
    → frame_at maps number ≡ None → pages ≡ length held.places - held.first_page → HasNoneFrom (first + 1024 * number) held
    → IsRead (first + 1024 * number) (maps ++ take pages (level one_reader blocks maps)) held → IsRead (end_of_block number held) (maps ++ take pages (level one_reader blocks maps)) held
block_without blocks maps first pages number held long within same there counted unread read =
    let all = maps ++ take pages (level one_reader blocks maps) in
    let none : (at : ℕ) → first + 1024 * number ≤ at → at < end_of_block number held → frame_at all at ≡ None =
    (λ at high low.
    let i = at - (first + 1024 * number) in
    let e : at ≡ first + 1024 * number + i = omega arith in
    let in_block : i < 1024 = omega (arith, low, same) in
    let inside : 1024 * number + i < pages = omega (arith, low, same, counted) in
    ap (frame_at all) e ∙ entry_at blocks maps first pages number i long within in_block inside
    ∙ ap (λ (place : Option ℕ). frame_at (entries_in one_reader blocks place) i) there ∙ get_or-replicate {A = Option ℕ} 1024 i None None in_block) in
    record {
      count = read.count;
      known = λ at low. ⊎_elim (λ before. read.known at before) (λ behind. unread at behind ∙ sym (none at behind low)) (cases_lt at (first + 1024 * number));
      sound = λ at low. ⊎_elim (λ before. read.sound at before)
          (λ behind. ap (is_faulty_beside held.frames (take at all)) (none at behind low)) (cases_lt at (first + 1024 * number));
    }

-- the first faulty place, counted from the first page
pub bad_from_first : (frames : ℕ) (all : List (Option ℕ)) (first number upto : ℕ) (refusal : OpenFault) → IsFirstBad frames all (first + 1024 * number) upto (1024 * number) 1 refusal
    → IsFirstBad frames all first (length all) 0 1 refusal
bad_from_first frames all first number upto refusal bad =
    let behind = bad.behind in
    let page : 1024 * number + 1 * (bad.at - (first + 1024 * number)) ≡ 0 + 1 * (bad.at - first) = omega arith in
    record {
      at = bad.at;
      behind = omega arith;
      early = bad.within;
      within = bad.within;
      first = bad.first;
      is = bad.is ∙ ap (λ (p : ℕ). fault.BadMap p (number_of (frame_at all bad.at))) page;
    }

-- what reading the places of a map block gave, said from the first page on
pub block_answer : (answer : Result (Unit {0}) OpenFault) (frames : ℕ) (all : List (Option ℕ)) (first number upto end : ℕ) (new : Mapped) → upto ≡ end
    → MatchResult answer (λ _. IsRead upto all new) (IsFirstBad frames all (first + 1024 * number) upto (1024 * number) 1)
    → MatchResult answer (λ _. IsRead end all new) (λ refusal. (refusal ≡ fault.Disk) ⊎ IsFirstBad frames all first (length all) 0 1 refusal)
block_answer (Ok done) frames all first number upto end new same read = subst (λ (k : ℕ). IsRead k all new) same read
block_answer (Err refusal) frames all first number upto end new same bad = inr (bad_from_first frames all first number upto refusal bad)

pub level_long : (blocks : List (List ℕ)) (maps : List (Option ℕ)) → length (level one_reader blocks maps) ≡ 1024 * length maps
level_long blocks [] = refl
level_long blocks (place ∷ maps) =
    let entries = entries_in one_reader blocks place in
    let both = length-append entries (level one_reader blocks maps) in
    both ∙ omega (arith, entries_long blocks place, level_long blocks maps)
