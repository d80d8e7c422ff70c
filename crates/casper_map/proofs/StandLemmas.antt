use Rattle.std.proofs.Common.{◌≡◌, ℕ, ◌+◌, ◌-◌, true, List, [], ◌∷◌, ◌++◌, take, map, refl, sym, ◌∙◌, ap, subst, ⊎_elim, arith}
use Rattle.std.specs.Prelude.{not, nat_lt, nat_le, Option, Some, None}
use Rattle.std.proofs.lemmas.Bool.{or_left, or_right, or_from, or_cases, true≢false, le-ltb, and_right, not_from_true, eq-eqb}
use Rattle.casper_map.specs.Faulty.{bad_levels, refused}
use Rattle.casper_map.specs.Levels.{Reader, Opened, entries_in, level, passed, reached, joined, names, is_frame, page_in, free_in, block_in}
use Rattle.casper_map.specs.MapLaws.{ArraysStand}

-- the blocks of all frames that some places have are the same
abbrev pub Same : List (List ℕ) → List (List ℕ) → List (Option ℕ) → Type 0
Same blocks image places = (frame : ℕ) → names places frame ≡ true → block_in image frame ≡ block_in blocks frame

same_first : (blocks image : List (List ℕ)) (place : Option ℕ) (places : List (Option ℕ)) → Same blocks image (place ∷ places) → (frame : ℕ) → is_frame frame place ≡ true → block_in image frame ≡ block_in blocks frame
same_first blocks image place places same frame is = same frame (or_left (is_frame frame place) (names places frame) is)

same_rest : (blocks image : List (List ℕ)) (place : Option ℕ) (places : List (Option ℕ)) → Same blocks image (place ∷ places) → Same blocks image places
same_rest blocks image place places same frame is = same frame (or_right (is_frame frame place) (names places frame) is)

entries_stand : (reader : Reader) (blocks image : List (List ℕ)) (place : Option ℕ) → ((frame : ℕ) → is_frame frame place ≡ true → block_in image frame ≡ block_in blocks frame)
    → entries_in reader image place ≡ entries_in reader blocks place
entries_stand reader blocks image None same = refl
entries_stand reader blocks image (Some frame) same = ap reader.entries (same frame (eq-eqb frame frame refl))

page_stands : (reader : Reader) (blocks image : List (List ℕ)) (place : Option ℕ) → ((frame : ℕ) → is_frame frame place ≡ true → block_in image frame ≡ block_in blocks frame)
    → page_in reader image place ≡ page_in reader blocks place
page_stands reader blocks image None same = refl
page_stands reader blocks image (Some frame) same = ap reader.words (same frame (eq-eqb frame frame refl))

level_stands : (reader : Reader) (blocks image : List (List ℕ)) (places : List (Option ℕ)) → Same blocks image places → level reader image places ≡ level reader blocks places
level_stands reader blocks image [] same = refl
level_stands reader blocks image (place ∷ places) same =
    ap (λ (entries : List (Option ℕ)). entries ++ level reader image places) (entries_stand reader blocks image place (same_first blocks image place places same))
    ∙ ap (λ (rest : List (Option ℕ)). entries_in reader blocks place ++ rest) (level_stands reader blocks image places (same_rest blocks image place places same))

pub pages_stand : (reader : Reader) (blocks image : List (List ℕ)) (places : List (Option ℕ)) → Same blocks image places → map (page_in reader image) places ≡ map (page_in reader blocks) places
pages_stand reader blocks image [] same = refl
pages_stand reader blocks image (place ∷ places) same =
    ap (λ (page : List ℕ). page ∷ map (page_in reader image) places) (page_stands reader blocks image place (same_first blocks image place places same))
    ∙ ap (λ (rest : List (List ℕ)). page_in reader blocks place ∷ rest) (pages_stand reader blocks image places (same_rest blocks image place places same))

-- what a list names, a longer one names
names_front : (front back : List (Option ℕ)) (frame : ℕ) → names front frame ≡ true → names (front ++ back) frame ≡ true
names_front [] back frame is = absurd (true≢false (sym is))
names_front (place ∷ front) back frame is =
    ⊎_elim (λ (here : is_frame frame place ≡ true). or_left (is_frame frame place) (names (front ++ back) frame) here)
    (λ (later : names front frame ≡ true). or_right (is_frame frame place) (names (front ++ back) frame) (names_front front back frame later))
    (or_cases (is_frame frame place) (names front frame) is)

pub names_back : (front back : List (Option ℕ)) (frame : ℕ) → names back frame ≡ true → names (front ++ back) frame ≡ true
names_back [] back frame is = is
names_back (place ∷ front) back frame is = or_right (is_frame frame place) (names (front ++ back) frame) (names_back front back frame is)

-- the levels below some places, joined, have these places in front
joined_passed : (reader : Reader) (blocks : List (List ℕ)) (count : ℕ) (counts : List ℕ) (places : List (Option ℕ))
    → joined (passed reader blocks (count ∷ counts) places) ≡ places ++ joined (passed reader blocks counts (take count (level reader blocks places)))
joined_passed reader blocks count [] places = refl
joined_passed reader blocks count (next ∷ counts) places = refl

-- all levels stand, and so does the lowest, whose frames are among those that are named
pub passed_stand : (reader : Reader) (blocks image : List (List ℕ)) (counts : List ℕ) (places : List (Option ℕ)) → Same blocks image (joined (passed reader blocks counts places))
    → (passed reader image counts places ≡ passed reader blocks counts places)
    × (map (page_in reader image) (reached reader image counts places) ≡ map (page_in reader blocks) (reached reader blocks counts places))
passed_stand reader blocks image [] places same = (refl, pages_stand reader blocks image places same)
passed_stand reader blocks image (count ∷ counts) places same =
    let below = take count (level reader blocks places) in
    let whole : Same blocks image (places ++ joined (passed reader blocks counts below)) = subst (λ (list : List (Option ℕ)). Same blocks image list) (joined_passed reader blocks count counts places) same in
    let here : Same blocks image places = (λ frame is. whole frame (names_front places (joined (passed reader blocks counts below)) frame is)) in
    let later : Same blocks image (joined (passed reader blocks counts below)) = (λ frame is. whole frame (names_back places (joined (passed reader blocks counts below)) frame is)) in
    let stands : take count (level reader image places) ≡ below = ap (take count) (level_stands reader blocks image places here) in
    let rest = passed_stand reader blocks image counts below later in (
      (ap (λ (list : List (Option ℕ)). places ∷ passed reader image counts list) stands ∙ ap (λ (levels : List (List (Option ℕ))). places ∷ levels) rest.0),
      (ap (λ (list : List (Option ℕ)). map (page_in reader image) (reached reader image counts list)) stands ∙ rest.1),
    )

pub arrays_stand : ArraysStand
arrays_stand reader blocks image eaches counts frames places agrees =
    let all = joined (passed reader blocks counts places) in
    let same : Same blocks image all =
    (λ frame is.
    let back : 5 + frame - 5 ≡ frame = omega arith in
    let named : names all (5 + frame - 5) ≡ true = ap (names all) back ∙ is in
    agrees.same (5 + frame)
    (or_from (nat_lt (5 + frame) 5) (free_in reader blocks counts places (5 + frame)) (le-ltb (5 + frame) 5 (omega arith))
    (and_right (nat_le 5 (5 + frame)) (not (names all (5 + frame - 5))) (not_from_true (names all (5 + frame - 5)) named)))) in
    let stand = passed_stand reader blocks image counts places same in
    let found : List (List (Option ℕ)) → List (List ℕ) → Opened = λ levels pages. record { levels = levels; pages = pages } in
    ap (λ (levels : List (List (Option ℕ))). refused (bad_levels eaches frames levels) (found levels (map (page_in reader image) (reached reader image counts places)))) stand.0
    ∙ ap (λ (pages : List (List ℕ)). refused (bad_levels eaches frames (passed reader blocks counts places)) (found (passed reader blocks counts places) pages)) stand.1
