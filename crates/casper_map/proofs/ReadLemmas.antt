use Rattle.std.proofs.Common.{◌≡◌, ◌≢◌, ℕ, zero, suc, ◌+◌, ◌-◌, ◌*◌, ◌<◌, ◌≤◌, Bool, true, false, List, length, take, set, refl, sym, ◌∙◌, ap, ⊎_elim, arith}
use Rattle.std.specs.Prelude.{◌||◌, ◌==◌, Option, Some, None, nat_le, cond, Result, Ok, Err, IsErrAnd}
use Rattle.std.specs.List.{find, range_with_len}
use Rattle.std.specs.Cmp.{both_ways}
use Rattle.std.proofs.lemmas.Bool.{cases_eq, cases_lt, cond-true, cond-false, cond_both, eqb-true}
use Rattle.std.proofs.lemmas.List.{length-set, get_or-set_same, get_or-set_other, length-take-le, get_or-take, ext_get_or}
use Rattle.std.proofs.lemmas.Option.{none-some}
use Rattle.casper_root.specs.declared.fault.OpenFault.{OpenFault}
use Rattle.casper_root.specs.declared.fault.OpenFault.TheVariants as fault
use Rattle.casper_map.specs.Faulty.{frame_at, is_faulty, is_faulty_beside, first_faulty}
use Rattle.casper_map.specs.Levels.{names}
use Rattle.casper_map.specs.Mapped.{Mapped}
use Rattle.casper_map.specs.Numbers.{frame_in, number_of, no_frame}
use Rattle.casper_map.specs.Reading.{IsRead, HasNoneFrom, IsFirstBad}
use Rattle.casper_map.proofs.NameLemmas.{place_named, named_at, place_within}

-- the first number of a range that passes
pub found_first : (test : ℕ → Bool) (start count at : ℕ) → start ≤ at → at < start + count → test at ≡ true → ((k : ℕ) → start ≤ k → k < at → test k ≡ false)
    → find test (range_with_len start count) ≡ Some at
found_first test start zero at high low passes before = absurd (omega arith)
found_first test start (suc count) at high low passes before =
    ⊎_elim
    (λ (same : start ≡ at). cond-true (test start) (Some start) (find test (range_with_len (start + 1) count)) (ap test same ∙ passes) ∙ ap (λ (n : ℕ). Some n) same)
    (λ (other : start ≢ at).
    let above : start + 1 ≤ at = omega arith in
    let below : at < start + 1 + count = omega arith in
    cond-false (test start) (Some start) (find test (range_with_len (start + 1) count)) (before start (omega arith) (omega arith))
    ∙ found_first test (start + 1) count at above below passes (λ k k_high k_low. before k (omega arith) k_low))
    (cases_eq start at)

pub found_none : (test : ℕ → Bool) (start count : ℕ) → ((k : ℕ) → start ≤ k → k < start + count → test k ≡ false) → find test (range_with_len start count) ≡ None
found_none test start zero fails = refl
found_none test start (suc count) fails =
    cond-false (test start) (Some start) (find test (range_with_len (start + 1) count)) (fails start (omega arith) (omega arith))
    ∙ found_none test (start + 1) count (λ k high low. fails k (omega arith) (omega arith))

-- beside the places that were read a frame is faulty where it is so beside the map
names_known : (upto : ℕ) (all : List (Option ℕ)) (held : Mapped) → IsRead upto all held → HasNoneFrom upto held → upto ≤ length all → (frame : ℕ)
    → names (take upto all) frame ≡ names held.places frame
names_known upto all held read unread within frame =
    both_ways (names (take upto all) frame) (names held.places frame)
    (λ named.
    let found = place_named (take upto all) frame named in
    let low : found.0 < upto = omega (arith, place_within (take upto all) found.0 frame found.1, length-take-le upto all within) in
    named_at held.places found.0 frame (read.known found.0 low ∙ sym (get_or-take upto all found.0 None low) ∙ found.1))
    (λ named.
    let found = place_named held.places frame named in
    ⊎_elim
    (λ (low : found.0 < upto). named_at (take upto all) found.0 frame (get_or-take upto all found.0 None low ∙ sym (read.known found.0 low) ∙ found.1))
    (λ (high : upto ≤ found.0). absurd (none-some frame (sym (unread found.0 high) ∙ found.1)))
    (cases_lt found.0 upto))

pub beside_known : (upto : ℕ) (all : List (Option ℕ)) (held : Mapped) → IsRead upto all held → HasNoneFrom upto held → upto ≤ length all → (place : Option ℕ)
    → is_faulty_beside held.frames (take upto all) place ≡ is_faulty_beside held.frames held.places place
beside_known upto all held read unread within None = refl
beside_known upto all held read unread within (Some frame) = ap (λ (b : Bool). nat_le held.frames frame || b) (names_known upto all held read unread within frame)

-- a map with one place more
pub read_more : (upto : ℕ) (all : List (Option ℕ)) (held : Mapped) (place : Option ℕ) → IsRead upto all held → HasNoneFrom upto held → upto < length held.places
    → frame_at all upto ≡ place → is_faulty_beside held.frames held.places place ≡ false → IsRead (upto + 1) all (record held { places = set held.places upto place })
read_more upto all held place read unread within is fine =
    let long = length-set held.places upto place in
    let count = read.count in
    record {
      count = long ∙ count;
      known = λ at low. ⊎_elim
          (λ (same : at ≡ upto). ap (frame_at (set held.places upto place)) same ∙ get_or-set_same held.places upto place None within ∙ sym is ∙ sym (ap (frame_at all) same))
          (λ (other : at ≢ upto). get_or-set_other held.places upto at place None other ∙ read.known at (omega arith))
          (cases_eq at upto);
      sound = λ at low. ⊎_elim
          (λ (same : at ≡ upto).
          ap (is_faulty held.frames all) same ∙ ap (is_faulty_beside held.frames (take upto all)) is
          ∙ beside_known upto all held read unread (omega (arith, count)) place ∙ fine)
          (λ (other : at ≢ upto). read.sound at (omega arith))
          (cases_eq at upto);
    }

pub unread_more : (upto : ℕ) (held : Mapped) (place : Option ℕ) → HasNoneFrom upto held → HasNoneFrom (upto + 1) (record held { places = set held.places upto place })
unread_more upto held place unread at high =
    let other : at ≢ upto = omega arith in
    get_or-set_other held.places upto at place None other ∙ unread at (omega arith)

-- a place that is refused is the first faulty one
pub read_stops : (upto : ℕ) (all : List (Option ℕ)) (held : Mapped) (place : Option ℕ) → IsRead upto all held → HasNoneFrom upto held → upto < length held.places
    → frame_at all upto ≡ place → is_faulty_beside held.frames held.places place ≡ true → first_faulty held.frames all ≡ Some upto
read_stops upto all held place read unread within is faulty =
    let count = read.count in
    found_first (is_faulty held.frames all) 0 (length all) upto (omega arith) (omega (arith, count))
    (ap (is_faulty_beside held.frames (take upto all)) is ∙ beside_known upto all held read unread (omega (arith, count)) place ∙ faulty)
    (λ k high low. read.sound k low)

-- where all was read none is faulty
pub read_all : (all : List (Option ℕ)) (held : Mapped) → IsRead (length all) all held → first_faulty held.frames all ≡ None
read_all all held read = found_none (is_faulty held.frames all) 0 (length all) (λ k high low. read.sound k (omega arith))

-- and the map has all the frames
pub read_places : (all : List (Option ℕ)) (held : Mapped) → IsRead (length all) all held → held.places ≡ all
read_places all held read =
    let count = read.count in
    ext_get_or None held.places all count (λ at low. read.known at (omega (arith, count)))

-- a refusal handed on
pub handed_on : (result : Result (Unit {0}) OpenFault) (why : OpenFault) → IsErrAnd result (λ given. given ≡ why) → result ≡ Err why
handed_on (Ok done) why held = absurd held
handed_on (Err given) why held = ap Err held

-- a number whose frame is faulty is the number of that frame
pub faulty_number : (frames number : ℕ) (places : List (Option ℕ)) → is_faulty_beside frames places (frame_in number) ≡ true → number_of (frame_in number) ≡ number
faulty_number frames number places faulty =
    cond_both (number == no_frame) None (Some number) (λ (place : Option ℕ). is_faulty_beside frames places place ≡ true → number_of place ≡ number)
    (λ is found. sym (eqb-true number no_frame is)) (λ is found. refl) faulty

-- what an answer says of its test
pub answer_ok : (test : Bool) (bad : OpenFault) (done : Unit {0}) → ◌≡◌ {A = Result (Unit {0}) OpenFault} (Ok done) (cond test (Err bad) (Ok tt)) → test ≡ false
answer_ok true bad done is = cc
answer_ok false bad done is = refl

pub answer_err : (test : Bool) (bad given : OpenFault) → ◌≡◌ {A = Result (Unit {0}) OpenFault} (Err given) (cond test (Err bad) (Ok tt)) → (test ≡ true) × (given ≡ bad)
answer_err true bad given is = (refl, cc)
answer_err false bad given is = (cc, cc)

-- the refusal of a place that is the first faulty one
pub first_bad : (frames at : ℕ) (all : List (Option ℕ)) (place end page each upto number : ℕ) (given : OpenFault) → upto ≡ place + at → upto < end → upto < length all → first_faulty frames all ≡ Some upto
    → number_of (frame_at all upto) ≡ number → given ≡ fault.BadMap (page + each * at) number → IsFirstBad frames all place end page each given
first_bad frames at all place end page each upto number given is early within first number_is given_is =
    let back : upto - place ≡ at = omega arith in
    record {
      at = upto;
      behind = omega arith;
      early = early;
      within = within;
      first = first;
      is = given_is ∙ ap (λ (k : ℕ). fault.BadMap (page + each * k) number) (sym back) ∙ ap (fault.BadMap (page + each * (upto - place))) (sym number_is);
    }

-- a frame number that is refused is no fault of the disk
pub not_disk : (given : OpenFault) (page number : ℕ) → given ≡ fault.BadMap page number → ◌≡◌ {A = Result (Unit {0}) OpenFault} (Err given) (Err fault.Disk) → ⊥
not_disk given page number is disk = cc
