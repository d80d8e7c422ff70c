use Rattle.std.proofs.Common.{◌≡◌, ◌≢◌, ℕ, zero, suc, ◌+◌, ◌-◌, ◌*◌, ◌<◌, ◌≤◌, Bool, true, false, cond, List, [], ◌∷◌, ◌++◌, length, take, drop, replicate, get_or, refl, sym, ◌∙◌, ap, subst, arith, append_assoc, length-append, inl, inr, Option, Some, None}
use Rattle.std.specs.Prelude.{slice_index, slice_set}
use Rattle.std.specs.Int.{w64, to_le_bytes, from_le_bytes}
use Rattle.std.specs.List.{list_all}
use Rattle.std.proofs.Math.ListN.{length-set}
use Rattle.std.proofs.lemmas.List.{get_or-set_other, get_or-set_same, get_or-take, get_or-drop, get_or_past, take_at, take-append-drop, drop-drop, length-take-le, length-drop, length-replicate, take_all}
use Rattle.std.proofs.lemmas.Bool.{cases_Bool, cases_lt}
use Rattle.std.proofs.lemmas.Bool.Decides.{nat_tests}
use Rattle.std.proofs.lemmas.List.Folds.{list_all_at}
use Rattle.std.proofs.lemmas.Nat.{le_bytes_8}
use Rattle.casper_words.specs.Name.{is_name_byte, IsName}
use Rattle.casper_words.specs.Padded.{padded}
use Rattle.casper_words.specs.declared.call.Call.{Call}
use Rattle.casper_space.specs.WordCalls.{HeldWords, HasMade, write_of}
use Rattle.casper_heap.proofs.Contents.{made_set}
use Rattle.casper_heap.proofs.Following.{made_as}
use Rattle.casper_names.specs.Table.{is_length, bytes_of, name_by, name_at, entries_of}
use Rattle.casper_names.specs.Binding.{name_word}
use Rattle.casper_names.proofs.Naming.{all_entries, same_entry}

module _ {S : Type 0} {seen : S → HeldWords} {step : S → Call → S → Type 0} where
  -- a write of a value that is told in another way
  pub made_write_of : {before after : S} {page word value other : ℕ} → value ≡ other → HasMade seen step before (write_of page word value ∷ []) after
      → HasMade seen step before (write_of page word other ∷ []) after
  made_write_of {before} {after} {page} {word} {value} {other} is made = made_as (ap (λ (value : ℕ). write_of page word value ∷ []) (sym is)) made

-- each byte of a name is below 256
byte_small : (byte : ℕ) → is_name_byte byte ≡ true → byte < 256
byte_small byte is = grind (arith, nat_tests)

bytes_small : (bytes : List ℕ) → list_all is_name_byte bytes ≡ true → (i : ℕ) → get_or bytes i 0 < 256
bytes_small bytes all i =
    elim (cases_lt i (length bytes)) [
      | inl below ↦
          elim (cases_Bool (is_name_byte (get_or bytes i 0))) [
            | inl is ↦ byte_small (get_or bytes i 0) is
            | inr not ↦ let no : list_all is_name_byte bytes ≡ false = list_all_at is_name_byte bytes i 0 below not in cc
          ]
      | inr past ↦ let none : get_or bytes i 0 ≡ 0 = get_or_past bytes i 0 past in omega (arith, none)
    ]

zeros_small : (count : ℕ) (i : ℕ) → ◌≡◌ {A = ℕ} (get_or (replicate count 0) i 0) 0
zeros_small zero i = refl
zeros_small (suc count) zero = refl
zeros_small (suc count) (suc i) = zeros_small count i

padded_small : (bytes : List ℕ) (count : ℕ) → ((i : ℕ) → get_or bytes i 0 < 256) → (i : ℕ) → get_or (bytes ++ replicate count 0) i 0 < 256
padded_small [] count small i = let none : get_or (replicate count 0) i 0 ≡ 0 = zeros_small count i in omega (arith, none)
padded_small (byte ∷ bytes) count small zero = small 0
padded_small (byte ∷ bytes) count small (suc i) = padded_small bytes count (λ i. small (suc i)) i

-- the words of 24 bytes give the bytes back
piece : (places : List ℕ) (from : ℕ) → length places ≡ 24 → from ≤ 16 → ((i : ℕ) → get_or places i 0 < 256)
    → to_le_bytes w64 (from_le_bytes w64 (take 8 (drop from places))) ≡ take 8 (drop from places)
piece places from long within small =
    let rest : length (drop from places) ≡ length places - from = length-drop from places in
    let size : length (take 8 (drop from places)) ≡ 8 = length-take-le 8 (drop from places) (omega (arith, rest, long)) in
    le_bytes_8 (take 8 (drop from places)) (from_le_bytes w64 (take 8 (drop from places))) size
    (λ i. elim (cases_lt i 8) [
      | inl below ↦
          let is : get_or (take 8 (drop from places)) i 0 ≡ get_or places (from + i) 0 = get_or-take 8 (drop from places) i 0 below ∙ get_or-drop from places i 0 in
          subst (λ (byte : ℕ). byte < 256) (sym is) (small (from + i))
      | inr past ↦
          let none : get_or (take 8 (drop from places)) i 0 ≡ 0 = get_or_past (take 8 (drop from places)) i 0 (omega (arith, past, size)) in omega (arith, none)
    ])
    refl

pieces : (places : List ℕ) → length places ≡ 24 → take 8 (drop 0 places) ++ take 8 (drop 8 places) ++ take 8 (drop 16 places) ≡ places
pieces places long =
    let rest : length (drop 16 places) ≡ length places - 16 = length-drop 16 places in
    let last : take 8 (drop 16 places) ≡ drop 16 places = take_all 8 (drop 16 places) (omega (arith, rest, long)) in
    let more : drop 8 (drop 8 places) ≡ drop 16 places = drop-drop 8 8 places in
    ap (λ (behind : List ℕ). take 8 places ++ take 8 (drop 8 places) ++ behind) (last ∙ sym more)
    ∙ append_assoc (take 8 places) (take 8 (drop 8 places)) (drop 8 (drop 8 places))
    ∙ ap (λ (behind : List ℕ). take 8 places ++ behind) (take-append-drop 8 (drop 8 places))
    ∙ take-append-drop 8 places

-- the words of a name tell the name
pub name_of_words : (name : List ℕ) → IsName name → name_by (length name) (name_word name 0) (name_word name 1) (name_word name 2) ≡ Some name
name_of_words name is =
    let places = padded 24 0 name in
    let low : 1 ≤ length name = is.some in
    let high : length name ≤ 24 = is.short in
    let all : list_all is_name_byte name ≡ true = is.alphabet in
    let test : is_length (length name) ≡ true = grind (arith, nat_tests) in
    let long : length places ≡ 24 = padded_long name high in
    let small : (i : ℕ) → get_or places i 0 < 256 = padded_small name (24 - length name) (bytes_small name all) in
    let bytes : bytes_of (name_word name 0) (name_word name 1) (name_word name 2) ≡ places =
    ap (λ (first : List ℕ). first ++ to_le_bytes w64 (name_word name 1) ++ to_le_bytes w64 (name_word name 2)) (piece places 0 long (omega arith) small)
    ∙ ap (λ (second : List ℕ). take 8 (drop 0 places) ++ second ++ to_le_bytes w64 (name_word name 2)) (piece places 8 long (omega arith) small)
    ∙ ap (λ (third : List ℕ). take 8 (drop 0 places) ++ take 8 (drop 8 places) ++ third) (piece places 16 long (omega arith) small)
    ∙ pieces places long in
    let told : take (length name) (bytes_of (name_word name 0) (name_word name 1) (name_word name 2)) ≡ name =
    ap (take (length name)) bytes ∙ take_at name (replicate (24 - length name) 0) (length name) refl in
    ap (λ (test : Bool). cond test (cond (list_all is_name_byte (take (length name) (bytes_of (name_word name 0) (name_word name 1) (name_word name 2))))
    (Some (take (length name) (bytes_of (name_word name 0) (name_word name 1) (name_word name 2)))) None) None) test
    ∙ ap (λ (bytes : List ℕ). cond (list_all is_name_byte bytes) (Some bytes) None) told
    ∙ ap (λ (test : Bool). cond test (Some name) None) all
  where
    padded_long : (name : List ℕ) → length name ≤ 24 → length (padded 24 0 name) ≡ 24
    padded_long name high = omega (arith, high, length-append name (replicate (24 - length name) 0), length-replicate {A = ℕ} (24 - length name) 0)

-- the words of the table's page after an entry was written
module _ (words : List ℕ) (entry : ℕ) (name : List ℕ) (value : ℕ) where
  abbrev first_set : List ℕ
  first_set = slice_set words (5 * entry) (length name)

  abbrev second_set : List ℕ
  second_set = slice_set first_set (5 * entry + 1) (name_word name 0)

  abbrev third_set : List ℕ
  third_set = slice_set second_set (5 * entry + 2) (name_word name 1)

  abbrev fourth_set : List ℕ
  fourth_set = slice_set third_set (5 * entry + 3) (name_word name 2)

  abbrev pub after_entry : List ℕ
  after_entry = slice_set fourth_set (5 * entry + 4) value

  -- the words of every other entry stay
  pub others_stay : (other j : ℕ) → other ≢ entry → j < 5 → slice_index after_entry (5 * other + j) ≡ slice_index words (5 * other + j)
  others_stay other j ne small =
      let k = 5 * other + j in
      get_or-set_other fourth_set (5 * entry + 4) k value 0 (omega arith)
      ∙ get_or-set_other third_set (5 * entry + 3) k (name_word name 2) 0 (omega arith)
      ∙ get_or-set_other second_set (5 * entry + 2) k (name_word name 1) 0 (omega arith)
      ∙ get_or-set_other first_set (5 * entry + 1) k (name_word name 0) 0 (omega arith)
      ∙ get_or-set_other words (5 * entry) k (length name) 0 (omega arith)

  module _ (below : entry < 64) (long : length words ≡ 512) where
    first_long : length first_set ≡ 512
    first_long = length-set words (5 * entry) (length name) ∙ long

    second_long : length second_set ≡ 512
    second_long = length-set first_set (5 * entry + 1) (name_word name 0) ∙ first_long

    third_long : length third_set ≡ 512
    third_long = length-set second_set (5 * entry + 2) (name_word name 1) ∙ second_long

    fourth_long : length fourth_set ≡ 512
    fourth_long = length-set third_set (5 * entry + 3) (name_word name 2) ∙ third_long

    pub value_there : slice_index after_entry (5 * entry + 4) ≡ value
    value_there = get_or-set_same fourth_set (5 * entry + 4) value 0 (omega (arith, fourth_long))

    count_there : slice_index after_entry (5 * entry) ≡ length name
    count_there =
        get_or-set_other fourth_set (5 * entry + 4) (5 * entry) value 0 (omega arith)
        ∙ get_or-set_other third_set (5 * entry + 3) (5 * entry) (name_word name 2) 0 (omega arith)
        ∙ get_or-set_other second_set (5 * entry + 2) (5 * entry) (name_word name 1) 0 (omega arith)
        ∙ get_or-set_other first_set (5 * entry + 1) (5 * entry) (name_word name 0) 0 (omega arith)
        ∙ get_or-set_same words (5 * entry) (length name) 0 (omega (arith, long))

    first_there : slice_index after_entry (5 * entry + 1) ≡ name_word name 0
    first_there =
        get_or-set_other fourth_set (5 * entry + 4) (5 * entry + 1) value 0 (omega arith)
        ∙ get_or-set_other third_set (5 * entry + 3) (5 * entry + 1) (name_word name 2) 0 (omega arith)
        ∙ get_or-set_other second_set (5 * entry + 2) (5 * entry + 1) (name_word name 1) 0 (omega arith)
        ∙ get_or-set_same first_set (5 * entry + 1) (name_word name 0) 0 (omega (arith, first_long))

    second_there : slice_index after_entry (5 * entry + 2) ≡ name_word name 1
    second_there =
        get_or-set_other fourth_set (5 * entry + 4) (5 * entry + 2) value 0 (omega arith)
        ∙ get_or-set_other third_set (5 * entry + 3) (5 * entry + 2) (name_word name 2) 0 (omega arith)
        ∙ get_or-set_same second_set (5 * entry + 2) (name_word name 1) 0 (omega (arith, second_long))

    third_there : slice_index after_entry (5 * entry + 3) ≡ name_word name 2
    third_there =
        get_or-set_other fourth_set (5 * entry + 4) (5 * entry + 3) value 0 (omega arith)
        ∙ get_or-set_same third_set (5 * entry + 3) (name_word name 2) 0 (omega (arith, third_long))

    name_there : IsName name → name_at after_entry entry ≡ Some name
    name_there is =
        ap (λ (n : ℕ). name_by n (slice_index after_entry (5 * entry + 1)) (slice_index after_entry (5 * entry + 2)) (slice_index after_entry (5 * entry + 3))) count_there
        ∙ ap (λ (n : ℕ). name_by (length name) n (slice_index after_entry (5 * entry + 2)) (slice_index after_entry (5 * entry + 3))) first_there
        ∙ ap (λ (n : ℕ). name_by (length name) (name_word name 0) n (slice_index after_entry (5 * entry + 3))) second_there
        ∙ ap (λ (n : ℕ). name_by (length name) (name_word name 0) (name_word name 1) n) third_there
        ∙ name_of_words name is

    written_by : (count : ℕ) → count ≡ 64 → entry < count → IsName name → entries_of after_entry ≡ slice_set (entries_of words) entry (Some name)
    written_by count all within is =
        let start : 0 + entry ≡ entry = omega arith in
        sym (all_entries after_entry count all)
        ∙ made_set (name_at words) (name_at after_entry) 0 count entry (Some name) within (ap (name_at after_entry) start ∙ name_there is)
        (λ k _ high ne. same_entry words after_entry k (λ j small. others_stay k j (omega arith) (omega arith)))
        ∙ ap (λ (entries : List (Option (List ℕ))). slice_set entries entry (Some name)) (all_entries words count all)

    pub written_entries : IsName name → entries_of after_entry ≡ slice_set (entries_of words) entry (Some name)
    written_entries is = written_by 64 refl below is
