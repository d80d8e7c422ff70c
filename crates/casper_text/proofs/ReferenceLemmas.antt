use Rattle.std.proofs.Common.{◌≡◌, ℕ, ◌+◌, ◌-◌, ◌^◌, ◌<◌, ◌≤◌, false, ltb, List, [], ◌∷◌, ◌++◌, length, get_or, take, drop, Option, Some, None, refl, sym, ap, ◌∙◌, arith, decimal, ltb-false, ne_eqb, length-append, length-drop, inl, inr, eqb-true}
use Rattle.std.specs.List.{before_first, after_first, position_or_len, position}
use Rattle.std.proofs.lemmas.List.{drop_all, take_all}
use Rattle.std.proofs.lemmas.List.Sums.{position_or_len_is, split_at_first, passes_at_first}
use Rattle.std.proofs.lemmas.Fmt.{digits_decimal}
use Rattle.std.proofs.lemmas.Str.Parse.{not_in_digits}
use Rattle.std.proofs.Math.ListN.{get_or-append}
use Rattle.std.proofs.Math.Seq.{get_or-append_seam, take-append_seam, drop-append-add}
use Rattle.std.proofs.lemmas.Bool.{cases_lt}
use Rattle.casper_words.specs.declared.page.Ref.{Ref}
use Rattle.casper_text.specs.Number.{number_below}
use Rattle.casper_text.specs.Reference.{is_dot, reference_from, reference_of}
use Rattle.casper_text.proofs.NumberLemmas.{digits_model, true_where_some, false_where_none, number_below-none, number_read_back, number_text}

-- what a first place tells of the dot
dot_found : (word : List ℕ) (at : ℕ) → position is_dot word ≡ Some at → position_or_len is_dot word ≡ at
dot_found word at found = (true_where_some (ltb (position_or_len is_dot word) (length word)) _ _ found).1

no_number : number_below (2 ^ 32) [] ≡ None
no_number = number_below-none (2 ^ 32) [] (λ numeral below. cc)

reference_from-no_word : (page : Option ℕ) → reference_from page None ≡ None
reference_from-no_word None = refl
reference_from-no_word (Some page) = refl

reference_from-parts : (page word : Option ℕ) (r : Ref) → reference_from page word ≡ Some r → (page ≡ Some r.page) × (word ≡ Some r.word)
reference_from-parts None word r gives = cc
reference_from-parts (Some page) None r gives = cc
reference_from-parts (Some page) (Some word) r gives =
    let same : ◌≡◌ {A = Ref} (record { page = page; word = word }) r = cc in
    (ap (λ (x : Ref). Some x.page) same, ap (λ (x : Ref). Some x.word) same)

-- nothing follows the dot of a word that has none
after_no_dot : (word : List ℕ) → length word ≤ position_or_len is_dot word → number_below (2 ^ 32) (after_first is_dot word) ≡ None
after_no_dot word none =
    ap (number_below (2 ^ 32)) (drop_all (position_or_len is_dot word + 1) word (omega arith)) ∙ no_number

dot_within : (word : List ℕ) (n : ℕ) → number_below (2 ^ 32) (after_first is_dot word) ≡ Some n → position_or_len is_dot word < length word
dot_within word n gives =
    elim (cases_lt (position_or_len is_dot word) (length word)) [ inl within ↦ within | inr none ↦ let empty = after_no_dot word none in absurd cc ]

-- a word without a dot writes no reference
pub reference_of-no_dot : (word : List ℕ) → position is_dot word ≡ None → reference_of word ≡ None
unfolding reference_of
reference_of-no_dot word none =
    let last = ltb-false _ _ (false_where_none (ltb (position_or_len is_dot word) (length word)) _ none) in
    ap (reference_from (number_below (2 ^ 32) (before_first is_dot word))) (after_no_dot word last) ∙ reference_from-no_word _

-- what stands before a dot, and after it
abbrev page_text : List ℕ → ℕ → List ℕ
page_text word at = take at word

abbrev place_text : List ℕ → ℕ → List ℕ
place_text word at = take (length word - (at + 1)) (drop (at + 1) word)

-- a word with a dot writes the reference of the numbers on its two sides
reference_of-at : (word : List ℕ) (at : ℕ) → position is_dot word ≡ Some at → reference_of word ≡ reference_from (number_below (2 ^ 32) (page_text word at)) (number_below (2 ^ 32) (place_text word at))
unfolding reference_of
reference_of-at word at found =
    ap (λ k. reference_from (number_below (2 ^ 32) (take k word)) (number_below (2 ^ 32) (drop (k + 1) word))) (dot_found word at found)
    ∙ ap (λ after. reference_from (number_below (2 ^ 32) (take at word)) (number_below (2 ^ 32) after)) (sym (take_all (length word - (at + 1)) (drop (at + 1) word) (omega (arith, length-drop (at + 1) word))))

pub reference_of-no_page : (word : List ℕ) (at : ℕ) → position is_dot word ≡ Some at → number_below (2 ^ 32) (page_text word at) ≡ None → reference_of word ≡ None
reference_of-no_page word at found none =
    reference_of-at word at found ∙ ap (λ page. reference_from page (number_below (2 ^ 32) (place_text word at))) none

pub reference_of-no_place : (word : List ℕ) (at : ℕ) → position is_dot word ≡ Some at → number_below (2 ^ 32) (place_text word at) ≡ None → reference_of word ≡ None
reference_of-no_place word at found none =
    reference_of-at word at found ∙ ap (reference_from (number_below (2 ^ 32) (page_text word at))) none ∙ reference_from-no_word _

pub reference_of-both : (word : List ℕ) (at page place : ℕ) → position is_dot word ≡ Some at → number_below (2 ^ 32) (page_text word at) ≡ Some page → number_below (2 ^ 32) (place_text word at) ≡ Some place → reference_of word ≡ Some record { page = page; word = place }
reference_of-both word at page place found is_page is_place =
    reference_of-at word at found
    ∙ ap (λ x. reference_from x (number_below (2 ^ 32) (place_text word at))) is_page
    ∙ ap (reference_from (Some page)) is_place

-- the parts of a text with one dot
no_dot_in_number : (n : ℕ) → n < 2 ^ 32 → (k : ℕ) → k < length (decimal n) → is_dot (get_or (decimal n) k 0) ≡ false
no_dot_in_number n small k within =
    ne_eqb _ _ (not_in_digits digits_model (decimal n) 46 (digits_decimal digits_model n (omega arith)) (λ range. omega arith) k within)

dot_after : (xs ys : List ℕ) → ((k : ℕ) → k < length xs → is_dot (get_or xs k 0) ≡ false) → position_or_len is_dot (xs ++ 46 ∷ ys) ≡ length xs
dot_after xs ys none =
    position_or_len_is is_dot (xs ++ 46 ∷ ys) (length xs) 0 (omega (arith, length-append xs (46 ∷ ys)))
    (λ k within. rw get_or-append (none k within))
    (λ within. ap is_dot (get_or-append_seam xs 46 ys 0))

-- a reference's text is read back as the reference
pub reference_read_back : (page word : ℕ) → page < 2 ^ 32 → word < 2 ^ 32 → reference_of (decimal page ++ 46 ∷ decimal word) ≡ Some record { page = page; word = word }
unfolding reference_of
reference_read_back page word small_page small_word =
    let at = dot_after (decimal page) (decimal word) (no_dot_in_number page small_page) in
    let text : List ℕ = decimal page ++ 46 ∷ decimal word in
    let before : before_first is_dot text ≡ decimal page = ap (λ k. take k text) at ∙ take-append_seam (decimal page) (46 ∷ decimal word) in
    let after : after_first is_dot text ≡ decimal word = ap (λ k. drop (k + 1) text) at ∙ drop-append-add (decimal page) (46 ∷ decimal word) 1 in
    let is_page = ap (number_below (2 ^ 32)) before ∙ number_read_back (2 ^ 32) page (omega arith) small_page in
    let is_word = ap (number_below (2 ^ 32)) after ∙ number_read_back (2 ^ 32) word (omega arith) small_word in
    ap (λ x. reference_from x (number_below (2 ^ 32) (after_first is_dot text))) is_page ∙ ap (reference_from (Some page)) is_word

-- and the word that writes a reference is its text
pub text_of_reference : (word : List ℕ) (r : Ref) → reference_of word ≡ Some r → (r.page < 2 ^ 32) × (r.word < 2 ^ 32) × (word ≡ decimal r.page ++ 46 ∷ decimal r.word)
unfolding reference_of
text_of_reference word r gives =
    let parts = reference_from-parts _ _ r gives in
    let page = number_text (2 ^ 32) (before_first is_dot word) r.page (omega arith) parts.0 in
    let place = number_text (2 ^ 32) (after_first is_dot word) r.word (omega arith) parts.1 in
    let within = dot_within word r.word parts.1 in
    let dot = eqb-true _ _ (passes_at_first is_dot word 0 within) in
    let split = split_at_first is_dot word 0 within in
    let text : word ≡ decimal r.page ++ 46 ∷ decimal r.word = cc (page.1, place.1) in
    (page.0, place.0, text)
