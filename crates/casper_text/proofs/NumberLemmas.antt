use Rattle.std.proofs.Common.{zero, suc, ◌≡◌, ◌≢◌, ℕ, ◌^◌, ◌<◌, ◌≤◌, Bool, true, false, cond, ltb, ◌&&◌, ◌||◌, ◌==◌, List, [], ◌∷◌, length, get_or, Some, None, Result, Ok, Err, refl, sym, ap, ◌∙◌, arith, decimal, lt-ltb, ltb-true}
use Rattle.std.specs.Char.{is_ascii_digit}
use Rattle.std.specs.Int.{is_in_range}
use Rattle.std.specs.Result.{result_ok, OkIff}
use Rattle.std.specs.Str.{all_ascii_digits}
use Rattle.std.specs.Str.Parse.{digits_value}
use Rattle.std.proofs.lemmas.Str.Parse.{IsNumeralModel, numerals_by_value, tells_all_ascii_digits}
use Rattle.std.proofs.lemmas.Fmt.{digits_decimal, digits_value-decimal, decimal_digit, decimal_nonempty, first_decimal, decimal-digits_value}
use Rattle.std.proofs.lemmas.Bool.{and_parts, and_from}
use Rattle.std.proofs.lemmas.Bool.Decides.{nat_tests}
use Rattle.casper_text.specs.Number.{begins_as_number, is_numeral, number_below, number_of}

-- std's words for a text of digits and for the number that it writes
pub digits_model : IsNumeralModel (λ ds. all_ascii_digits ds ≡ true) (digits_value 10)
digits_model = numerals_by_value (λ ds. all_ascii_digits ds ≡ true) tells_all_ascii_digits

-- a word that begins as a number has a byte, no sign, and no zero in front
pub record IsBegun (word : List ℕ) : Type 0 where
  pub filled : 0 < length word
  pub unsigned : get_or word 0 0 ≢ 43
  pub no_zero : get_or word 0 0 ≡ 48 → length word ≡ 1

begun_unsigned : (first n : ℕ) → (is_in_range 49 57 first || (first == 48 && n == 0)) ≡ true → first ≢ 43
begun_unsigned first n begins = grind (arith, nat_tests)

begun_no_zero : (first n : ℕ) → (is_in_range 49 57 first || (first == 48 && n == 0)) ≡ true → first ≡ 48 → n ≡ 0
begun_no_zero first n begins = grind (arith, nat_tests)

begun : (first n : ℕ) → 48 ≤ first → first ≤ 57 → (first ≡ 48 → n ≡ 0) → (is_in_range 49 57 first || (first == 48 && n == 0)) ≡ true
begun first n low high no_zero = grind (arith, nat_tests)

pub IsBegun-from_test : (word : List ℕ) → begins_as_number word ≡ true → IsBegun word
IsBegun-from_test [] begins = cc
IsBegun-from_test (first ∷ rest) begins = record {
  filled = omega arith;
  unsigned = begun_unsigned first (length rest) begins;
  no_zero = λ zero. omega (arith, begun_no_zero first (length rest) begins zero);
}

digit_range : (first : ℕ) (more : Bool) → (is_ascii_digit first && more) ≡ true → (48 ≤ first) × (first ≤ 57)
digit_range first more digits = grind (arith, nat_tests)

-- the first of some digits is a digit
pub first_digit : (word : List ℕ) → all_ascii_digits word ≡ true → 0 < length word → (48 ≤ get_or word 0 0) × (get_or word 0 0 ≤ 57)
first_digit [] digits filled = absurd (omega arith)
first_digit (first ∷ rest) digits filled = digit_range first (all_ascii_digits rest) digits

-- digits without a zero in front begin as a number
pub begins-from : (word : List ℕ) → all_ascii_digits word ≡ true → 0 < length word → (get_or word 0 0 ≡ 48 → length word ≡ 1) → begins_as_number word ≡ true
begins-from [] digits filled no_zero = absurd (omega arith)
begins-from (first ∷ rest) digits filled no_zero =
    let range = first_digit (first ∷ rest) digits filled in
    begun first (length rest) range.0 range.1 (λ zero. omega (arith, no_zero zero))

pub numeral_parts : (word : List ℕ) → is_numeral word ≡ true → (begins_as_number word ≡ true) × (all_ascii_digits word ≡ true)
numeral_parts word numeral = and_parts (begins_as_number word) (all_ascii_digits word) numeral

-- a choice between a value and none, where the test fails
pub none_where_false : (b : Bool) (n : ℕ) → (b ≡ true → ⊥) → cond b (Some n) None ≡ None
none_where_false true n fails = absurd (fails refl)
none_where_false false n fails = refl

-- and where it gave a value
pub true_where_some : (b : Bool) (m n : ℕ) → cond b (Some m) None ≡ Some n → (b ≡ true) × (m ≡ n)
true_where_some true m n gives = (refl, cc)
true_where_some false m n gives = cc

-- and where it gave none
pub false_where_none : (b : Bool) (n : ℕ) → cond b (Some n) None ≡ None → b ≡ false
false_where_none true n gives = cc
false_where_none false n gives = refl

-- a word that is no numeral writes no number
pub number_below-none : (limit : ℕ) (word : List ℕ) → (is_numeral word ≡ true → digits_value 10 word < limit → ⊥) → number_below limit word ≡ None
unfolding number_below
number_below-none limit word fails =
    none_where_false _ _ (λ both. let parts = and_parts (is_numeral word) (ltb (digits_value 10 word) limit) both in fails parts.0 (ltb-true _ _ parts.1))

-- a numeral below the limit writes its number
pub number_below-some : (limit : ℕ) (word : List ℕ) → is_numeral word ≡ true → digits_value 10 word < limit → number_below limit word ≡ Some (digits_value 10 word)
unfolding number_below
number_below-some limit word numeral below =
    ap (λ b. cond b (Some (digits_value 10 word)) None) (and_from _ _ numeral (lt-ltb _ _ below))

-- the number that a word writes is that of its digits
pub number_below-parts : (limit : ℕ) (word : List ℕ) (n : ℕ) → number_below limit word ≡ Some n → (is_numeral word ≡ true) × (digits_value 10 word < limit) × (digits_value 10 word ≡ n)
unfolding number_below
number_below-parts limit word n gives =
    let both = true_where_some _ _ _ gives in
    let parts = and_parts (is_numeral word) (ltb (digits_value 10 word) limit) both.0 in
    (parts.0, ltb-true _ _ parts.1, both.1)

-- a word that does not begin as a number writes none
pub number_of-not_begun : (word : List ℕ) → begins_as_number word ≡ false → number_of word ≡ None
number_of-not_begun word begins =
    number_below-none (2 ^ 64) word (λ numeral below. let yes = (numeral_parts word numeral).0 in absurd cc)

-- the number below a smaller limit
pub number_below-less : (limit : ℕ) (word : List ℕ) (n : ℕ) → limit ≤ 2 ^ 64 → number_of word ≡ Some n → n < limit → number_below limit word ≡ Some n
number_below-less limit word n small gives below =
    let parts = number_below-parts (2 ^ 64) word n gives in
    number_below-some limit word parts.0 (omega arith) ∙ ap Some parts.2

pub number_below-over : (limit : ℕ) (word : List ℕ) (n : ℕ) → number_of word ≡ Some n → limit ≤ n → number_below limit word ≡ None
number_below-over limit word n gives over =
    let parts = number_below-parts (2 ^ 64) word n gives in
    number_below-none limit word (λ numeral below. omega arith)

pub number_below-no_number : (limit : ℕ) (word : List ℕ) → limit ≤ 2 ^ 64 → number_of word ≡ None → number_below limit word ≡ None
number_below-no_number limit word small none =
    number_below-none limit word (λ numeral below.
    let some = number_below-some (2 ^ 64) word numeral (omega arith) in absurd cc)

-- a number's text is read back as the number
pub number_read_back : (limit n : ℕ) → limit ≤ 2 ^ 64 → n < limit → number_below limit (decimal n) ≡ Some n
number_read_back limit n small below =
    let fits : n < 2 ^ 64 = omega arith in
    let digits = digits_decimal digits_model n fits in
    let value = digits_value-decimal digits_model n fits in
    let begins = begins-from (decimal n) digits (decimal_nonempty n fits) (no_zero n fits) in
    number_below-some limit (decimal n) (and_from _ _ begins digits) (omega (arith, value)) ∙ ap Some value
  where
    no_zero : (n : ℕ) → n < 2 ^ 64 → get_or (decimal n) 0 0 ≡ 48 → length (decimal n) ≡ 1
    no_zero zero fits is_zero = ap length (decimal_digit 0 (omega arith))
    no_zero (suc n) fits is_zero = absurd (omega (arith, first_decimal (suc n) (omega arith) fits))

-- and the word that writes a number is its text
pub number_text : (limit : ℕ) (word : List ℕ) (n : ℕ) → limit ≤ 2 ^ 64 → number_below limit word ≡ Some n → (n < limit) × (word ≡ decimal n)
number_text limit word n small gives =
    let parts = number_below-parts limit word n gives in
    let numeral = numeral_parts word parts.0 in
    let is = IsBegun-from_test word numeral.0 in
    (omega arith, sym (decimal-digits_value digits_model word numeral.1 is.filled is.no_zero (omega arith)) ∙ ap decimal parts.2)

-- what a narrower type takes of a number is the number below the smaller limit
pub number_below-narrowed : {E : Type 0} (limit : ℕ) (word : List ℕ) (n : ℕ) (r : Result ℕ E) → limit ≤ 2 ^ 64 → number_of word ≡ Some n → OkIff r (n < limit) n → result_ok r ≡ number_below limit word
number_below-narrowed limit word n (Ok m) small gives fits =
    ap Some fits.1 ∙ sym (number_below-less limit word n small gives fits.0)
number_below-narrowed limit word n (Err e) small gives over =
    sym (number_below-over limit word n gives (omega (arith, over)))
