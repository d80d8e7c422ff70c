use Rattle.std.proofs.Common.{zero, suc, ◌≡◌, ℕ, ◌+◌, ◌-◌, ◌*◌, ◌^◌, ◌<◌, ◌≤◌, true, List, [], ◌∷◌, length, take, get_or, Some, None, refl, sym, ap, ◌∙◌, inl, inr, subst, arith}
use Rattle.std.specs.Char.{is_ascii_digit, digit_value}
use Rattle.std.specs.Str.{all_ascii_digits}
use Rattle.std.specs.Str.Parse.{digits_value}
use Rattle.std.proofs.lemmas.Bool.{cases_lt, and_parts, and_from}
use Rattle.std.proofs.lemmas.Bool.Decides.{nat_tests}
use Rattle.std.proofs.lemmas.Int.Digits.{digits_value_more}
use Rattle.std.proofs.lemmas.List.{take_all}
use Rattle.std.proofs.lemmas.Str.Parse.{digits_value-take-le}
use Rattle.casper_text.specs.Number.{begins_as_number, number_of}
use Rattle.casper_text.proofs.NumberLemmas.{numeral_parts, number_below-none, number_below-some}

-- digits, place by place
all_digits-from : (word : List ℕ) → ((k : ℕ) → k < length word → is_ascii_digit (get_or word k 0) ≡ true) → all_ascii_digits word ≡ true
all_digits-from [] each = refl
all_digits-from (byte ∷ word) each =
    and_from (is_ascii_digit byte) (all_ascii_digits word) (each 0 (omega arith)) (all_digits-from word (λ k within. each (suc k) (omega arith)))

all_digits-at : (word : List ℕ) (k : ℕ) → k < length word → all_ascii_digits word ≡ true → is_ascii_digit (get_or word k 0) ≡ true
all_digits-at [] k within all = absurd (omega arith)
all_digits-at (byte ∷ word) zero within all = (and_parts (is_ascii_digit byte) (all_ascii_digits word) all).0
all_digits-at (byte ∷ word) (suc k) within all = all_digits-at word k (omega arith) (and_parts (is_ascii_digit byte) (all_ascii_digits word) all).1

digit_is : (byte : ℕ) → is_ascii_digit byte ≡ true → digit_value byte ≡ byte - 48
digit_is byte digit = grind (arith, nat_tests)

-- the first bytes of a word are digits, and write this number
pub record HasRead (word : List ℕ) (count value : ℕ) : Type 0 where
  pub digits : (k : ℕ) → k < count → is_ascii_digit (get_or word k 0) ≡ true
  pub value_is : value ≡ digits_value 10 (take count word)
  pub fits : value < 2 ^ 64

pub HasRead-start : (word : List ℕ) → HasRead word 0 0
HasRead-start word = record { digits = λ k none. absurd (omega arith); value_is = refl; fits = omega arith }

-- the number of one digit more
value_more : (word : List ℕ) (count value : ℕ) → count < length word → is_ascii_digit (get_or word count 0) ≡ true → HasRead word count value
    → digits_value 10 (take (count + 1) word) ≡ value * 10 + (get_or word count 0 - 48)
value_more word count value within digit is =
    digits_value_more 10 word count within
    ∙ ap (λ (n : ℕ). n * 10 + digit_value (get_or word count 0)) (sym is.value_is)
    ∙ ap (λ (n : ℕ). value * 10 + n) (digit_is (get_or word count 0) digit)

pub HasRead-more : (word : List ℕ) (count value more : ℕ) → count < length word → is_ascii_digit (get_or word count 0) ≡ true
    → more ≡ value * 10 + (get_or word count 0 - 48) → more < 2 ^ 64 → HasRead word count value → HasRead word (count + 1) more
HasRead-more word count value more within digit is_more fits is = record {
  digits = λ k low. elim (cases_lt k count) [
    | inl below ↦ is.digits k below
    | inr here ↦ let e : k ≡ count = omega arith in subst (λ (j : ℕ). is_ascii_digit (get_or word j 0) ≡ true) (sym e) digit
  ];
  value_is = is_more ∙ sym (value_more word count value within digit is);
  fits = fits;
}

-- a byte that is no digit, or a number that is too large: the word writes none
pub no_number : (word : List ℕ) (count value : ℕ) → count < length word → HasRead word count value
    → (is_ascii_digit (get_or word count 0) ≡ true → 2 ^ 64 ≤ value * 10 + (get_or word count 0 - 48)) → number_of word ≡ None
no_number word count value within is large =
    number_below-none (2 ^ 64) word (λ numeral below.
    let digit = all_digits-at word count within (numeral_parts word numeral).1 in
    let front : digits_value 10 (take (count + 1) word) ≤ digits_value 10 word = digits_value-take-le 10 word (count + 1) (omega arith) in
    absurd (omega (arith, large digit, value_more word count value within digit is, front, below)))

-- all bytes were read
pub whole_number : (word : List ℕ) (value : ℕ) → begins_as_number word ≡ true → HasRead word (length word) value → number_of word ≡ Some value
whole_number word value begins is =
    let same : value ≡ digits_value 10 word = is.value_is ∙ ap (digits_value 10) (take_all (length word) word (omega arith)) in
    number_below-some (2 ^ 64) word (and_from (begins_as_number word) (all_ascii_digits word) begins (all_digits-from word is.digits)) (subst (λ (n : ℕ). n < 2 ^ 64) same is.fits)
    ∙ ap Some (sym same)
