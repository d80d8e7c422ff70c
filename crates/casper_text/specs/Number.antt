use Rattle.std.specs.Prelude.{ℕ, ◌^◌, ◌==◌, Bool, false, ◌&&◌, ◌||◌, List, [], ◌∷◌, length, Option, Some, None, nat_lt, if◌then◌else◌}
use Rattle.std.specs.Int.{is_in_range}
use Rattle.std.specs.Str.{all_ascii_digits}
use Rattle.std.specs.Str.Parse.{digits_value}

-- a word that is `0` itself, or begins with another digit
abbrev pub begins_as_number : List ℕ → Bool
begins_as_number [] = false
begins_as_number (first ∷ rest) = is_in_range 49 57 first || (first == 48 && length rest == 0)

-- decimal digits with no sign, and no zero in front but in `0` itself
abbrev pub is_numeral : List ℕ → Bool
is_numeral word = begins_as_number word && all_ascii_digits word

-- the number below a limit that a word writes, if it writes one
unfoldable pub number_below : ℕ → List ℕ → Option ℕ
number_below limit word = if is_numeral word && nat_lt (digits_value 10 word) limit then Some (digits_value 10 word) else None

-- the number below 2 ^ 64 that a word writes, if it writes one
abbrev pub number_of : List ℕ → Option ℕ
number_of word = number_below (2 ^ 64) word
