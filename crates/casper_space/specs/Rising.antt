use Rattle.std.specs.Prelude.{ℕ, List, [], ◌∷◌, ◌==◌, nat_lt, cond, fold}

-- a rising list with a number, which stands in it once
abbrev pub with_number : List ℕ → ℕ → List ℕ
with_number [] number = number ∷ []
with_number (first ∷ following) number =
    cond (first == number) (first ∷ following) (cond (nat_lt number first) (number ∷ first ∷ following) (first ∷ with_number following number))

-- a rising list with these numbers
abbrev pub with_numbers : List ℕ → List ℕ → List ℕ
with_numbers list numbers = fold with_number list numbers

-- these numbers, rising, each once
abbrev pub rising : List ℕ → List ℕ
rising numbers = with_numbers [] numbers
