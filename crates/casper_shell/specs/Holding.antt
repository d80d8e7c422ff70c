use Rattle.std.specs.Prelude.{ℕ, ◌≡◌, ◌==◌, nat_lt, cond, List, [], ◌∷◌, All, Option, Some, IsSome}
use Rattle.casper_words.specs.declared.page.Right.{Right}
use Rattle.casper_words.specs.declared.page.Right.TheVariants as may
use Rattle.casper_words.specs.declared.page.Want.{Want}

-- whether what is held of a page allows this; to write allows to read
abbrev pub Allows : Option Right → Right → Type 0
Allows held may.Read = IsSome held
Allows held may.Write = held ≡ Some Right.Write

-- each wanted page is held with at least the right that is wanted
abbrev pub Holds : (ℕ → Option Right) → List Want → Type 0
Holds right wants = All (λ want. Allows (right want.page) want.right) wants

abbrev pub reading : ℕ → Want
reading page = record { page = page; right = Right.Read }

abbrev pub writing : ℕ → Want
writing page = record { page = page; right = Right.Write }

-- two wants, the lower page first
abbrev pub in_order : Want → Want → List Want
in_order one other = cond (nat_lt one.page other.page) (one ∷ other ∷ []) (other ∷ one ∷ [])

-- a page for writing, and a page for reading if it is another
abbrev pub writing_and_reading : ℕ → ℕ → List Want
writing_and_reading page other = cond (page == other) (writing page ∷ []) (in_order (writing page) (reading other))
