use Rattle.std.specs.Prelude.{◌≡◌, ℕ, List, Option, String, map}
use Rattle.std.specs.Iterator.{Drains}
use Rattle.std.specs.String.{string_bytes}

-- the words are the texts that an iterator gives, each in its place
abbrev pub AreTexts : {I Z : Type 0} → (I → Option (String Z) → I → Type 0) → I → List (List ℕ) → Type 0
AreTexts {Z = Z} next texts words = (given : List (String Z)) × Drains next texts given × (words ≡ map string_bytes given)
