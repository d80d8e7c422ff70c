use Rattle.std.specs.Prelude.{◌≡◌, ℕ, ◌-◌, ◌≤◌, List, ◌++◌, length, take, drop, replicate}
use Rattle.std.proofs.Common.{arith}
use Rattle.std.proofs.lemmas.List.{length-take-le, take-append-drop}

-- a list at the head of an array, and a filler in the places after it
abbrev pub padded : {X : Type 0} → ℕ → X → List X → List X
padded size filler xs = xs ++ replicate (size - length xs) filler

-- an array holds a list of this length, and a filler in the places after it
pub record IsPadded {X : Type 0} (size : ℕ) (filler : X) (places : List X) (count : ℕ) : Type 0 where
  pub long : length places ≡ size
  pub within : count ≤ size
  pub rest : drop count places ≡ replicate (size - count) filler

-- the list has the count as its length
pub length_of_list : {X : Type 0} {size : ℕ} {filler : X} {places : List X} {count : ℕ} → IsPadded size filler places count → length (take count places) ≡ count
length_of_list {X} {size} {filler} {places} {count} p =
    let long : length places ≡ size = p.long in
    let within : count ≤ size = p.within in
    length-take-le count places (omega arith)

-- the list gives the array back
pub places_of_list : {X : Type 0} {size : ℕ} {filler : X} {places : List X} {count : ℕ} → IsPadded size filler places count → padded size filler (take count places) ≡ places
places_of_list {X} {size} {filler} {places} {count} p =
    rw (length_of_list p, ← p.rest) (take-append-drop count places)
