use Rattle.std.specs.Prelude.{◌≡◌, ◌≢◌, ℕ, ◌≤◌, List, [], ◌∷◌, ◌++◌, length, Option, All}
use Rattle.std.specs.Io.KnownBytes.{prepend_known}
use Rattle.casper_io.specs.declared.piece.Piece.{Piece}
use Rattle.casper_io.specs.declared.piece.Piece.TheVariants as piece
use Rattle.casper_io.specs.Lines.{newline}
use Rattle.casper_io.specs.Told.{WhereTold, AreBothEmpty}

-- a line grew by these bytes, none of which is a newline, and is not too long
pub record AddsBytes (given line line_after : List ℕ) : Type 0 where
  pub plain : All (λ byte. byte ≢ newline) given
  pub added : line_after ≡ line ++ given
  pub short : length line_after ≤ 1024

-- what a source gave to a line, and took from the bytes left
abbrev pub GivesPiece : Piece → List ℕ → List ℕ → Option (List ℕ) → Option (List ℕ) → Type 0
GivesPiece piece.Part line line_after left left_after =
    (given : List ℕ) × AddsBytes given line line_after × (given ≢ []) × (left ≡ prepend_known given left_after)
GivesPiece piece.Rest line line_after left left_after =
    (given : List ℕ) × AddsBytes given line line_after × (left ≡ prepend_known (given ++ newline ∷ []) left_after)
GivesPiece piece.TooLong line line_after left left_after =
    (given : List ℕ) × AddsBytes given line line_after × (length line_after ≡ 1024) × (last : ℕ) × (last ≢ newline) × (left ≡ prepend_known (given ++ last ∷ []) left_after)
GivesPiece piece.End line line_after left left_after = (line_after ≡ line) × WhereTold left left_after AreBothEmpty
