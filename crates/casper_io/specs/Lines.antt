use Rattle.std.specs.Prelude.{◌≡◌, ◌≢◌, ℕ, ◌≤◌, List, [], ◌∷◌, ◌++◌, length, All, ◌⊎◌, Result, Ok, Err}
use Rattle.casper_io.specs.declared.fault.IoFault.{IoFault}
use Rattle.casper_io.specs.declared.lines.Next.{Next}
use Rattle.casper_io.specs.declared.lines.Next.TheVariants as next

-- the byte that ends a line
abbrev pub newline : ℕ
newline = 10

-- the bytes of a line that is not too long, or of the part of one
pub record IsShortLine (line : List ℕ) : Type 0 where
  pub plain : All (λ byte. byte ≢ newline) line
  pub short : length line ≤ 1024

-- a line stands at the front: a newline ends it, or it has a byte and the bytes end with it
pub record TakesLine (line before after : List ℕ) : Type 0 where
  pub bytes : IsShortLine line
  pub cut : (before ≡ line ++ newline ∷ after) ⊎ ((before ≡ line) × (line ≢ []) × (after ≡ []))

-- there is no byte
pub record TakesEnd (line before after : List ℕ) : Type 0 where
  pub empty : line ≡ []
  pub nothing : before ≡ []
  pub rest : after ≡ []

-- 1,025 bytes with no newline stand at the front, of which `line` has all but the last
pub record TakesTooLong (line before after : List ℕ) : Type 0 where
  pub bytes : IsShortLine line
  pub full : length line ≡ 1024
  pub last : ℕ
  pub plain : last ≢ newline
  pub cut : before ≡ line ++ last ∷ after

-- a part of a line stands at the front
pub record TakesPart (line before after : List ℕ) : Type 0 where
  pub bytes : IsShortLine line
  pub cut : before ≡ line ++ after

-- what `next_line` takes from the bytes before to leave those after, with what it puts into the line
abbrev pub Takes : Result Next IoFault → List ℕ → List ℕ → List ℕ → Type 0
Takes (Ok next.Line) line before after = TakesLine line before after
Takes (Ok next.End) line before after = TakesEnd line before after
Takes (Ok next.TooLong) line before after = TakesTooLong line before after
Takes (Err fault) line before after = TakesPart line before after

-- a line, an end, or too long a line stands at the front of the bytes
abbrev pub HasCut : List ℕ → Type 0
HasCut before = (answer : Next) × (line : List ℕ) × (after : List ℕ) × Takes (Ok answer) line before after

-- two ways to take what stands at the front of the bytes agree
abbrev pub IsCutOnce : List ℕ → Type 0
IsCutOnce before = (answer answer' : Next) (line line' after after' : List ℕ)
    → Takes (Ok answer) line before after → Takes (Ok answer') line' before after'
    → (answer ≡ answer') × (line ≡ line') × (after ≡ after')

-- each list of bytes is cut in one way
abbrev pub EachIsCutOnce : Type 0
EachIsCutOnce = (bytes : List ℕ) → HasCut bytes × IsCutOnce bytes
