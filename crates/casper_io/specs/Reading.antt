use Rattle.std.specs.Prelude.{◌≡◌, ℕ, List, [], ◌∷◌, Option, Result, ◌⊎◌}
use Rattle.casper_io.specs.declared.fault.IoFault.{IoFault}
use Rattle.casper_io.specs.declared.lines.Next.{Next}
use Rattle.casper_io.specs.Lines.{Takes, TakesLine}
use Rattle.casper_io.specs.Told.{WhereTold}

-- the greatest number of lines of one input
abbrev pub most_lines : ℕ
most_lines = 1048576

-- these lines stand one after another at the front of the bytes before, where told
abbrev pub ReadsLines : Option (List ℕ) → List (List ℕ) → Option (List ℕ) → Type 0
ReadsLines before [] after = before ≡ after
ReadsLines before (line ∷ lines) after = (between : Option (List ℕ)) × WhereTold before between (TakesLine line) × ReadsLines between lines after

-- whatever stands next was taken, or nothing was
abbrev pub TakesAny : Option (List ℕ) → Option (List ℕ) → Type 0
TakesAny before after = (before ≡ after) ⊎ ((answer : Result Next IoFault) × (line : List ℕ) × WhereTold before after (Takes answer line))
