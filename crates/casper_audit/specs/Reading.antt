use Rattle.std.specs.Prelude.{◌≡◌, ℕ, ◌+◌, List, Option, None, ◌⊎◌}
use Rattle.casper_io.specs.Lines.{TakesLine, TakesTooLong}
use Rattle.casper_io.specs.Reading.{most_lines}
use Rattle.casper_io.specs.Told.{WhereTold}
use Rattle.casper_audit.specs.Text.{TrailText, after_line}

-- a line stands next that is too long, or that may not stand after the text before it, or that is one too many
abbrev pub TakesBadLine : TrailText → ℕ → Option (List ℕ) → Option (List ℕ) → Type 0
TakesBadLine text number before after = (line : List ℕ) × (WhereTold before after (TakesTooLong line)
    ⊎ (WhereTold before after (TakesLine line) × ((after_line text line ≡ None) ⊎ (number ≡ most_lines + 1))))
