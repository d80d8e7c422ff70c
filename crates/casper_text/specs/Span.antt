use Rattle.std.specs.Prelude.{ℕ, ◌<◌, ◌≤◌, List, [], ◌∷◌, length, slice_range, nat_lt, if◌then◌else◌}
use Rattle.casper_text.specs.declared.span.Span.{Span}

-- the bytes of a line at a place
abbrev pub word_at : List ℕ → Span → List ℕ
word_at line span = slice_range line span.from span.to

-- a place holds a byte at least, and lies within the line
abbrev pub IsWithin : List ℕ → Span → Type 0
IsWithin line span = (span.from < span.to) × (span.to ≤ length line)

-- the place from one byte up to another, if it holds a byte
abbrev pub spans_between : ℕ → ℕ → List Span
spans_between from to = if nat_lt from to then record { from = from; to = to } ∷ [] else []
