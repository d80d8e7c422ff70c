use Rattle.std.specs.Prelude.{◌≡◌, ℕ, ◌^◌, ◌<◌, ◌≤◌, List, [], ◌∷◌, Some, codes}
use Rattle.std.specs.Fmt.{decimal}
use Rattle.casper_words.specs.Name.{IsName}
use Rattle.casper_words.specs.declared.page.Ref.{Ref}
use Rattle.casper_text.specs.Laws.{reference_text}
use Rattle.casper_shell.specs.declared.line.ShellLine.{ShellLine}
use Rattle.casper_shell.specs.declared.line.ShellLine.TheVariants as line
use Rattle.casper_shell.specs.Writing.{line_of}

-- the words that write a line
abbrev pub words_of_line : ShellLine → List (List ℕ)
words_of_line (line.New page n) = codes "new" ∷ decimal page ∷ decimal n ∷ []
words_of_line (line.Set r i v) = codes "set" ∷ reference_text r ∷ decimal i ∷ decimal v ∷ []
words_of_line (line.SetRef r i to) = codes "ref" ∷ reference_text r ∷ decimal i ∷ reference_text to ∷ []
words_of_line (line.Get r i) = codes "get" ∷ reference_text r ∷ decimal i ∷ []
words_of_line (line.Follow r i) = codes "follow" ∷ reference_text r ∷ decimal i ∷ []
words_of_line (line.Free r) = codes "free" ∷ reference_text r ∷ []
words_of_line (line.Bind name r) = codes "bind" ∷ name ∷ reference_text r ∷ []
words_of_line (line.Unbind name) = codes "unbind" ∷ name ∷ []
words_of_line (line.Find name) = codes "find" ∷ name ∷ []
words_of_line line.Names = codes "names" ∷ []

-- a number that a word can write as a page, a word of a page or a field
abbrev pub IsSmall : ℕ → Type 0
IsSmall number = number < 2 ^ 32

abbrev pub IsPlace : Ref → Type 0
IsPlace r = IsSmall r.page × IsSmall r.word

abbrev pub IsCount : ℕ → Type 0
IsCount n = (1 ≤ n) × (n ≤ 64)

-- a line that words can write: its numbers are in their ranges
abbrev pub IsLine : ShellLine → Type 0
IsLine (line.New page n) = IsSmall page × IsCount n
IsLine (line.Set r i v) = IsPlace r × IsSmall i × (v < 2 ^ 64)
IsLine (line.SetRef r i to) = IsPlace r × IsSmall i × IsPlace to
IsLine (line.Get r i) = IsPlace r × IsSmall i
IsLine (line.Follow r i) = IsPlace r × IsSmall i
IsLine (line.Free r) = IsPlace r
IsLine (line.Bind name r) = IsName name × IsPlace r
IsLine (line.Unbind name) = IsName name
IsLine (line.Find name) = IsName name
IsLine line.Names = Unit {0}

-- the words of a line write that line
abbrev pub LinesAreReadBack : Type 0
LinesAreReadBack = (asked : ShellLine) → IsLine asked → line_of (words_of_line asked) ≡ Some asked

-- words that write a line are the words of that line, so that no others do
abbrev pub LinesHaveOneText : Type 0
LinesHaveOneText = (words : List (List ℕ)) (asked : ShellLine) → line_of words ≡ Some asked → IsLine asked × (words ≡ words_of_line asked)
