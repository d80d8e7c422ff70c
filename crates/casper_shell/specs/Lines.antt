use Rattle.std.specs.Prelude.{ℕ, ◌≤◌, Bool, true, ◌&&◌, not, ◌==◌, nat_lt, List, [], ◌∷◌}
use Rattle.casper_words.specs.declared.page.Ref.{Ref}
use Rattle.casper_words.specs.declared.page.Want.{Want}
use Rattle.casper_shell.specs.declared.line.ShellLine.{ShellLine}
use Rattle.casper_shell.specs.declared.line.ShellLine.TheVariants as line
use Rattle.casper_shell.specs.Holding.{reading, writing, writing_and_reading}

-- a page that may have objects: any page of the store but page 0
abbrev pub is_heap_page : ℕ → ℕ → Bool
is_heap_page pages page = not (page == 0) && nat_lt page pages

-- a word of such a page
abbrev pub is_heap_word : ℕ → Ref → Bool
is_heap_word pages r = is_heap_page pages r.page && nat_lt r.word 512

-- whether each page and word of a line is within a store of so many pages
abbrev pub is_within : ℕ → ShellLine → Bool
is_within pages (line.New page n) = is_heap_page pages page
is_within pages (line.Set r i v) = is_heap_word pages r
is_within pages (line.SetRef r i to) = is_heap_word pages r && is_heap_word pages to
is_within pages (line.Get r i) = is_heap_word pages r
is_within pages (line.Follow r i) = is_heap_word pages r
is_within pages (line.Free r) = is_heap_word pages r
is_within pages (line.Bind name r) = is_heap_word pages r
is_within pages (line.Unbind name) = true
is_within pages (line.Find name) = true
is_within pages line.Names = true

-- the pages that a line holds, with their rights
abbrev pub wants_of : ShellLine → List Want
wants_of (line.New page n) = writing page ∷ []
wants_of (line.Set r i v) = writing r.page ∷ []
wants_of (line.SetRef r i to) = writing_and_reading r.page to.page
wants_of (line.Get r i) = reading r.page ∷ []
wants_of (line.Follow r i) = reading r.page ∷ []
wants_of (line.Free r) = writing r.page ∷ []
wants_of (line.Bind name r) = writing_and_reading 0 r.page
wants_of (line.Unbind name) = writing 0 ∷ []
wants_of (line.Find name) = reading 0 ∷ []
wants_of line.Names = reading 0 ∷ []

-- an object has 1 to 64 fields
abbrev pub HasFields : ShellLine → Type 0
HasFields (line.New page n) = (1 ≤ n) × (n ≤ 64)
HasFields other = Unit {0}
