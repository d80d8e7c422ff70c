use Rattle.std.specs.Prelude.{◌≡◌, ℕ, Bool, true, false, ◌==◌, not, if◌then◌else◌, List, [], ◌∷◌, ◌++◌, Option, None, filter, find, map, slice_set, slice_index, unwrap_or}
use Rattle.std.specs.Option.{option_map, option_to_list}
use Rattle.casper_words.specs.declared.page.Right.{Right}
use Rattle.casper_words.specs.declared.page.Right.TheVariants.{Read, Write}
use Rattle.casper_cache.specs.declared.held.Held.{Held}

-- whether this is the entry of a page
abbrev pub is_of : ℕ → Held → Bool
is_of page entry = entry.page == page

-- the entry of a page, where it is held
abbrev pub entry_of : ℕ → List Held → Option Held
entry_of page held = find (is_of page) held

-- the right to a page, where it is held
abbrev pub right_of : ℕ → List Held → Option Right
right_of page held = option_map (λ entry. entry.right) (entry_of page held)

-- whether a right is the right to write
abbrev pub is_to_write : Right → Bool
is_to_write Read = false
is_to_write Write = true

-- the first page that is held for writing
abbrev pub first_to_write : List Held → Option ℕ
first_to_write held = option_map (λ entry. entry.page) (find (λ entry. is_to_write entry.right) held)

-- the words of a page, where it is held
abbrev pub words_of : ℕ → List Held → Option (List ℕ)
words_of page held = option_map (λ entry. entry.words) (entry_of page held)

-- a word of a page, where it is held
abbrev pub word_of : ℕ → ℕ → List Held → ℕ
word_of page word held = slice_index (unwrap_or (words_of page held) []) word

-- the entries of the other pages, in their order
abbrev pub others : ℕ → List Held → List Held
others page held = filter (λ entry. not (is_of page entry)) held

-- the page first, and the others in their order
abbrev pub front_of : ℕ → List Held → List Held
front_of page held = option_to_list (entry_of page held) ++ others page held

-- the entry with one word changed
abbrev pub with_word : ℕ → ℕ → Held → Held
with_word word value entry = record entry { words = slice_set entry.words word value }

-- the page first with one word changed, and the others in their order
abbrev pub written : ℕ → ℕ → ℕ → List Held → List Held
written page word value held =
    option_to_list (option_map (with_word word value) (entry_of page held)) ++ others page held

-- the entry with this right
abbrev pub with_right : Right → Held → Held
with_right right entry = record entry { right = right }

-- the page held with this right, every entry in its place
abbrev pub graded : Right → ℕ → List Held → List Held
graded right page held = map (λ entry. if is_of page entry then with_right right entry else entry) held

-- the page held for reading, and for writing
abbrev pub lowered : ℕ → List Held → List Held
lowered page held = graded Read page held

abbrev pub raised : ℕ → List Held → List Held
raised page held = graded Write page held

-- no page stands twice
abbrev pub ArePagesDistinct : List Held → Type 0
ArePagesDistinct [] = Unit {0}
ArePagesDistinct (entry ∷ rest) = (entry_of entry.page rest ≡ None) × ArePagesDistinct rest
