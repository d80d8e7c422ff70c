use Rattle.std.specs.Prelude.{ℕ, Bool, true, false, ◌&&◌, ◌||◌, ◌==◌, List, [], ◌∷◌, ◌++◌, Option, Some, None, nat_lt, if◌then◌else◌, fold, option_and_then}
use Rattle.std.specs.Option.{option_map_or}
use Rattle.casper_trail.specs.declared.item.Item.{Item}
use Rattle.casper_trail.specs.Value.{zero_pages}
use Rattle.casper_trail.specs.Image.{with_word}
use Rattle.casper_audit.specs.declared.parse.BaseWord.{BaseWord}
use Rattle.casper_audit.specs.declared.parse.Parsed.{Parsed}
use Rattle.casper_audit.specs.declared.parse.Parsed.TheVariants as parsed
use Rattle.casper_audit.specs.Lines.{line_parsed}

-- what the lines of a trail's text say: the words that were not zero before the trail, and its items
pub record TrailText : Type 0 where
  pub words : List BaseWord
  pub items : List Item

-- how many pages a store may have in a trail's text
unfoldable pub most_pages : ℕ
most_pages = 262144

abbrev pub with_base : List (List ℕ) → BaseWord → List (List ℕ)
with_base array word = with_word array word.page word.word word.value

-- the array before the trail: zero but for these words
unfoldable pub base_of : List BaseWord → List (List ℕ)
base_of words = fold with_base (zero_pages most_pages) words

-- whether a word stands before another: on a lower page, or earlier on the same page
abbrev pub is_before : BaseWord → BaseWord → Bool
is_before one other = nat_lt one.page other.page || ((one.page == other.page) && nat_lt one.word other.word)

abbrev pub last_word : List BaseWord → Option BaseWord
last_word words = fold (λ last word. Some word) None words

abbrev pub rises : List BaseWord → BaseWord → Bool
rises words word = option_map_or (λ last. is_before last word) (last_word words) true

abbrev pub has_none : List Item → Bool
has_none [] = true
has_none (first ∷ items) = false

-- a word before the trail stands before all items, and rises above the last
abbrev pub after_base : TrailText → BaseWord → Option TrailText
after_base text word = if has_none text.items && rises text.words word then Some (record text { words = text.words ++ word ∷ [] }) else None

-- a text and what one line more says, where the line may stand there
abbrev pub after_parsed : TrailText → Parsed → Option TrailText
after_parsed text parsed.Skip = Some text
after_parsed text (parsed.Base word) = after_base text word
after_parsed text (parsed.Item next) = Some (record text { items = text.items ++ next ∷ [] })
after_parsed text parsed.Bad = None

abbrev pub after_line : TrailText → List ℕ → Option TrailText
after_line text line = after_parsed text (line_parsed line)

abbrev pub no_text : TrailText
no_text = record { words = []; items = [] }

-- what these lines say, where each may stand in its place
abbrev pub text_of : List (List ℕ) → Option TrailText
text_of lines = fold (λ text line. option_and_then (λ before. after_line before line) text) (Some no_text) lines
