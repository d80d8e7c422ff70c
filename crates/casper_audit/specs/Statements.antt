use Rattle.std.specs.Prelude.{◌≡◌, ℕ, Bool, true, false, List, [], ◌∷◌, ◌++◌, map, filter, Option, Some, None}
use Rattle.std.specs.Option.{option_map_or}
use Rattle.casper_trail.specs.declared.item.Item.{Item}
use Rattle.casper_audit.specs.declared.parse.BaseWord.{BaseWord}
use Rattle.casper_audit.specs.declared.parse.Parsed.{Parsed}
use Rattle.casper_audit.specs.declared.parse.Parsed.TheVariants as parsed
use Rattle.casper_audit.specs.Lines.{line_parsed}
use Rattle.casper_audit.specs.Text.{is_before, text_of}

-- whether a line is not skipped
abbrev pub is_stated : Parsed → Bool
is_stated parsed.Skip = false
is_stated (parsed.Base word) = true
is_stated (parsed.Item next) = true
is_stated parsed.Bad = true

-- what the lines say, without those that are skipped
abbrev pub statements : List (List ℕ) → List Parsed
statements lines = filter is_stated (map line_parsed lines)

-- each word rises above the one before it
abbrev pub AreRising : Option BaseWord → List BaseWord → Type 0
AreRising last [] = Unit {0}
AreRising last (word ∷ words) = (option_map_or (λ one. is_before one word) last true ≡ true) × AreRising (Some word) words

-- lines that say words, rising, and then items are a text, and it has these words and these items
abbrev pub TextsAreReadBack : Type 0
TextsAreReadBack = (lines : List (List ℕ)) (words : List BaseWord) (items : List Item)
    → statements lines ≡ map parsed.Base words ++ map parsed.Item items → AreRising None words
    → text_of lines ≡ Some (record { words = words; items = items })
