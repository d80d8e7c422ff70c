use Rattle.std.specs.Prelude.{◌≡◌, ◌≢◌, ◌⊎◌, ◌↔◌, ℕ, List, [], ◌∷◌, All}
use Rattle.std.specs.Fmt.{decimal}
use Rattle.casper_words.specs.Crew.{IsClient}
use Rattle.casper_text.specs.Line.{IsPrintable, words}
use Rattle.casper_app.specs.declared.schedule.Asked.{Asked}
use Rattle.casper_app.specs.declared.schedule.Parsed.TheVariants as parsed
use Rattle.casper_app.specs.Grammar.{words_of_asked, IsAskable}
use Rattle.casper_app.specs.Schedule.{parsed_line}

-- a line that begins with `#`
abbrev pub BeginsWithHash : List ℕ → Type 0
BeginsWithHash line = (rest : List ℕ) × (line ≡ 35 ∷ rest)

-- a line of bytes that may stand there, which is no comment
pub record IsPlain (line : List ℕ) : Type 0 where
  pub printable : All IsPrintable line
  pub uncommented : BeginsWithHash line → ⊥

-- a line that is skipped: a comment, or one without a word
abbrev pub IsSkipped : List ℕ → Type 0
IsSkipped line = All IsPrintable line × (BeginsWithHash line ⊎ (words line ≡ []))

-- a line that asks for something: its words are those of an event, or of a reopen
pub record AsksFor (line : List ℕ) (asked : Asked) : Type 0 where
  pub plain : IsPlain line
  pub askable : IsAskable asked
  pub words_are : words line ≡ words_of_asked asked

-- a line that asks for nothing and is known all the same: its first word is a client's number
pub record IsUnbuilt (line : List ℕ) : Type 0 where
  pub plain : IsPlain line
  pub first : List ℕ
  pub rest : List (List ℕ)
  pub words_are : words line ≡ first ∷ rest
  pub none : (asked : Asked) → IsAskable asked → words line ≢ words_of_asked asked
  pub known : (who : ℕ) × IsClient who × (first ≡ decimal who)

-- what a line is said to be is what it is, and each line is one of these and no other
pub record IsSorted (line : List ℕ) : Type 0 where
  pub skipped : (parsed_line line ≡ parsed.Skip) ↔ IsSkipped line
  pub asks : (asked : Asked) → (parsed_line line ≡ parsed.Asked asked) ↔ AsksFor line asked
  pub unbuilt : (parsed_line line ≡ parsed.Unbuilt) ↔ IsUnbuilt line
  pub bad : (parsed_line line ≡ parsed.Bad) ↔ ((IsSkipped line → ⊥) × ((asked : Asked) → AsksFor line asked → ⊥) × (IsUnbuilt line → ⊥))

abbrev pub LinesAreSorted : Type 0
LinesAreSorted = (line : List ℕ) → IsSorted line
