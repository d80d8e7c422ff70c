use Rattle.std.specs.Prelude.{ℕ, ◌≡◌, ◌↔◌, ◌^◌, ◌<◌, ◌≤◌, List, ◌∷◌, ◌++◌, All, Some, decimal}
use Rattle.std.specs.List.{join_with_byte}
use Rattle.casper_words.specs.declared.page.Ref.{Ref}
use Rattle.casper_text.specs.Line.{words, IsWord}
use Rattle.casper_words.specs.Name.{IsName}
use Rattle.casper_text.specs.Name.{name_of}
use Rattle.casper_text.specs.Number.{number_below}
use Rattle.casper_text.specs.Reference.{reference_of}
use Rattle.casper_text.specs.Split.{IsSplit}

-- a line splits into its words, and into no other list
abbrev pub LinesSplitOneWay : Type 0
LinesSplitOneWay = (line : List ℕ) (list : List (List ℕ)) → IsSplit line list ↔ (words line ≡ list)

-- no word of a line is empty or has a space
abbrev pub WordsHaveNoSpace : Type 0
WordsHaveNoSpace = (line : List ℕ) → All IsWord (words line)

-- words with one space between each two are read back
abbrev pub JoinedWordsAreReadBack : Type 0
JoinedWordsAreReadBack = (list : List (List ℕ)) → All IsWord list → words (join_with_byte 32 list) ≡ list

-- a space parts a line into two lines
abbrev pub SpacesPartWords : Type 0
SpacesPartWords = (before after : List ℕ) → words (before ++ 32 ∷ after) ≡ words before ++ words after

-- a word writes a name exactly where it is the name's bytes
abbrev pub NamesAreTheirBytes : Type 0
NamesAreTheirBytes = (word bytes : List ℕ) → (name_of word ≡ Some bytes) ↔ (IsName bytes × (word ≡ bytes))

-- a number's text is read back as the number, below every limit that it is below
abbrev pub NumbersAreReadBack : Type 0
NumbersAreReadBack = (limit n : ℕ) → limit ≤ 2 ^ 64 → n < limit → number_below limit (decimal n) ≡ Some n

-- a word that writes a number is the number's text, so that no other word writes it
abbrev pub NumbersHaveOneText : Type 0
NumbersHaveOneText = (limit : ℕ) (word : List ℕ) (n : ℕ) → limit ≤ 2 ^ 64 → number_below limit word ≡ Some n → (n < limit) × (word ≡ decimal n)

-- the text of a reference: the page and the word, with a dot between them
abbrev pub reference_text : Ref → List ℕ
reference_text place = decimal place.page ++ 46 ∷ decimal place.word

-- a reference's text is read back as the reference
abbrev pub ReferencesAreReadBack : Type 0
ReferencesAreReadBack = (place : Ref) → place.page < 2 ^ 32 → place.word < 2 ^ 32 → reference_of (reference_text place) ≡ Some place

-- a word that writes a reference is the reference's text, so that no other word writes it
abbrev pub ReferencesHaveOneText : Type 0
ReferencesHaveOneText = (word : List ℕ) (place : Ref) → reference_of word ≡ Some place → (place.page < 2 ^ 32) × (place.word < 2 ^ 32) × (word ≡ reference_text place)
