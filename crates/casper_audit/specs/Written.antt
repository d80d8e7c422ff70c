use Rattle.std.specs.Prelude.{◌≡◌, ◌≢◌, ℕ, ◌^◌, ◌<◌, List, [], ◌∷◌, map, codes, decimal}
use Rattle.casper_words.specs.declared.call.Op.TheVariants.{Read, Write, Touch}
use Rattle.casper_words.specs.declared.call.Op.{Op}
use Rattle.casper_words.specs.Crew.{IsClient, IsCrew}
use Rattle.casper_trail.specs.declared.entry.Entry.{Entry}
use Rattle.casper_trail.specs.declared.item.Item.{Item}
use Rattle.casper_trail.specs.declared.item.Item.TheVariants as item
use Rattle.casper_trail.specs.declared.mark.Mark.TheVariants.{Commit, Rollback}
use Rattle.casper_audit.specs.declared.parse.BaseWord.{BaseWord}
use Rattle.casper_audit.specs.declared.parse.Parsed.TheVariants as parsed
use Rattle.casper_audit.specs.Lines.{words_parsed}

-- the words of the line of an entry, by its operation
abbrev pub words_of_entry : Op → Entry → List (List ℕ)
words_of_entry Read entry = codes "r" ∷ decimal entry.who ∷ decimal entry.page ∷ decimal entry.word ∷ decimal entry.value ∷ []
words_of_entry Write entry = codes "w" ∷ decimal entry.who ∷ decimal entry.page ∷ decimal entry.word ∷ decimal entry.value ∷ []
words_of_entry Touch entry = codes "t" ∷ decimal entry.who ∷ decimal entry.page ∷ []

-- the words of the line of an item: of a mark, its lead or its lost client and the members, rising
abbrev pub words_of_item : Item → List (List ℕ)
words_of_item (item.Entry entry) = words_of_entry entry.op entry
words_of_item (item.Mark (Commit lead members)) = codes "commit" ∷ decimal lead ∷ map decimal members
words_of_item (item.Mark (Rollback lost members)) = codes "rollback" ∷ decimal lost ∷ map decimal members

-- the words of the line of a word before the trail
abbrev pub words_of_base : BaseWord → List (List ℕ)
words_of_base word = codes "b" ∷ decimal word.page ∷ decimal word.word ∷ decimal word.value ∷ []

-- a touch names no word and has no value
abbrev pub IsPlainTouch : Op → Entry → Type 0
IsPlainTouch Read entry = Unit {0}
IsPlainTouch Write entry = Unit {0}
IsPlainTouch Touch entry = (entry.word ≡ 0) × (entry.value ≡ 0)

-- the numbers of an item are in their ranges, and a mark has members
abbrev pub IsWritten : Item → Type 0
IsWritten (item.Entry entry) = IsClient entry.who × (entry.page < 262144) × (entry.word < 512) × (entry.value < 2 ^ 64) × IsPlainTouch entry.op entry
IsWritten (item.Mark (Commit lead members)) = IsClient lead × IsCrew members × (members ≢ [])
IsWritten (item.Mark (Rollback lost members)) = IsClient lost × IsCrew members × (members ≢ [])

-- the words of an item's line say that item
abbrev pub ItemsAreReadBack : Type 0
ItemsAreReadBack = (next : Item) → IsWritten next → words_parsed (words_of_item next) ≡ parsed.Item next

-- the words of the line of a word before the trail say that word
abbrev pub BaseWordsAreReadBack : Type 0
BaseWordsAreReadBack = (word : BaseWord) → word.page < 262144 → word.word < 512 → word.value < 2 ^ 64 → word.value ≢ 0
    → words_parsed (words_of_base word) ≡ parsed.Base word
