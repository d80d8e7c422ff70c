use Rattle.std.specs.Prelude.{◌≡◌, ℕ, List, [], ◌∷◌, ◌++◌, ⊤}
use Rattle.casper_words.specs.declared.call.Op.TheVariants.{Read, Write, Touch}
use Rattle.casper_words.specs.declared.call.Op.{Op}
use Rattle.casper_trail.specs.declared.entry.Entry.{Entry}
use Rattle.casper_trail.specs.declared.item.Item.{Item}
use Rattle.casper_trail.specs.declared.item.Item.TheVariants as item
use Rattle.casper_trail.specs.Value.{value_of}
use Rattle.casper_trail.specs.Parts.{live_entries}
use Rattle.casper_trail.specs.EachInTurn.{EachInTurn}

-- a read has the value, and any other operation is free
abbrev pub IfRead : Op → Type 0 → Type 0
IfRead Read P = P
IfRead Write P = ⊤
IfRead Touch P = ⊤

-- an entry that reads has the word's value after these entries
abbrev pub IsRightAfter : List (List ℕ) → List Entry → Entry → Type 0
IsRightAfter base entries entry = IfRead entry.op (entry.value ≡ value_of base entries entry.page entry.word)

-- each of these entries reads the word's value over the entries before it, which begin with those given
abbrev pub AreRightAfter : List (List ℕ) → List Entry → List Entry → Type 0
AreRightAfter base before [] = ⊤
AreRightAfter base before (next ∷ following) = IsRightAfter base before next × AreRightAfter base (before ++ next ∷ []) following

-- an item after these: a read has the word's value over the entries that are live before it
abbrev pub IsLegalNext : List (List ℕ) → List Item → Item → Type 0
IsLegalNext base before (item.Entry entry) = IsRightAfter base (live_entries before) entry
IsLegalNext base before (item.Mark mark) = ⊤

-- each read has the word's value over the entries that were live before it
abbrev pub IsLegal : List (List ℕ) → List Item → Type 0
IsLegal base items = EachInTurn (IsLegalNext base) items
