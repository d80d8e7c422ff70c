use Rattle.std.specs.Prelude.{◌≡◌, List, ⊤}
use Rattle.casper_trail.specs.declared.mark.Mark.{Mark}
use Rattle.casper_trail.specs.declared.mark.Mark.TheVariants.{Commit, Rollback}
use Rattle.casper_trail.specs.declared.item.Item.{Item}
use Rattle.casper_trail.specs.declared.item.Item.TheVariants as item
use Rattle.casper_trail.specs.EachInTurn.{EachInTurn}
use Rattle.casper_trail.specs.Association.{association_of}

-- the members of a mark after these items are the association of its lead, or of the client that was lost
abbrev pub IsExactMark : List Item → Mark → Type 0
IsExactMark before (Commit lead members) = members ≡ association_of before lead
IsExactMark before (Rollback lost members) = members ≡ association_of before lost

abbrev pub IsExactNext : List Item → Item → Type 0
IsExactNext before (item.Entry entry) = ⊤
IsExactNext before (item.Mark mark) = IsExactMark before mark

-- the members of each mark are the association, in the items before it, of its lead or of the client that was lost
abbrev pub HasExactMarks : List Item → Type 0
HasExactMarks items = EachInTurn IsExactNext items
