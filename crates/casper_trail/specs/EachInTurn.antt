use Rattle.std.specs.Prelude.{List, [], ◌∷◌, ◌++◌, ⊤}
use Rattle.casper_trail.specs.declared.item.Item.{Item}

-- P holds of each item and the items before it, which begin with those given
abbrev pub EachAfter : (List Item → Item → Type 0) → List Item → List Item → Type 0
EachAfter P before [] = ⊤
EachAfter P before (next ∷ following) = P before next × EachAfter P (before ++ next ∷ []) following

-- P holds of each item and the items before it
abbrev pub EachInTurn : (List Item → Item → Type 0) → List Item → Type 0
EachInTurn P items = EachAfter P [] items
