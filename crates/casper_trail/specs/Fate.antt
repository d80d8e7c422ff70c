use Rattle.std.specs.Prelude.{ℕ, List, [], ◌∷◌, Bool, true, false, cond}
use Rattle.casper_trail.specs.declared.mark.Mark.{Mark}
use Rattle.casper_trail.specs.declared.mark.Mark.TheVariants.{Commit, Rollback}
use Rattle.casper_trail.specs.declared.item.Item.{Item}
use Rattle.casper_trail.specs.declared.item.Item.TheVariants as item
use Rattle.casper_words.specs.Crew.{has_member}

-- what became of an entry
pub data Fate : Type 0 where
  Stable Dropped Open : Fate

abbrev pub members_of : Mark → List ℕ
members_of (Commit lead members) = members
members_of (Rollback lost members) = members

-- what a mark makes of the open entries of its members
abbrev pub fate_by : Mark → Fate
fate_by (Commit lead members) = Stable
fate_by (Rollback lost members) = Dropped

-- the fate of an entry of a client, by the first mark among the items that follow whose members hold the client
abbrev pub fate_of : ℕ → List Item → Fate
fate_of who [] = Open
fate_of who (item.Entry entry ∷ following) = fate_of who following
fate_of who (item.Mark mark ∷ following) = cond (has_member who (members_of mark)) (fate_by mark) (fate_of who following)

abbrev pub is_stable : Fate → Bool
is_stable Stable = true
is_stable Dropped = false
is_stable Open = false

abbrev pub is_open : Fate → Bool
is_open Stable = false
is_open Dropped = false
is_open Open = true

abbrev pub is_live : Fate → Bool
is_live Stable = true
is_live Dropped = false
is_live Open = true

-- the fate by the items that follow first, and else by those after them
abbrev pub decided_first : Fate → Fate → Fate
decided_first Stable later = Stable
decided_first Dropped later = Dropped
decided_first Open later = later
