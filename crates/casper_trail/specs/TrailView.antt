use Rattle.std.specs.Prelude.{ℕ, List, Bool, true, false, count_by}
use Rattle.casper_trail.specs.declared.mark.Mark.TheVariants.{Commit, Rollback}
use Rattle.casper_trail.specs.declared.item.Item.{Item}
use Rattle.casper_trail.specs.declared.item.Item.TheVariants as item

-- what contracts see of a trail: its items, how many entries it may have, and how many items can be added before it needs memory
pub record TrailView : Type 0 where
  pub items : List Item
  pub limit : ℕ
  pub room : ℕ

abbrev pub is_entry : Item → Bool
is_entry (item.Entry entry) = true
is_entry (item.Mark mark) = false

abbrev pub is_commit : Item → Bool
is_commit (item.Entry entry) = false
is_commit (item.Mark (Commit lead members)) = true
is_commit (item.Mark (Rollback lost members)) = false

abbrev pub is_rollback : Item → Bool
is_rollback (item.Entry entry) = false
is_rollback (item.Mark (Commit lead members)) = false
is_rollback (item.Mark (Rollback lost members)) = true

-- how many entries, commit marks and rollback marks there are
abbrev pub entry_count : List Item → ℕ
entry_count items = count_by is_entry items

abbrev pub commit_count : List Item → ℕ
commit_count items = count_by is_commit items

abbrev pub rollback_count : List Item → ℕ
rollback_count items = count_by is_rollback items
