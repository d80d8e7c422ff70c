use Rattle.std.specs.Prelude.{◌≡◌, ◌≤◌, ℕ, List}
use Rattle.casper_trail.specs.declared.item.Item.{Item}
use Rattle.casper_trail.specs.TrailView.{entry_count, commit_count, rollback_count}

-- the kept counts of a trail's items are right, and the entries are within the limit
pub record AreCounts (items : List Item) (limit entries commits rollbacks : ℕ) : Type 0 where
  pub entries_are : entries ≡ entry_count items
  pub commits_are : commits ≡ commit_count items
  pub rollbacks_are : rollbacks ≡ rollback_count items
  pub within : entries ≤ limit
