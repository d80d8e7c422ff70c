use Rattle.std.specs.Prelude.{ℕ, List, [], ◌∷◌, Bool, ◌&&◌, ◌||◌, cond, map}
use Rattle.casper_trail.specs.declared.entry.Entry.{Entry}
use Rattle.casper_trail.specs.declared.item.Item.{Item}
use Rattle.casper_trail.specs.declared.item.Item.TheVariants as item
use Rattle.casper_words.specs.Crew.{has_member}
use Rattle.casper_trail.specs.Fate.{Fate, fate_of, is_live, is_stable, is_open}

-- the entries whose client and fate pass the test, in order
abbrev pub entries_where : (ℕ → Fate → Bool) → List Item → List Entry
entries_where test [] = []
entries_where test (item.Entry entry ∷ following) =
    cond (test entry.who (fate_of entry.who following)) (entry ∷ entries_where test following) (entries_where test following)
entries_where test (item.Mark mark ∷ following) = entries_where test following

-- the entries that are not dropped
abbrev pub live_entries : List Item → List Entry
live_entries items = entries_where (λ who fate. is_live fate) items

abbrev pub stable_entries : List Item → List Entry
stable_entries items = entries_where (λ who fate. is_stable fate) items

-- the entries that no later mark decided
abbrev pub open_entries : List Item → List Entry
open_entries items = entries_where (λ who fate. is_open fate) items

-- the stable entries, and the open ones of these clients
abbrev pub stable_or_open_of : List ℕ → List Item → List Entry
stable_or_open_of members items = entries_where (λ who fate. is_stable fate || (is_open fate && has_member who members)) items

-- entries as the items of a trail without marks
abbrev pub as_items : List Entry → List Item
as_items entries = map item.Entry entries
