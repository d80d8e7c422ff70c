use Rattle.std.specs.Prelude.{ℕ, List, Bool, ◌&&◌}
use Rattle.std.specs.List.{list_any}
use Rattle.casper_words.specs.Crew.{has_member}
use Rattle.casper_trail.specs.declared.item.Item.{Item}
use Rattle.casper_trail.specs.Value.{writes_page}
use Rattle.casper_trail.specs.Parts.{open_entries}

-- whether a page has an open write
abbrev pub is_modified : List Item → ℕ → Bool
is_modified items page = list_any (writes_page page) (open_entries items)

-- whether a page has an open write of one of these clients
abbrev pub is_modified_by : List ℕ → List Item → ℕ → Bool
is_modified_by members items page = list_any (λ entry. writes_page page entry && has_member entry.who members) (open_entries items)
