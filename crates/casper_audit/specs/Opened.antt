use Rattle.std.specs.Prelude.{ℕ, ◌-◌, Bool, List, [], slice_index_or, map}
use Rattle.std.specs.List.{list_any}
use Rattle.casper_audit.specs.declared.opened.Opened.{Opened}
use Rattle.casper_audit.specs.declared.words.Place.{Place}
use Rattle.casper_audit.specs.Words.{same_place}

-- the places of a client's open writes
abbrev pub places_in : Opened → ℕ → List Place
places_in opened client = slice_index_or (map (λ list. list.items) opened.places.items) (client - 1) []

-- whether a place is among others
abbrev pub is_among : List Place → Place → Bool
is_among places place = list_any (λ other. same_place other place) places

abbrev pub opened_in : Opened → ℕ → ℕ → ℕ → Bool
opened_in opened client page word = is_among (places_in opened client) (record { page = page; word = word })
