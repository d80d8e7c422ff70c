use Rattle.std.specs.Prelude.{ℕ, Bool, ◌&&◌, nat_le, List, length, Option, Some, None, if◌then◌else◌}
use Rattle.std.specs.List.{list_all}
use Rattle.casper_words.specs.Name.{is_name_byte}

-- whether bytes are a name's: 1 to 24 of its alphabet
abbrev pub is_name : List ℕ → Bool
is_name word = nat_le 1 (length word) && nat_le (length word) 24 && list_all is_name_byte word

-- the name that a word writes, as the list of its bytes, if it writes one
unfoldable pub name_of : List ℕ → Option (List ℕ)
name_of word = if is_name word then Some word else None
