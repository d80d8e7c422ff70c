use Rattle.std.specs.Prelude.{◌≡◌, ℕ, Bool, ◌&&◌, ◌==◌, cond, unwrap_or}
use Rattle.std.specs.HashMap.{get}
use Rattle.casper_audit.specs.declared.words.Place.{Place}
use Rattle.casper_audit.specs.declared.words.Values.{Values}
use Rattle.casper_audit.specs.declared.words.Words.{Words}

abbrev pub same_place : Place → Place → Bool
same_place one other = (one.page == other.page) && (one.word == other.word)

abbrev pub zeros : Values
zeros = record { live = 0; stable = 0 }

-- the values of a word
abbrev pub values_in : Words → Place → Values
values_in words place = unwrap_or (get same_place words.values place) zeros

abbrev pub live_in : Words → ℕ → ℕ → ℕ
live_in words page word = (values_in words (record { page = page; word = word })).live

abbrev pub stable_in : Words → ℕ → ℕ → ℕ
stable_in words page word = (values_in words (record { page = page; word = word })).stable

-- one word got these values, and every other word kept its own
abbrev pub SetsOnly : Words → Words → Place → Values → Type 0
SetsOnly before after place values = (other : Place) → values_in after other ≡ cond (same_place place other) values (values_in before other)
