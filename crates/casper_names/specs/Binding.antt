use Rattle.std.specs.Prelude.{◌≡◌, refl, codes, ℕ, ◌+◌, ◌*◌, Bool, true, false, cond, List, [], ◌∷◌, ◌++◌, length, take, drop, position, slice_set, Option, None, Some, Result, Ok, Err}
use Rattle.std.specs.Int.{w64, from_le_bytes}
use Rattle.std.specs.Str.{bytes_eq}
use Rattle.casper_words.specs.Padded.{padded}
use Rattle.casper_words.specs.declared.call.Call.{Call}
use Rattle.casper_words.specs.declared.page.Ref.{Ref}
use Rattle.casper_space.specs.WordCalls.{write_of}
use Rattle.casper_heap.specs.Walk.{walk_calls}
use Rattle.casper_heap.specs.Objects.{Field, objects_of}
use Rattle.casper_names.specs.declared.fault.NameFault.{NameFault}
use Rattle.casper_names.specs.Table.{entries_of, entry_of, scan_calls}

-- whether an entry is not valid
abbrev pub is_free : Option (List ℕ) → Bool
is_free None = true
is_free (Some name) = false

-- the entry that was found, else one that is not valid
abbrev pub found_or_free : Option ℕ → Option ℕ → Option ℕ
found_or_free None free = free
found_or_free (Some entry) free = Some entry

-- the entry where a name is bound: the first valid one with that name, else the first that is not valid
abbrev pub entry_for : List ℕ → List ℕ → Option ℕ
entry_for words name = found_or_free (entry_of words name) (position is_free (entries_of words))

-- the number that a reference is stored as
abbrev pub value_of_ref : Ref → ℕ
value_of_ref r = 512 * r.page + r.word

-- whether a name is bound, by the object and by the entry
abbrev pub answer_of_bind : Option (List Field) → Option ℕ → Result (Unit {0}) NameFault
answer_of_bind None entry = Err NameFault.NoObject
answer_of_bind (Some fields) None = Err NameFault.TableFull
answer_of_bind (Some fields) (Some entry) = Ok tt

-- a word of the bytes of a name, little-endian, with zeros after the last byte
abbrev pub name_word : List ℕ → ℕ → ℕ
name_word name word = from_le_bytes w64 (take 8 (drop (8 * word) (padded 24 0 name)))

-- the name `desk`, of the bytes 64, 65, 73 and 6b
desk_word : name_word (codes "desk") 0 ≡ 1802724708
desk_word = refl

-- the writes of the five words of an entry
abbrev pub entry_writes : ℕ → List ℕ → ℕ → List Call
entry_writes entry name value =
    write_of 0 (5 * entry) (length name)
    ∷ write_of 0 (5 * entry + 1) (name_word name 0)
    ∷ write_of 0 (5 * entry + 2) (name_word name 1)
    ∷ write_of 0 (5 * entry + 3) (name_word name 2)
    ∷ write_of 0 (5 * entry + 4) value ∷ []

-- the writes that bind a name, where there is an entry for it
abbrev pub bind_writes : Option ℕ → List ℕ → ℕ → List Call
bind_writes None name value = []
bind_writes (Some entry) name value = entry_writes entry name value

-- calls that are made where there is an object
abbrev pub with_an_object : Option (List Field) → List Call → List Call
with_an_object None calls = []
with_an_object (Some fields) calls = calls

-- the calls of a bind: the walk of the object's page, and where there is an object the scan, and the writes where there is an entry
abbrev pub bind_calls : (ℕ → List ℕ) → List ℕ → Ref → List Call
bind_calls pages name r =
    walk_calls pages r.page
    ++ with_an_object (objects_of pages r) (scan_calls (pages 0) ++ bind_writes (entry_for (pages 0) name) name (value_of_ref r))

-- the entries with a name in one of them
abbrev pub with_entry : List (Option (List ℕ)) → Option ℕ → List ℕ → List (Option (List ℕ))
with_entry entries None name = entries
with_entry entries (Some entry) name = slice_set entries entry (Some name)

-- names with what one of them leads to set; every other name stays
abbrev pub with_name : (List ℕ → Option ℕ) → List ℕ → ℕ → List ℕ → Option ℕ
with_name names name value other = cond (bytes_eq other name) (Some value) (names other)
