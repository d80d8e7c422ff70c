use Rattle.std.specs.Prelude.{ℕ, ◌+◌, ◌*◌, Bool, false, ◌&&◌, nat_le, cond, List, [], ◌∷◌, ◌++◌, length, take, map, position, slice_index, slice_set, Option, None, Some, option_map}
use Rattle.std.specs.Int.{w64, to_le_bytes}
use Rattle.std.specs.List.{flat_map, list_all, range_with_len}
use Rattle.std.specs.Str.{bytes_eq}
use Rattle.casper_words.specs.Name.{is_name_byte}
use Rattle.casper_words.specs.declared.call.Call.{Call}
use Rattle.casper_space.specs.WordCalls.{read_of, write_of}

-- the table has 64 entries of five words: the length of the name, three words of its bytes, and the reference
abbrev pub length_place : ℕ → ℕ
length_place entry = 5 * entry

abbrev pub value_place : ℕ → ℕ
value_place entry = 5 * entry + 4

-- whether bytes are a name
abbrev pub is_name : List ℕ → Bool
is_name bytes = nat_le 1 (length bytes) && nat_le (length bytes) 24 && list_all is_name_byte bytes

-- the bytes of three words, each little-endian
abbrev pub bytes_of : ℕ → ℕ → ℕ → List ℕ
bytes_of first second third = to_le_bytes w64 first ++ to_le_bytes w64 second ++ to_le_bytes w64 third

-- a length that a name may have
abbrev pub is_length : ℕ → Bool
is_length count = nat_le 1 count && nat_le count 24

-- the name of an entry by its length and its words of bytes, where it is valid
abbrev pub name_by : ℕ → ℕ → ℕ → ℕ → Option (List ℕ)
name_by count first second third =
    cond (is_length count) (let bytes = take count (bytes_of first second third) in cond (list_all is_name_byte bytes) (Some bytes) None) None

-- the name of an entry
abbrev pub name_at : List ℕ → ℕ → Option (List ℕ)
name_at words entry =
    name_by (slice_index words (5 * entry)) (slice_index words (5 * entry + 1)) (slice_index words (5 * entry + 2)) (slice_index words (5 * entry + 3))

-- the names of all entries, in order
unfoldable pub entries_of : List ℕ → List (Option (List ℕ))
entries_of words = map (name_at words) (range_with_len 0 64)

-- whether an entry has this name
abbrev pub is_named : List ℕ → Option (List ℕ) → Bool
is_named name None = false
is_named name (Some bytes) = bytes_eq bytes name

-- the first valid entry with a name
abbrev pub entry_of : List ℕ → List ℕ → Option ℕ
entry_of words name = position (is_named name) (entries_of words)

-- the names: what each leads to, by the first valid entry with that name
abbrev pub names_of : List ℕ → List ℕ → Option ℕ
names_of words name = option_map (λ entry. slice_index words (value_place entry)) (entry_of words name)

-- the call that reads a word of the table's page
abbrev pub table_read : List ℕ → ℕ → Call
table_read words word = read_of 0 word (slice_index words word)

-- the reads of an entry: its length, and its words of bytes where a name may have that length
abbrev pub entry_reads : List ℕ → ℕ → List Call
entry_reads words entry =
    table_read words (5 * entry)
    ∷ cond (is_length (slice_index words (5 * entry)))
    (table_read words (5 * entry + 1) ∷ table_read words (5 * entry + 2) ∷ table_read words (5 * entry + 3) ∷ []) []

-- the calls of a scan of the table
unfoldable pub scan_calls : List ℕ → List Call
scan_calls words = flat_map (entry_reads words) (range_with_len 0 64)

-- the read of the value of an entry, where there is one
abbrev pub value_read : List ℕ → Option ℕ → List Call
value_read words None = []
value_read words (Some entry) = table_read words (value_place entry) ∷ []

abbrev pub lookup_calls : List ℕ → List ℕ → List Call
lookup_calls words name = scan_calls words ++ value_read words (entry_of words name)

-- the write that makes an entry invalid, where there is one
abbrev pub unbind_write : Option ℕ → List Call
unbind_write None = []
unbind_write (Some entry) = write_of 0 (length_place entry) 0 ∷ []

abbrev pub unbind_calls : List ℕ → List ℕ → List Call
unbind_calls words name = scan_calls words ++ unbind_write (entry_of words name)

-- the entries without one of them
abbrev pub without_entry : List (Option (List ℕ)) → Option ℕ → List (Option (List ℕ))
without_entry entries None = entries
without_entry entries (Some entry) = slice_set entries entry None

-- the name of an entry as a list; none where the entry is not valid
abbrev pub listed : Option (List ℕ) → List (List ℕ)
listed None = []
listed (Some name) = name ∷ []

-- the names of the valid entries, in the order of the entries
abbrev pub names_in : List (Option (List ℕ)) → List (List ℕ)
names_in entries = flat_map listed entries

-- the read of the value of an entry, where the entry is valid
abbrev pub valid_read : List ℕ → ℕ → Option (List ℕ) → List Call
valid_read words entry None = []
valid_read words entry (Some name) = table_read words (value_place entry) ∷ []

-- the reads of the values of all valid entries, in order
unfoldable pub valid_reads : List ℕ → List Call
valid_reads words = flat_map (λ entry. valid_read words entry (name_at words entry)) (range_with_len 0 64)

-- the calls of a list of the names: the scan, and the reads of the values
abbrev pub list_calls : List ℕ → List Call
list_calls words = scan_calls words ++ valid_reads words
