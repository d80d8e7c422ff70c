use Rattle.std.specs.Prelude.{ℕ, ◌<◌, ◌^◌, Bool, false, ◌&&◌, ◌||◌, ◌==◌, List, [], ◌∷◌, Option, Some, None, nat_le, nat_lt, if◌then◌else◌, codes, option_map, option_and_then, unwrap_or}
use Rattle.std.specs.Str.{bytes_eq}
use Rattle.casper_words.specs.declared.call.Op.TheVariants.{Read, Write, Touch}
use Rattle.casper_words.specs.Crew.{IsClient, has_member, crew_of}
use Rattle.casper_text.specs.Line.{words, all_printable}
use Rattle.casper_text.specs.Number.{number_of, number_below}
use Rattle.casper_trail.specs.declared.entry.Entry.{Entry}
use Rattle.casper_trail.specs.declared.item.Item.TheVariants as item
use Rattle.casper_trail.specs.declared.mark.Mark.TheVariants.{Commit, Rollback}
use Rattle.casper_audit.specs.declared.parse.Parsed.{Parsed}
use Rattle.casper_audit.specs.declared.parse.Parsed.TheVariants as parsed

-- a number below a limit, and no other
abbrev pub below : ℕ → ℕ → Option ℕ
below limit number = if nat_lt number limit then Some number else None

-- the client that a word of a line names
abbrev pub client_in : List ℕ → Option ℕ
client_in word = option_and_then (λ number. if nat_le 1 number && nat_le number 32 then Some number else None) (number_below (2 ^ 32) word)

-- the number of a page, and of a word of a page
abbrev pub page_in : List ℕ → Option ℕ
page_in word = option_and_then (below 262144) (number_below (2 ^ 32) word)

abbrev pub place_in : List ℕ → Option ℕ
place_in word = option_and_then (below 512) (number_below (2 ^ 32) word)

-- the members that words name after others, the greatest of which is given: each is greater than the one before it
abbrev pub members_behind : ℕ → List ℕ → List (List ℕ) → Option (List ℕ)
members_behind last members [] = if last == 0 then None else Some members
members_behind last members (word ∷ words) =
    option_and_then (λ who. if nat_le who last then None else members_behind who (crew_of (λ client. has_member client members || client == who)) words) (client_in word)

-- the members that words name: one or more, strictly rising
abbrev pub members_in : List (List ℕ) → Option (List ℕ)
members_in words = members_behind 0 [] words

-- a value of a word before the trail, which is not zero
abbrev pub base_from : ℕ → ℕ → ℕ → Option Parsed
base_from page word value = if value == 0 then None else Some (parsed.Base (record { page = page; word = word; value = value }))

abbrev pub base_in : List (List ℕ) → Option Parsed
base_in (page ∷ word ∷ value ∷ []) =
    option_and_then (λ p. option_and_then (λ w. option_and_then (λ v. base_from p w v) (number_of value)) (place_in word)) (page_in page)
base_in _ = None

abbrev pub entry_of : Entry → Parsed
entry_of entry = parsed.Item (item.Entry entry)

abbrev pub read_in : List (List ℕ) → Option Parsed
read_in (client ∷ page ∷ word ∷ value ∷ []) =
    option_and_then (λ who. option_and_then (λ p. option_and_then (λ w. option_map (λ v. entry_of (record { who = who; op = Read; page = p; word = w; value = v })) (number_of value)) (place_in word)) (page_in page)) (client_in client)
read_in _ = None

abbrev pub write_in : List (List ℕ) → Option Parsed
write_in (client ∷ page ∷ word ∷ value ∷ []) =
    option_and_then (λ who. option_and_then (λ p. option_and_then (λ w. option_map (λ v. entry_of (record { who = who; op = Write; page = p; word = w; value = v })) (number_of value)) (place_in word)) (page_in page)) (client_in client)
write_in _ = None

abbrev pub touch_in : List (List ℕ) → Option Parsed
touch_in (client ∷ page ∷ []) =
    option_and_then (λ who. option_map (λ p. entry_of (record { who = who; op = Touch; page = p; word = 0; value = 0 })) (page_in page)) (client_in client)
touch_in _ = None

abbrev pub commit_in : List (List ℕ) → Option Parsed
commit_in [] = None
commit_in (client ∷ rest) = option_and_then (λ lead. option_map (λ members. parsed.Item (item.Mark (Commit lead members))) (members_in rest)) (client_in client)

abbrev pub rollback_in : List (List ℕ) → Option Parsed
rollback_in [] = None
rollback_in (client ∷ rest) = option_and_then (λ lost. option_map (λ members. parsed.Item (item.Mark (Rollback lost members))) (members_in rest)) (client_in client)

-- what a verb and the words after it say
abbrev pub stated_by : List ℕ → List (List ℕ) → Option Parsed
stated_by verb rest =
    if bytes_eq verb (codes "b") then base_in rest else
    (if bytes_eq verb (codes "r") then read_in rest else
    (if bytes_eq verb (codes "w") then write_in rest else
    (if bytes_eq verb (codes "t") then touch_in rest else
    (if bytes_eq verb (codes "commit") then commit_in rest else
    (if bytes_eq verb (codes "rollback") then rollback_in rest else None)))))

-- the places that a line names lie within a store
abbrev pub IsInRange : Parsed → Type 0
IsInRange parsed.Skip = Unit {0}
IsInRange (parsed.Base word) = (word.page < 262144) × (word.word < 512)
IsInRange (parsed.Item (item.Entry entry)) = IsClient entry.who × (entry.page < 262144) × (entry.word < 512)
IsInRange (parsed.Item (item.Mark (Commit lead members))) = IsClient lead
IsInRange (parsed.Item (item.Mark (Rollback lost members))) = IsClient lost
IsInRange parsed.Bad = Unit {0}

-- a line that begins with `#`
abbrev pub is_comment : List ℕ → Bool
is_comment [] = false
is_comment (byte ∷ bytes) = byte == 35

-- what the words of a line say
abbrev pub words_parsed : List (List ℕ) → Parsed
words_parsed [] = parsed.Skip
words_parsed (verb ∷ rest) = unwrap_or (stated_by verb rest) parsed.Bad

-- what a line of at most 1,024 bytes says
abbrev pub line_parsed : List ℕ → Parsed
line_parsed line = if all_printable line then (if is_comment line then parsed.Skip else words_parsed (words line)) else parsed.Bad
