use Rattle.std.specs.Prelude.{ℕ, ◌^◌, Bool, true, false, ◌&&◌, ◌==◌, List, [], ◌∷◌, length, Option, Some, None, nat_le, nat_lt, if◌then◌else◌, codes, is_some, option_map, option_and_then}
use Rattle.std.specs.List.{before_first, after_first}
use Rattle.std.specs.Option.{option_map_or}
use Rattle.std.specs.Str.{bytes_eq}
use Rattle.casper_words.specs.declared.page.Right.{Right}
use Rattle.casper_words.specs.declared.page.Right.TheVariants as may
use Rattle.casper_words.specs.declared.page.Want.{Want}
use Rattle.casper_text.specs.Line.{all_printable, words}
use Rattle.casper_text.specs.Number.{number_of, number_below}
use Rattle.casper_model.specs.declared.event.Event.{Event}
use Rattle.casper_model.specs.declared.event.Event.TheVariants as event
use Rattle.casper_app.specs.declared.schedule.Asked.{Asked}
use Rattle.casper_app.specs.declared.schedule.Asked.TheVariants as asked
use Rattle.casper_app.specs.declared.schedule.Parsed.{Parsed}
use Rattle.casper_app.specs.declared.schedule.Parsed.TheVariants as parsed

-- the number of a page, or of a word of a page, that a word of a line gives
abbrev pub place_of : List ℕ → Option ℕ
place_of word = number_below (2 ^ 32) word

-- the client that a word of a line names
abbrev pub client_of : List ℕ → Option ℕ
client_of word = option_and_then (λ number. if nat_le 1 number && nat_le number 32 then Some number else None) (place_of word)

-- the client of words that name one and nothing more
abbrev pub lone_client : List (List ℕ) → Option ℕ
lone_client (client ∷ []) = client_of client
lone_client _ = None

-- the right that stands after a colon: `r` to read, `w` to write
abbrev pub right_of : List ℕ → Option Right
right_of (byte ∷ []) = if byte == 114 then Some may.Read else (if byte == 119 then Some may.Write else None)
right_of _ = None

-- the byte that parts a page from a right
abbrev pub is_colon : ℕ → Bool
is_colon byte = byte == 58

-- the want of a page and a right, where both are there
abbrev pub want_from : Option ℕ → Option Right → Option Want
want_from None right = None
want_from (Some page) None = None
want_from (Some page) (Some right) = Some record { page = page; right = right }

-- the want that a word writes: a page before the first colon, and a right after it
unfoldable pub want_of : List ℕ → Option Want
want_of word = want_from (place_of (before_first is_colon word)) (right_of (after_first is_colon word))

-- the wants that words write, one each
abbrev pub each_want : List (List ℕ) → Option (List Want)
each_want [] = Some []
each_want (word ∷ words) = option_and_then (λ want. option_map (λ wants. want ∷ wants) (each_want words)) (want_of word)

-- whether the page of each want is above that of the want before it, the first one's above this page
abbrev pub rise_above : ℕ → List Want → Bool
rise_above page [] = true
rise_above page (want ∷ wants) = nat_lt page want.page && rise_above want.page wants

-- whether there are one to four wants, with pages strictly rising
abbrev pub are_wants : List Want → Bool
are_wants [] = false
are_wants (want ∷ wants) = nat_le (length wants) 3 && rise_above want.page wants

-- a list of wants, where one acquire may ask for it
abbrev pub rising_wants : List Want → Option (List Want)
rising_wants wants = if are_wants wants then Some wants else None

-- the wants of an acquire that words write
abbrev pub wants_of : List (List ℕ) → Option (List Want)
wants_of words = option_and_then rising_wants (each_want words)

-- what stands after `join`: a client
abbrev pub join_of : List (List ℕ) → Option Event
join_of rest = option_map (λ who. event.Join who) (lone_client rest)

-- what stands after `read`: a client, a page and a word
abbrev pub read_of : List (List ℕ) → Option Event
read_of (client ∷ page ∷ word ∷ []) =
    option_and_then (λ who. option_and_then (λ p. option_map (λ w. event.Read who p w) (place_of word)) (place_of page)) (client_of client)
read_of _ = None

-- what stands after `write`: a client, a page, a word and a value
abbrev pub write_of : List (List ℕ) → Option Event
write_of (client ∷ page ∷ word ∷ value ∷ []) =
    option_and_then (λ who. option_and_then (λ p. option_and_then (λ w. option_map (λ v. event.Write who p w v) (number_of value)) (place_of word)) (place_of page)) (client_of client)
write_of _ = None

-- what stands after `acquire`: a client, and one to four wants with pages strictly rising
abbrev pub acquire_of : List (List ℕ) → Option Event
acquire_of [] = None
acquire_of (client ∷ wanted) = option_and_then (λ who. option_map (λ wants. event.Acquire who wants) (wants_of wanted)) (client_of client)

-- what stands after `serve`: a client
abbrev pub serve_of : List (List ℕ) → Option Event
serve_of rest = option_map (λ who. event.Serve who) (lone_client rest)

-- what stands after `depart`: a client
abbrev pub depart_of : List (List ℕ) → Option Event
depart_of rest = option_map (λ who. event.Depart who) (lone_client rest)

-- what stands after `vanish`: a client
abbrev pub vanish_of : List (List ℕ) → Option Event
vanish_of rest = option_map (λ who. event.Vanish who) (lone_client rest)

-- what stands after `lose`: a client
abbrev pub lose_of : List (List ℕ) → Option Event
lose_of rest = option_map (λ who. event.Lose who) (lone_client rest)

-- what stands after `stabilise`: a client
abbrev pub stabilise_of : List (List ℕ) → Option Event
stabilise_of rest = option_map (λ who. event.Stabilise who) (lone_client rest)

-- what stands after `writeout`: the lead of an association
abbrev pub write_out_of : List (List ℕ) → Option Event
write_out_of rest = option_map (λ who. event.WriteOut who) (lone_client rest)

-- what stands after `finish`: the lead of an association
abbrev pub finish_of : List (List ℕ) → Option Event
finish_of rest = option_map (λ who. event.Finish who) (lone_client rest)

-- what stands after `settle`: nothing
abbrev pub settle_of : List (List ℕ) → Option Event
settle_of [] = Some event.Settle
settle_of _ = None

-- the event that a verb and the words after it ask for
abbrev pub event_of_verb : List ℕ → List (List ℕ) → Option Event
event_of_verb verb rest =
    if bytes_eq verb (codes "join") then join_of rest else
    (if bytes_eq verb (codes "read") then read_of rest else
    (if bytes_eq verb (codes "write") then write_of rest else
    (if bytes_eq verb (codes "acquire") then acquire_of rest else
    (if bytes_eq verb (codes "serve") then serve_of rest else
    (if bytes_eq verb (codes "depart") then depart_of rest else
    (if bytes_eq verb (codes "vanish") then vanish_of rest else
    (if bytes_eq verb (codes "lose") then lose_of rest else
    (if bytes_eq verb (codes "stabilise") then stabilise_of rest else
    (if bytes_eq verb (codes "writeout") then write_out_of rest else
    (if bytes_eq verb (codes "finish") then finish_of rest else
    (if bytes_eq verb (codes "settle") then settle_of rest else None)))))))))))

-- the event that the words of a line ask for
abbrev pub event_of : List (List ℕ) → Option Event
event_of [] = None
event_of (verb ∷ rest) = event_of_verb verb rest

-- whether these are the words of a reopen: the verb alone
abbrev pub is_reopen : List (List ℕ) → Bool
is_reopen [] = false
is_reopen (verb ∷ []) = bytes_eq verb (codes "reopen")
is_reopen (verb ∷ next ∷ rest) = false

-- what the words of a line ask for
abbrev pub asked_of : List (List ℕ) → Option Asked
asked_of words = if is_reopen words then Some asked.Reopen else option_map (λ one. asked.Event one) (event_of words)

-- a line that begins with a client's number is not built yet
abbrev pub is_unbuilt : List ℕ → Bool
is_unbuilt first = is_some (client_of first)

-- a line that begins with `#`
abbrev pub is_comment : List ℕ → Bool
is_comment [] = false
is_comment (byte ∷ bytes) = byte == 35

-- what words are that ask for nothing
abbrev pub refused_as : List ℕ → Parsed
refused_as first = if is_unbuilt first then parsed.Unbuilt else parsed.Bad

-- what the words of a line are
abbrev pub parsed_words : List (List ℕ) → Parsed
parsed_words [] = parsed.Skip
parsed_words (first ∷ rest) = option_map_or (λ one. parsed.Asked one) (asked_of (first ∷ rest)) (refused_as first)

-- what a line of at most 1,024 bytes is
abbrev pub parsed_line : List ℕ → Parsed
parsed_line line = if all_printable line then (if is_comment line then parsed.Skip else parsed_words (words line)) else parsed.Bad
