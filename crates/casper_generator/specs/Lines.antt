use Rattle.std.specs.Prelude.{ℕ, zero, suc, ◌+◌, ◌-◌, ◌/◌, ◌%◌, ◌^◌, ◌==◌, nat_lt, List, [], ◌∷◌, ◌++◌, map, Option, Some, None, if◌then◌else◌}
use Rattle.std.specs.List.{range_with_len}
use Rattle.rand_xoshiro.specs.SplitMix64.{mix_u64}
use Rattle.casper_generator.specs.declared.gen_line.GenLine.{GenLine}
use Rattle.casper_generator.specs.declared.gen_line.GenLine.TheVariants as gen

-- the word that a state of the generator of random words gives, and the state after it
unfoldable pub word_of : ℕ → ℕ
word_of state = (mix_u64 state).0

unfoldable pub state_after : ℕ → ℕ
state_after state = (mix_u64 state).1

-- the client that a word draws, out of so many
abbrev pub client_of : ℕ → ℕ → ℕ
client_of clients word = 1 + word % clients

abbrev pub page_of : ℕ → ℕ
page_of word = word / 1024 % 64

abbrev pub place_of : ℕ → ℕ
place_of word = word / 65536 % 512

-- the lines of one kind out of sixteen: seven read, six write, one serves, one stabilises, and one writes out and finishes
abbrev pub lines_of_kind : ℕ → ℕ → ℕ → ℕ → ℕ → List GenLine
lines_of_kind kind client page place value =
    if nat_lt kind 7 then gen.Read client page place ∷ [] else
    (if nat_lt kind 13 then gen.Write client page place value ∷ [] else
    (if kind == 13 then gen.Serve client ∷ [] else
    (if kind == 14 then gen.Stabilise client ∷ [] else gen.WriteOut client ∷ gen.Finish client ∷ [])))

-- the lines that a word draws
unfoldable pub lines_by : ℕ → ℕ → List GenLine
lines_by clients word = lines_of_kind (word / 64 % 16) (client_of clients word) (page_of word) (place_of word) (word / 2 ^ 32)

-- the lines of so many draws, from a state of the generator of random words
unfoldable pub drawn_lines : ℕ → ℕ → ℕ → List GenLine
drawn_lines clients zero state = []
drawn_lines clients (suc ops) state = lines_by clients (word_of state) ++ drawn_lines clients ops (state_after state)

-- clients join or serve, this many from this number on
abbrev pub join_lines : ℕ → ℕ → List GenLine
join_lines first count = map gen.Join (range_with_len first count)

abbrev pub serve_lines : ℕ → ℕ → List GenLine
serve_lines first count = map gen.Serve (range_with_len first count)

-- a schedule: each client joins, then come the draws, and at last each client serves
abbrev pub lines_of : ℕ → ℕ → ℕ → List GenLine
lines_of seed clients ops = join_lines 1 clients ++ drawn_lines clients ops seed ++ serve_lines 1 clients

-- the line that finishes a write-out, where one was just made
abbrev pub finish_lines : Option ℕ → List GenLine
finish_lines None = []
finish_lines (Some lead) = gen.Finish lead ∷ []

-- what is left of a schedule, after so many joins and serves, with so many draws left
abbrev pub lines_left : ℕ → ℕ → ℕ → Option ℕ → ℕ → ℕ → List GenLine
lines_left clients joined ops finish served state =
    join_lines (joined + 1) (clients - joined) ++ (finish_lines finish ++ drawn_lines clients ops state) ++ serve_lines (served + 1) (clients - served)
