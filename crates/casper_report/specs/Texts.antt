use Rattle.std.specs.Prelude.{ℕ, Bool, true, false, List, [], ◌∷◌, ◌++◌, if◌then◌else◌, codes}
use Rattle.std.specs.List.{flat_map}
use Rattle.std.specs.Fmt.{decimal}
use Rattle.casper_space.specs.declared.answer.Answer.{Answer}
use Rattle.casper_space.specs.declared.answer.Answer.TheVariants as answer

-- a text as a line of its own
abbrev pub as_line : List ℕ → List ℕ
as_line text = text ++ 10 ∷ []

-- pieces of a text, one after another
abbrev pub joined : List (List ℕ) → List ℕ
joined [] = []
joined (piece ∷ pieces) = piece ++ joined pieces

-- a word and a number, as a line
abbrev pub word_line : List ℕ → ℕ → List ℕ
word_line word number = joined (word ∷ codes " " ∷ decimal number ∷ codes "\n" ∷ [])

-- a word and two numbers, as a line
abbrev pub pair_line : List ℕ → ℕ → ℕ → List ℕ
pair_line word first second = joined (word ∷ codes " " ∷ decimal first ∷ codes " " ∷ decimal second ∷ codes "\n" ∷ [])

-- the mark of a rollback, and what it dropped of a client, as a line
abbrev pub rolled_back_line : ℕ → ℕ → ℕ → List ℕ
rolled_back_line mark recorded unrecorded =
    joined (codes "rolledback " ∷ decimal mark ∷ codes " " ∷ decimal recorded ∷ codes " " ∷ decimal unrecorded ∷ codes "\n" ∷ [])

-- the frames that a commit needs and those that are free, after a word, as a line
abbrev pub frames_line : List ℕ → ℕ → ℕ → List ℕ
frames_line word need free = joined (word ∷ codes " need " ∷ decimal need ∷ codes " free " ∷ decimal free ∷ codes "\n" ∷ [])

-- a word and clients, as a line
abbrev pub crew_line : List ℕ → List ℕ → List ℕ
crew_line word members = as_line (word ++ flat_map (λ client. 32 ∷ decimal client) members)

-- the line that answers an event
abbrev pub answer_line : Answer → List ℕ
answer_line answer.Joined = as_line (codes "joined")
answer_line answer.Busy = as_line (codes "busy")
answer_line answer.Absent = as_line (codes "absent")
answer_line answer.Range = as_line (codes "range")
answer_line (answer.Value n) = as_line (decimal n)
answer_line answer.Ok = as_line (codes "ok")
answer_line answer.Granted = as_line (codes "granted")
answer_line (answer.Pending blockers) = crew_line (codes "pending") blockers
answer_line (answer.Frozen lead) = word_line (codes "frozen") lead
answer_line answer.InDoubt = as_line (codes "indoubt")
answer_line (answer.RolledBack mark recorded unrecorded) = rolled_back_line mark recorded unrecorded
answer_line (answer.TrailFull entries) = word_line (codes "trailfull") entries
answer_line answer.Disk = as_line (codes "disk")
answer_line (answer.Gathering awaited) = crew_line (codes "gathering") awaited
answer_line (answer.Sealed pages) = word_line (codes "sealed") pages
answer_line (answer.Doing lead) = word_line (codes "doing") lead
answer_line (answer.Doubtful lead) = word_line (codes "doubt") lead
answer_line (answer.Commit mark) = word_line (codes "commit") mark
answer_line (answer.FailedFull need free) = frames_line (codes "failed full") need free
answer_line answer.FailedWorn = as_line (codes "failed worn")
answer_line (answer.FailedDisk doubt) = if doubt then as_line (codes "failed disk in doubt") else as_line (codes "failed disk")
answer_line (answer.Written version) = word_line (codes "written") version
answer_line (answer.Full need free) = frames_line (codes "full") need free
answer_line answer.Worn = as_line (codes "worn")
answer_line answer.Doubt = as_line (codes "doubt")
answer_line answer.NoJob = as_line (codes "nojob")
answer_line (answer.Vault lead) = word_line (codes "vault") lead
answer_line (answer.Undone mark) = word_line (codes "undone") mark
answer_line answer.Nothing = as_line (codes "nothing")
answer_line answer.Left = as_line (codes "left")
answer_line (answer.VanishLost mark unrecorded) = pair_line (codes "lost") mark unrecorded
answer_line (answer.VanishNoted lead unrecorded) = pair_line (codes "noted") lead unrecorded
answer_line (answer.LoseLost mark) = word_line (codes "lost") mark
answer_line (answer.LoseNoted lead) = word_line (codes "noted") lead
answer_line (answer.Already mark) = word_line (codes "already") mark
answer_line (answer.Reopened version) = word_line (codes "reopened") version

-- whether the line that answers an event is the same whatever the answer tells: it tells no number and no client
abbrev pub is_constant : Answer → Bool
is_constant (answer.Value n) = false
is_constant (answer.Pending blockers) = false
is_constant (answer.Frozen lead) = false
is_constant (answer.RolledBack mark recorded unrecorded) = false
is_constant (answer.TrailFull entries) = false
is_constant (answer.Gathering awaited) = false
is_constant (answer.Sealed pages) = false
is_constant (answer.Doing lead) = false
is_constant (answer.Doubtful lead) = false
is_constant (answer.Commit mark) = false
is_constant (answer.FailedFull need free) = false
is_constant (answer.Written version) = false
is_constant (answer.Full need free) = false
is_constant (answer.Vault lead) = false
is_constant (answer.Undone mark) = false
is_constant (answer.VanishLost mark unrecorded) = false
is_constant (answer.VanishNoted lead unrecorded) = false
is_constant (answer.LoseLost mark) = false
is_constant (answer.LoseNoted lead) = false
is_constant (answer.Already mark) = false
is_constant (answer.Reopened version) = false
is_constant answer.Joined = true
is_constant answer.Busy = true
is_constant answer.Absent = true
is_constant answer.Range = true
is_constant answer.Ok = true
is_constant answer.Granted = true
is_constant answer.InDoubt = true
is_constant answer.Disk = true
is_constant answer.FailedWorn = true
is_constant (answer.FailedDisk doubt) = true
is_constant answer.Worn = true
is_constant answer.Doubt = true
is_constant answer.NoJob = true
is_constant answer.Nothing = true
is_constant answer.Left = true

-- the lines of answers, in order
abbrev pub answer_lines : List Answer → List ℕ
answer_lines answers = flat_map answer_line answers
