use Rattle.std.specs.Prelude.{ℕ, ◌≤◌, ◌==◌, Bool, false, not, ◌&&◌, List, [], ◌∷◌, drop, Option, Some, None, Result, Ok, Err, nat_le, nat_eq, if◌then◌else◌, codes, option_map, option_and_then, ⊤}
use Rattle.std.specs.List.{list_any, starts_with}
use Rattle.std.specs.Str.{bytes_eq}
use Rattle.casper_text.specs.Number.{number_of}
use Rattle.casper_app.specs.declared.cause.Cause.{Cause}
use Rattle.casper_app.specs.declared.cause.Cause.TheVariants as cause
use Rattle.casper_app.specs.declared.command.Backing.{Backing}
use Rattle.casper_app.specs.declared.command.Backing.TheVariants as backing
use Rattle.casper_app.specs.declared.command.Command.{Command}
use Rattle.casper_app.specs.declared.command.Command.TheVariants as command
use Rattle.casper_app.specs.declared.command.Opening.{Opening}
use Rattle.casper_app.specs.declared.outlet.Outlet.TheVariants as outlet
use Rattle.casper_app.specs.Schedule.{place_of}

-- how a session begins, within the limits of a store
pub record IsOpening (opening : Opening) : Type 0 where
  pub cache_least : 8 ≤ opening.cache
  pub cache_most : opening.cache ≤ 1024
  pub entries : opening.entries ≤ 4194304

-- as many pages in memory as a store may have
abbrev pub IsBacking : Backing → Type 0
IsBacking (backing.Memory pages) = pages ≤ 16384
IsBacking backing.Store = ⊤

-- what a command says is within its limits
abbrev pub IsCommand : Command → Type 0
IsCommand (command.Format pages frames) = ⊤
IsCommand command.Check = ⊤
IsCommand (command.Replay backing opening outlet) = IsOpening opening × IsBacking backing
IsCommand command.Audit = ⊤

-- the words that a command begins with
abbrev pub commands : List (List ℕ)
commands = codes "format" ∷ codes "check" ∷ codes "replay" ∷ codes "run" ∷ codes "audit" ∷ codes "gen" ∷ []

abbrev pub is_command : List ℕ → Bool
is_command word = list_any (bytes_eq word) commands

-- whether a word begins with a hyphen: no option is built yet
abbrev pub is_option : List ℕ → Bool
is_option [] = false
is_option (byte ∷ bytes) = byte == 45

-- whether a word may be the name of a store on a shelf
abbrev pub is_store_name : List ℕ → Bool
is_store_name [] = false
is_store_name word = not (starts_with nat_eq word (codes "mem:"))

-- the name of the store in words of a command on one
abbrev pub name_in : List (List ℕ) → List ℕ
name_in (command ∷ name ∷ more) = name
name_in other = []

-- how a session begins where no word says more
abbrev pub usual : Opening
usual = record { cache = 64; entries = 4194304 }

-- a replay where no word says more: the answers are written
abbrev pub replay_over : Backing → Command
replay_over over = command.Replay over usual outlet.Written

-- the number of pages of a store in memory, from 1 to 16,384
abbrev pub pages_from : ℕ → Option Backing
pages_from number = if nat_le 1 number && nat_le number 16384 then Some (backing.Memory number) else None

-- the number of pages that stands after `mem:`
abbrev pub pages_in : List ℕ → Option Backing
pages_in text = option_and_then pages_from (number_of text)

-- a store in memory, or the name of one
abbrev pub backing_of : List ℕ → Option Backing
backing_of word = if starts_with nat_eq word (codes "mem:") then pages_in (drop 4 word) else (if is_store_name word then Some backing.Store else None)

-- what stands after `replay`: a store
abbrev pub replay_of : List (List ℕ) → Option Command
replay_of (word ∷ []) = option_map replay_over (backing_of word)
replay_of other = None

-- what stands after `format`: the name of a store, and its numbers of pages and frames, below 2^32
abbrev pub format_of : List (List ℕ) → Option Command
format_of (name ∷ pages ∷ frames ∷ []) =
    if is_store_name name then option_and_then (λ p. option_map (λ f. command.Format p f) (place_of frames)) (place_of pages) else None
format_of other = None

-- what stands after `check`: the name of a store
abbrev pub check_of : List (List ℕ) → Option Command
check_of (name ∷ []) = if is_store_name name then Some command.Check else None
check_of other = None

-- what stands after `audit`: nothing
abbrev pub audit_of : List (List ℕ) → Option Command
audit_of [] = Some command.Audit
audit_of other = None

-- words that are no command of their first word
abbrev pub or_usage : Option Command → Result Command Cause
or_usage None = Err cause.Usage
or_usage (Some asked) = Ok asked

-- the command that a first word and those after it ask for
abbrev pub known_of : List ℕ → List (List ℕ) → Result Command Cause
known_of first rest =
    if bytes_eq first (codes "format") then or_usage (format_of rest)
    else (if bytes_eq first (codes "check") then or_usage (check_of rest)
    else (if bytes_eq first (codes "replay") then or_usage (replay_of rest)
    else (if bytes_eq first (codes "audit") then or_usage (audit_of rest)
    else Err (cause.Unbuilt 0))))

-- the command that words ask for, or the cause that refuses them
abbrev pub command_of : List (List ℕ) → Result Command Cause
command_of [] = Err cause.Usage
command_of (first ∷ rest) =
    if not (is_command first) then Err cause.Usage else (if list_any is_option rest then Err (cause.Unbuilt 0) else known_of first rest)
