use Rattle.std.specs.Prelude.{◌≡◌, ◌≢◌, ◌⊎◌, ◌↔◌, ◌≤◌, ◌<◌, ◌^◌, ℕ, List, [], ◌∷◌, ◌++◌, Contains, Ok, Err, codes}
use Rattle.std.specs.Fmt.{decimal}
use Rattle.casper_app.specs.declared.cause.Cause.TheVariants as cause
use Rattle.casper_app.specs.declared.command.Backing.TheVariants as backing
use Rattle.casper_app.specs.declared.command.Command.{Command}
use Rattle.casper_app.specs.declared.command.Command.TheVariants as command
use Rattle.casper_app.specs.Command.{commands, command_of, replay_over}

-- a word that begins with `-`
abbrev pub BeginsWithHyphen : List ℕ → Type 0
BeginsWithHyphen word = (rest : List ℕ) × (word ≡ 45 ∷ rest)

-- one of the words begins with `-`
abbrev pub HasOption : List (List ℕ) → Type 0
HasOption list = (word : List ℕ) × Contains list word × BeginsWithHyphen word

-- a word that names a store on a shelf: it is not empty, it begins with neither `mem:` nor `-`
pub record IsName (word : List ℕ) : Type 0 where
  pub some : word ≢ []
  pub unlike_memory : (text : List ℕ) → word ≢ codes "mem:" ++ text
  pub no_option : BeginsWithHyphen word → ⊥

-- the words of an audit
abbrev pub IsAuditText : List (List ℕ) → Command → Type 0
IsAuditText list asked = (asked ≡ command.Audit) × (list ≡ codes "audit" ∷ [])

-- of a replay over so many zero pages, from 1 to 16,384
abbrev pub IsMemoryText : List (List ℕ) → Command → Type 0
IsMemoryText list asked =
    (pages : ℕ) × (1 ≤ pages) × (pages ≤ 16384) × (asked ≡ replay_over (backing.Memory pages)) × (list ≡ codes "replay" ∷ (codes "mem:" ++ decimal pages) ∷ [])

-- of a replay over a store
abbrev pub IsStoreText : List (List ℕ) → Command → Type 0
IsStoreText list asked = (name : List ℕ) × IsName name × (asked ≡ replay_over backing.Store) × (list ≡ codes "replay" ∷ name ∷ [])

-- of a check
abbrev pub IsCheckText : List (List ℕ) → Command → Type 0
IsCheckText list asked = (name : List ℕ) × IsName name × (asked ≡ command.Check) × (list ≡ codes "check" ∷ name ∷ [])

-- of a format
abbrev pub IsFormatText : List (List ℕ) → Command → Type 0
IsFormatText list asked =
    (name : List ℕ) × (pages : ℕ) × (frames : ℕ) × IsName name × (pages < 2 ^ 32) × (frames < 2 ^ 32) × (asked ≡ command.Format pages frames)
    × (list ≡ codes "format" ∷ name ∷ decimal pages ∷ decimal frames ∷ [])

-- the words of a command
abbrev pub IsCommandText : List (List ℕ) → Command → Type 0
IsCommandText list asked = IsAuditText list asked ⊎ IsMemoryText list asked ⊎ IsStoreText list asked ⊎ IsCheckText list asked ⊎ IsFormatText list asked

-- the words of which a command that is not built begins with one
abbrev pub unbuilt_commands : List (List ℕ)
unbuilt_commands = codes "run" ∷ codes "gen" ∷ []

-- words of what is not built: a command that is not, or an option after any command
abbrev pub IsUnbuiltCommand : List (List ℕ) → Type 0
IsUnbuiltCommand list =
    (first : List ℕ) × (rest : List (List ℕ)) × (list ≡ first ∷ rest) × Contains commands first × (Contains unbuilt_commands first ⊎ HasOption rest)

-- words that are neither
pub record IsUsage (list : List (List ℕ)) : Type 0 where
  pub built : IsUnbuiltCommand list → ⊥
  pub none : (asked : Command) → IsCommandText list asked → ⊥

-- what words are said to ask for is what they ask for, and each list of words is one of these and no other
pub record AreSortedWords (list : List (List ℕ)) : Type 0 where
  pub usage : (command_of list ≡ Err cause.Usage) ↔ IsUsage list
  pub unbuilt : (command_of list ≡ Err (cause.Unbuilt 0)) ↔ IsUnbuiltCommand list
  pub asked : (asked : Command) → (command_of list ≡ Ok asked) ↔ IsCommandText list asked
  pub one : IsUsage list ⊎ IsUnbuiltCommand list ⊎ ((asked : Command) × IsCommandText list asked)

-- what each list of words is said to ask for is what it asks for
abbrev pub WordsAreSorted : Type 0
WordsAreSorted = (list : List (List ℕ)) → AreSortedWords list
