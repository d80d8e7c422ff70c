use Rattle.std.specs.Prelude.{◌≡◌, ℕ, List}
use Rattle.casper_trail.specs.declared.item.Item.{Item}
use Rattle.casper_space.specs.declared.answer.Answer.{Answer}
use Rattle.casper_report.specs.declared.summary.Summary.{Summary}
use Rattle.casper_disk.specs.Vault.{Saved}
use Rattle.casper_model.specs.State.{State}
use Rattle.casper_sessions.specs.Moments.{moment_of}
use Rattle.casper_sessions.specs.Within.{IsLeftOf}
use Rattle.casper_core.specs.Leaving.{Adds}
use Rattle.casper_app.specs.declared.end.End.{End}
use Rattle.casper_app.specs.declared.end.End.TheVariants as end
use Rattle.casper_app.specs.declared.schedule.Asked.{Asked}
use Rattle.casper_app.specs.Leaving.{IsLeftAmong}
use Rattle.casper_app.specs.Play.{Rules, Standing, Plays, begun, by_machine, in_shape, summary_of}

-- What lines come to: a fact of how many lines there were, the end that is told, what they ask for, the answers and the trail.

-- the end of a replay that is done tells this, and no replay ends as another command does
abbrev pub TellsOf : End → Summary → Type 0
TellsOf (end.Done told) summary = told ≡ summary
TellsOf (end.Legal entries) summary = ⊥
TellsOf (end.Formatted pages frames) summary = ⊥
TellsOf (end.Checked found) summary = ⊥
TellsOf (end.Stopped cause) summary = Unit {0}

-- what such an end tells, but for the version, which is the vault's to tell
abbrev pub TellsButVersion : End → Summary → Type 0
TellsButVersion (end.Done told) summary = told ≡ record summary { version = told.version }
TellsButVersion (end.Legal entries) summary = ⊥
TellsButVersion (end.Formatted pages frames) summary = ⊥
TellsButVersion (end.Checked found) summary = ⊥
TellsButVersion (end.Stopped cause) summary = Unit {0}

-- by some rules: from a start the answers lead to where the schedule stands, the trail is that of its last session, and the end tells
-- of all of them
pub record ComesBy (rules : Rules) (Tells : End → Summary → Type 0) (entries : ℕ) (start : State) (lines : ℕ) (said : End) (asked : List Asked) (given : List Answer) (items : List Item) : Type 0 where
  pub last : Standing
  pub plays : Plays rules entries (begun start) asked given last
  pub recorded : items ≡ last.state.shared.trail
  pub counted : Tells said (summary_of lines asked given last)

-- over a vault that tells what it holds, where a trail takes so many entries
abbrev pub ComesFrom : ℕ → State → ℕ → End → List Asked → List Answer → List Item → Type 0
ComesFrom entries start lines said asked given items = ComesBy by_machine TellsOf entries start lines said asked given items

-- over every vault, also one that tells nothing
abbrev pub ComesInShape : ℕ → State → ℕ → End → List Asked → List Answer → List Item → Type 0
ComesInShape entries start lines said asked given items = ComesBy in_shape TellsButVersion entries start lines said asked given items

-- over a vault that tells what it holds: what lines come to, and what a stop since the call began might have left of the vault, and
-- leaves now
pub record ComesOver {V : Type 0} (moment : V → ℕ) (since : V → ℕ → Saved → Type 0) (now : V → Saved → Type 0) (before after : V) (entries : ℕ) (start : State) (lines : ℕ) (said : End) (asked : List Asked) (given : List Answer) (items : List Item) : Type 0 where
  pub comes : ComesFrom entries start lines said asked given items
  pub images : Adds moment since before after (λ saved. IsLeftAmong entries (begun start) asked given saved.image)
  pub left : (saved : Saved) → now after saved → IsLeftOf comes.last.state (moment_of comes.last.state) saved.image
