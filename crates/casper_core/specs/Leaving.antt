use Rattle.std.specs.Prelude.{ℕ, List, ⊤}
use Rattle.casper_space.specs.declared.answer.Answer.{Answer}
use Rattle.casper_disk.specs.Disk.{Took}
use Rattle.casper_disk.specs.Vault.{Saved}
use Rattle.casper_model.specs.declared.event.Event.{Event}
use Rattle.casper_model.specs.declared.event.Event.TheVariants as event
use Rattle.casper_model.specs.State.{State}
use Rattle.casper_sessions.specs.Moments.{moment_of}
use Rattle.casper_sessions.specs.Within.{IsLeftOf, IsLeftWithin, IsLeftIn}
use Rattle.casper_core.specs.CoreView.{CoreView}
use Rattle.casper_core.specs.Represents.{Represents}
use Rattle.casper_core.specs.Stepping.{happenings_of}

-- What a stop within a step or a run of a core leaves.

-- a vault became another: what a stop since an earlier moment might have left stays, and to that is added only what may be so
abbrev pub Adds : {V : Type 0} → (V → ℕ) → (V → ℕ → Saved → Type 0) → V → V → (Saved → Type 0) → Type 0
Adds moment since before after may_be = Took (moment before) (moment after) (since before) (since after) may_be

-- from each state that a core stands for, an image is what a stop at the moment of that state leaves
abbrev pub IsLeftBefore : {V : Type 0} → CoreView V → Saved → Type 0
IsLeftBefore core saved = (state : State) → Represents state core → IsLeftOf state (moment_of state) saved.image

-- or what one within the step of an event leaves
abbrev pub IsLeftDuring : {V : Type 0} → Event → CoreView V → Saved → Type 0
IsLeftDuring event core saved = (state : State) → Represents state core → IsLeftWithin state event saved.image

-- or what one within the run of some events leaves, the first of which were answered so
abbrev pub IsLeftByRun : {V : Type 0} → List Event → List Answer → CoreView V → Saved → Type 0
IsLeftByRun events said core saved = (state : State) → Represents state core → IsLeftIn state (happenings_of events said) saved.image

-- of a step that writes to the vault this is said
abbrev pub IfWriting : Event → Type 0 → Type 0
IfWriting (event.WriteOut lead) it = it
IfWriting event.Settle it = it
IfWriting other it = ⊤
