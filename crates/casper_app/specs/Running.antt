use Rattle.std.specs.Prelude.{◌≡◌, ◌≢◌, ◌⊎◌, ◌≤◌, ℕ, List, [], Option, Ok, IsTrue, MatchResult}
use Rattle.casper_trail.specs.declared.item.Item.{Item}
use Rattle.casper_space.specs.declared.answer.Answer.{Answer}
use Rattle.casper_stable.specs.Opens.{Store}
use Rattle.casper_stores.specs.Stores.{store_under}
use Rattle.casper_app.specs.declared.command.Backing.{Backing}
use Rattle.casper_app.specs.declared.command.Backing.TheVariants as backing
use Rattle.casper_app.specs.declared.command.Command.{Command}
use Rattle.casper_app.specs.declared.command.Command.TheVariants as command
use Rattle.casper_app.specs.declared.command.Opening.{Opening}
use Rattle.casper_app.specs.declared.end.End.{End}
use Rattle.casper_app.specs.declared.outlet.Outlet.{Outlet}
use Rattle.casper_app.specs.Command.{command_of, name_in}
use Rattle.casper_app.specs.Ending.{HasItsStore, IsLegalFrom, RunsAudit, RunsInMemory, RunsRefusal, start_of}
use Rattle.casper_app.specs.Shelving.{Shelving}
use Rattle.casper_app.specs.StoreRuns.{RunsFormat, RunsCheck, RunsOverStore, session_over}

-- What a call of `run` does, by the command that its words ask for.

-- a replay over zero pages in memory does nothing to the shelf, has its pages, and no disk fails
pub record RunsApart {H : Type 0} (pages : ℕ) (opening : Opening) (outlet : Outlet) (shelf shelf_after : H) (left left_after taken taken_after : Option (List ℕ)) (answers : List Answer) (items : List Item) (last : End) : Type 0 where
  pub run : RunsInMemory pages opening outlet left left_after taken taken_after answers items last
  pub store : HasItsStore last
  pub untouched : shelf_after ≡ shelf

-- a replay, by where its pages are
abbrev pub RunsReplayOver : {H D : Type 0} → Shelving H D → Backing → List ℕ → Opening → Outlet → H → H → Option (List ℕ) → Option (List ℕ) → Option (List ℕ) → Option (List ℕ) → List Answer → List Item → End → Type 0
RunsReplayOver shelving (backing.Memory pages) name opening outlet shelf shelf_after left left_after taken taken_after answers items last =
    RunsApart pages opening outlet shelf shelf_after left left_after taken taken_after answers items last
RunsReplayOver shelving backing.Store name opening outlet shelf shelf_after left left_after taken taken_after answers items last =
    RunsOverStore shelving name opening outlet shelf shelf_after left left_after taken taken_after answers items last

-- what a command does, to the store of a name where it is one on a store: what was read, answered, recorded and written
abbrev pub RunsCommand : {H D : Type 0} → Shelving H D → Command → List ℕ → H → H → Option (List ℕ) → Option (List ℕ) → Option (List ℕ) → Option (List ℕ) → List Answer → List Item → End → Type 0
RunsCommand shelving (command.Format pages frames) name shelf shelf_after left left_after taken taken_after answers items last =
    RunsFormat shelving name pages frames shelf shelf_after left left_after taken taken_after answers items last
RunsCommand shelving command.Check name shelf shelf_after left left_after taken taken_after answers items last =
    RunsCheck shelving name shelf shelf_after left left_after taken taken_after answers items last
RunsCommand shelving (command.Replay over opening outlet) name shelf shelf_after left left_after taken taken_after answers items last =
    RunsReplayOver shelving over name opening outlet shelf shelf_after left left_after taken taken_after answers items last
RunsCommand shelving command.Audit name shelf shelf_after left left_after taken taken_after answers items last =
    RunsAudit left left_after taken taken_after answers items last × (shelf_after ≡ shelf)

-- a call of `run` does what its words ask. Words that are refused do nothing
abbrev pub IsRun : {H D : Type 0} → Shelving H D → List (List ℕ) → H → H → Option (List ℕ) → Option (List ℕ) → Option (List ℕ) → Option (List ℕ) → List Answer → List Item → End → Type 0
IsRun shelving words shelf shelf_after left left_after taken taken_after answers items last = MatchResult (command_of words)
    (λ command. RunsCommand shelving command (name_in words) shelf shelf_after left left_after taken taken_after answers items last)
    (λ refused. RunsRefusal refused left left_after taken taken_after answers items last × (shelf_after ≡ shelf))

-- the trail is empty, or it is legal over a store that was opened
abbrev pub IsLegalOverStore : {H D : Type 0} → Shelving H D → List ℕ → Opening → Outlet → H → Option (List ℕ) → List Answer → List Item → Type 0
IsLegalOverStore shelving name opening outlet shelf left answers items =
    (items ≡ [])
    ⊎ ((store : Store) × (store_under shelving.content (shelving.place shelf name) ≡ Ok store)
    × IsLegalFrom opening.entries (session_over store opening) outlet left answers items)

-- what a replay leaves is legal over the array that its last session found, where that is told
abbrev pub IsLegalReplay : {H D : Type 0} → Shelving H D → Backing → List ℕ → Opening → Outlet → H → Option (List ℕ) → List Answer → List Item → Type 0
IsLegalReplay shelving (backing.Memory pages) name opening outlet shelf left answers items = IsLegalFrom opening.entries (start_of pages opening) outlet left answers items
IsLegalReplay shelving backing.Store name opening outlet shelf left answers items =
    IsTrue shelving.tells → IsLegalOverStore shelving name opening outlet shelf left answers items

-- what a command leaves is legal; only a replay has a trail
abbrev pub IsLegalCommand : {H D : Type 0} → Shelving H D → Command → List ℕ → H → Option (List ℕ) → List Answer → List Item → Type 0
IsLegalCommand shelving (command.Replay over opening outlet) name shelf left answers items = IsLegalReplay shelving over name opening outlet shelf left answers items
IsLegalCommand shelving (command.Format pages frames) name shelf left answers items = items ≡ []
IsLegalCommand shelving command.Check name shelf left answers items = items ≡ []
IsLegalCommand shelving command.Audit name shelf left answers items = items ≡ []

-- and so is what words leave
abbrev pub IsLegalRun : {H D : Type 0} → Shelving H D → List (List ℕ) → H → Option (List ℕ) → List Answer → List Item → Type 0
IsLegalRun shelving words shelf left answers items =
    MatchResult (command_of words) (λ command. IsLegalCommand shelving command (name_in words) shelf left answers items) (λ refused. items ≡ [])

-- a shelf keeps what stands under every other name, and its count of faults never falls
pub record KeepsOthers {H D : Type 0} (shelving : Shelving H D) (name : List ℕ) (shelf shelf_after : H) : Type 0 where
  pub others : IsTrue shelving.tells → (other : List ℕ) → other ≢ name → shelving.place shelf_after other ≡ shelving.place shelf other
  pub never_falls : shelving.faults shelf ≤ shelving.faults shelf_after
