use Rattle.std.specs.Prelude.{◌≡◌, ◌⊎◌, ℕ, List, Option, codes}
use Rattle.std.specs.Io.KnownBytes.{append_known}
use Rattle.casper_words.specs.Count.{FaultCountRose}
use Rattle.casper_io.specs.Told.{TakesFront}
use Rattle.casper_space.specs.declared.answer.Answer.{Answer}
use Rattle.casper_trail.specs.declared.item.Item.{Item}
use Rattle.casper_app.specs.declared.cause.Cause.TheVariants as cause
use Rattle.casper_app.specs.declared.end.End.{End}
use Rattle.casper_app.specs.Command.{name_in}
use Rattle.casper_app.specs.Running.{IsRun, KeepsOthers}
use Rattle.casper_app.specs.Shelving.{Shelving}
use Rattle.casper_app.specs.Status.{status_of, status_of_end}

-- the words were done as they ask, over a shelf on which each store of another name stays, and the status is that of the end: 5 only where
-- the shelf or a disk failed, 3 only where a read failed, and where one did 3, or 4 for the sink
pub record RunsTo {H D : Type 0} (shelving : Shelving H D) (words : List (List ℕ)) (shelf shelf_after : H) (left left_after : Option (List ℕ)) (faults faults_after : ℕ) (taken taken_after : Option (List ℕ)) (status : ℕ) : Type 0 where
  pub answers : List Answer
  pub items : List Item
  pub last : End
  pub run : IsRun shelving words shelf shelf_after left left_after taken taken_after answers items last
  pub kept : KeepsOthers shelving (name_in words) shelf shelf_after
  pub status_is : status ≡ status_of_end last
  pub disk_fault : status ≡ 5 → FaultCountRose (shelving.faults shelf) (shelving.faults shelf_after)
  pub read_fault : status ≡ 3 → FaultCountRose faults faults_after
  pub source_stands : (status ≡ 3) ⊎ (status ≡ 4) ⊎ (faults_after ≡ faults)

-- memory was short before anything was read: the status and the line tell so, unless the sink failed within the line
abbrev pub TellsNoMemory : Option (List ℕ) → Option (List ℕ) → ℕ → Type 0
TellsNoMemory taken taken_after status =
    ((status ≡ status_of cause.Memory) × (taken_after ≡ append_known taken (codes "no memory\n")))
    ⊎ ((status ≡ status_of cause.Write) × TakesFront taken taken_after (codes "no memory\n"))
