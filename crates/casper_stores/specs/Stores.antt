use Rattle.std.specs.Prelude.{ℕ, List, Option, Some, None, Result, Ok, Err, if◌then◌else◌}
use Rattle.casper_disk.specs.Place.{Place, Missing, Out, Standing, is_there}
use Rattle.casper_root.specs.Opening.{are_sizes}
use Rattle.casper_root.specs.declared.fault.OpenFault.{OpenFault}
use Rattle.casper_map.specs.Mapped.{used_in}
use Rattle.casper_report.specs.declared.refusal.Refusal.{Refusal}
use Rattle.casper_report.specs.declared.refusal.Refusal.TheVariants as refusal
use Rattle.casper_stable.specs.Formatted.{sizes}
use Rattle.casper_stable.specs.Opens.{Store, opens}
use Rattle.casper_stores.specs.Faults.{opening_fault}
use Rattle.casper_stores.specs.declared.checking.Checked.{Checked}
use Rattle.casper_stores.specs.declared.fault.StoreFault.{StoreFault}
use Rattle.casper_stores.specs.declared.fault.StoreFault.TheVariants as fault

-- the store, or its refusal
abbrev pub store_or_fault : Result Store OpenFault → Result Store StoreFault
store_or_fault (Ok store) = Ok store
store_or_fault (Err refusal) = Err (opening_fault refusal)

-- what is opened under a name: what the blocks of its disk open to; where no disk stands there, no such store
abbrev pub store_under : {D : Type 0} → (D → List (List ℕ)) → Place D → Result Store StoreFault
store_under content Missing = Err (fault.Refused refusal.NoSuch)
store_under content Out = Err (fault.Refused refusal.NoSuch)
store_under content (Standing disk) = store_or_fault (opens (content disk))

-- what refuses a new store of these sizes under a name: sizes out of range, and then a name that is there
abbrev pub format_refusal : {D : Type 0} → ℕ → ℕ → Place D → Option Refusal
format_refusal pages frames place =
    if are_sizes (sizes pages frames) then (if is_there place then Some refusal.Exists else None) else Some (refusal.BadSize pages frames)

-- what a check tells of a store: its sizes, its version, and how many frames its root names
abbrev pub checked_of : Store → Checked
checked_of store = record {
  pages = store.header.pages;
  frames = store.header.frames;
  version = store.saved.version;
  used = used_in store.held.places;
}
