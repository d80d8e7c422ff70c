use Rattle.std.specs.Prelude.{◌≡◌}
use Rattle.casper_root.specs.declared.fault.OpenFault.{OpenFault}
use Rattle.casper_stores.specs.Faults.{opening_fault}
use Rattle.casper_stores.specs.declared.fault.StoreFault.{StoreFault}
use Rattle.casper_stores.specs.declared.fault.StoreFault.TheVariants as store
use Rattle.casper_app.specs.declared.cause.Cause.{Cause}
use Rattle.casper_app.specs.declared.cause.Cause.TheVariants as cause
use Rattle.casper_app.specs.declared.schedule.Asked.{Asked}
use Rattle.casper_app.specs.declared.schedule.Asked.TheVariants as asks

-- why a call ends whose command on a store was not carried out
abbrev pub cause_of_store : StoreFault → Cause
cause_of_store store.Memory = cause.Memory
cause_of_store store.Disk = cause.Disk
cause_of_store (store.Refused refusal) = cause.Refused refusal

-- and one whose store was not opened
abbrev pub cause_of_opening : OpenFault → Cause
cause_of_opening fault = cause_of_store (opening_fault fault)

-- a cause that is no refusal of a store
abbrev pub IsNoRefusal : Cause → Type 0
IsNoRefusal (cause.Refused refusal) = ⊥
IsNoRefusal other = Unit {0}

-- why something that was asked for may have no answer: for want of memory, and a reopen for what the opening met
abbrev pub IsWhy : Asked → Cause → Type 0
IsWhy asked cause.Memory = Unit {0}
IsWhy asked cause.Disk = asked ≡ asks.Reopen
IsWhy asked (cause.Refused refusal) = asked ≡ asks.Reopen
IsWhy asked other = ⊥
