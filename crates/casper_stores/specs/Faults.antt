use Rattle.casper_disk.specs.declared.shelf.ShelfFault.{ShelfFault}
use Rattle.casper_disk.specs.declared.shelf.ShelfFault.TheVariants as shelf
use Rattle.casper_root.specs.declared.fault.OpenFault.{OpenFault}
use Rattle.casper_root.specs.declared.fault.OpenFault.TheVariants as opening
use Rattle.casper_report.specs.declared.refusal.Refusal.TheVariants as refusal
use Rattle.casper_stores.specs.declared.fault.StoreFault.{StoreFault}
use Rattle.casper_stores.specs.declared.fault.StoreFault.TheVariants as store

-- what a fault of an opening or of a format is
abbrev pub opening_fault : OpenFault → StoreFault
opening_fault opening.Memory = store.Memory
opening_fault opening.Disk = store.Disk
opening_fault opening.NotAStore = store.Refused refusal.NotAStore
opening_fault (opening.Version version) = store.Refused (refusal.Version version)
opening_fault (opening.BadSize pages frames) = store.Refused (refusal.BadSize pages frames)
opening_fault (opening.Short need have) = store.Refused (refusal.Short need have)
opening_fault opening.NoRoot = store.Refused refusal.NoRoot
opening_fault (opening.BadBody seq count) = store.Refused (refusal.BadBody seq count)
opening_fault (opening.BadMap page frame) = store.Refused (refusal.BadMap page frame)

-- what a fault of a shelf is
abbrev pub shelf_fault : ShelfFault → StoreFault
shelf_fault shelf.Memory = store.Memory
shelf_fault shelf.Failed = store.Disk
shelf_fault shelf.NoSuch = store.Refused refusal.NoSuch
shelf_fault shelf.Exists = store.Refused refusal.Exists
