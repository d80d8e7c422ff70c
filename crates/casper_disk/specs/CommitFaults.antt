use Rattle.std.specs.Prelude.{Bool, true, false}
use Rattle.casper_disk.specs.declared.vault.CommitFault.{CommitFault}
use Rattle.casper_disk.specs.declared.vault.CommitFault.TheVariants as fault

-- whether a commit failed by its disk
abbrev pub is_of_disk : CommitFault → Bool
is_of_disk fault.Memory = false
is_of_disk fault.Worn = false
is_of_disk (fault.Full need free) = false
is_of_disk fault.Disk = true
is_of_disk fault.Doubt = true
