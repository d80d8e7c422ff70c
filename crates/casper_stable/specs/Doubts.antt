use Rattle.std.specs.Prelude.{◌≡◌, Bool, true, false}
use Rattle.casper_disk.specs.declared.vault.CommitFault.{CommitFault}
use Rattle.casper_disk.specs.declared.vault.CommitFault.TheVariants as fault
use Rattle.casper_map.specs.declared.fault.PlanFault.{PlanFault}
use Rattle.casper_map.specs.declared.fault.PlanFault.TheVariants as plan

-- whether a commit failed so that it is in doubt
abbrev pub is_doubt : CommitFault → Bool
is_doubt fault.Memory = false
is_doubt fault.Worn = false
is_doubt (fault.Full need free) = false
is_doubt fault.Disk = false
is_doubt fault.Doubt = true

-- why a commit that was not planned fails
abbrev pub commit_fault_of : PlanFault → CommitFault
commit_fault_of plan.Memory = fault.Memory
commit_fault_of (plan.Full need free) = fault.Full need free

-- a commit was refused before its disk was used, by want of memory or of frames
abbrev pub is_refused : CommitFault → Bool
is_refused fault.Memory = true
is_refused fault.Worn = false
is_refused (fault.Full need free) = true
is_refused fault.Disk = false
is_refused fault.Doubt = false

abbrev pub IsRefusal : CommitFault → Type 0
IsRefusal given = is_refused given ≡ true
