use Rattle.std.proofs.Common.{◌≡◌, refl, true, false, inl, inr}
use Rattle.std.specs.Prelude.{◌⊎◌, Err, IsErrOf}
use Rattle.casper_disk.specs.declared.vault.CommitFault.{CommitFault}
use Rattle.casper_disk.specs.declared.vault.CommitFault.TheVariants as fault
use Rattle.casper_stable.specs.Doubts.{is_doubt}

-- a fault that is one of doubt
pub doubt_found : {T : Type 0} (given : CommitFault) → is_doubt given ≡ true → IsErrOf {T = T} (Err given) fault.Doubt
doubt_found fault.Memory is = cc
doubt_found fault.Worn is = cc
doubt_found (fault.Full need free) is = cc
doubt_found fault.Disk is = cc
doubt_found fault.Doubt is = refl

-- one that is none
pub no_doubt : {T : Type 0} (given : CommitFault) → is_doubt given ≡ false → IsErrOf {T = T} (Err given) fault.Doubt → ⊥
no_doubt fault.Memory is same = cc
no_doubt fault.Worn is same = cc
no_doubt (fault.Full need free) is same = cc
no_doubt fault.Disk is same = cc
no_doubt fault.Doubt is same = cc

-- of the two faults of a disk it is the other one
pub disk_found : {T : Type 0} (given : CommitFault) → is_doubt given ≡ false
    → IsErrOf {T = T} (Err given) fault.Disk ⊎ IsErrOf {T = T} (Err given) fault.Doubt
    → IsErrOf {T = T} (Err given) fault.Disk
disk_found given is (inl disk) = disk
disk_found given is (inr doubt) = absurd (no_doubt given is doubt)
