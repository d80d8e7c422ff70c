use Rattle.std.specs.Prelude.{◌≡◌, ◌⊎◌, ℕ, List}
use Rattle.casper_disk.specs.Vault.{Saved}
use Rattle.casper_root.specs.declared.fault.OpenFault.{OpenFault}
use Rattle.casper_root.specs.declared.fault.OpenFault.TheVariants as fault

-- what a stop would leave of a vault that is as it is now
abbrev pub saved_by : {V : Type 0} → (V → List (List ℕ)) → (V → ℕ) → V → Saved
saved_by image version vault = record { image = image vault; version = version vault }

-- a fault from outside the store: memory is short, or the disk failed. The others are refusals of what the disk holds
abbrev pub IsOfTheOutside : OpenFault → Type 0
IsOfTheOutside one = one ≡ fault.Memory ⊎ one ≡ fault.Disk
