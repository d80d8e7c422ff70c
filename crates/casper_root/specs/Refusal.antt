use Rattle.std.specs.Prelude.{◌≡◌, ◌⊎◌, Bool, List, [], ◌∷◌, Result, Ok, Err, if◌then◌else◌}
use Rattle.casper_root.specs.declared.fault.OpenFault.{OpenFault}
use Rattle.casper_root.specs.declared.fault.OpenFault.TheVariants as fault

-- what is found, or the first refusal whose test holds
abbrev pub first_refusal : {T : Type 0} → List (Bool × OpenFault) → T → Result T OpenFault
first_refusal [] found = Ok found
first_refusal (refusal ∷ refusals) found = if refusal.0 then Err refusal.1 else first_refusal refusals found

-- the answer is this one, but where the disk failed or memory was short
abbrev pub Answers : {T : Type 0} → Result T OpenFault → Result T OpenFault → Type 0
Answers answer expected = (answer ≡ expected) ⊎ (answer ≡ Err fault.Disk) ⊎ (answer ≡ Err fault.Memory)
