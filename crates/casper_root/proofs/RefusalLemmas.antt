use Rattle.std.proofs.Common.{◌≡◌, ℕ, Bool, true, false, List, [], ◌∷◌, ◌++◌, refl}
use Rattle.std.specs.Prelude.{Ok, Err}
use Rattle.casper_root.specs.declared.fault.OpenFault.{OpenFault}
use Rattle.casper_root.specs.Refusal.{first_refusal}

-- a refusal among the first ones stands
pub refused_first : {S T : Type 0} (first others : List (Bool × OpenFault)) (found : S) (last : T) (why : OpenFault)
    → first_refusal first found ≡ Err why → first_refusal (first ++ others) last ≡ Err why
refused_first [] others found last why refused = cc
refused_first ((true, fault) ∷ first) others found last why refused = cc
refused_first ((false, fault) ∷ first) others found last why refused = refused_first first others found last why refused

-- where the first ones do not refuse, the others decide
pub passed_first : {S T : Type 0} (first others : List (Bool × OpenFault)) (found given : S) (last : T)
    → first_refusal first found ≡ Ok given → first_refusal (first ++ others) last ≡ first_refusal others last
passed_first [] others found given last passed = refl
passed_first ((true, fault) ∷ first) others found given last passed = cc
passed_first ((false, fault) ∷ first) others found given last passed = passed_first first others found given last passed

-- one refusal whose test holds
pub refused_once : (test : Bool) (fault : OpenFault) → test ≡ true → first_refusal {T = ℕ} ((test, fault) ∷ []) 0 ≡ Err fault
refused_once true fault holds = refl
refused_once false fault holds = cc

-- one refusal whose test fails
pub passed_once : (test : Bool) (fault : OpenFault) → test ≡ false → first_refusal {T = ℕ} ((test, fault) ∷ []) 0 ≡ Ok 0
passed_once true fault fails = cc
passed_once false fault fails = refl

-- a refusal does not depend on what is found
pub refused_alike : {S T : Type 0} (refusals : List (Bool × OpenFault)) (found : S) (last : T) (why : OpenFault) → first_refusal refusals found ≡ Err why → first_refusal refusals last ≡ Err why
refused_alike [] found last why refused = cc
refused_alike ((true, fault) ∷ refusals) found last why refused = cc
refused_alike ((false, fault) ∷ refusals) found last why refused = refused_alike refusals found last why refused

-- nor does it that there is none
pub passed_alike : {S T : Type 0} (refusals : List (Bool × OpenFault)) (found given : S) (last : T) → first_refusal refusals found ≡ Ok given → first_refusal refusals last ≡ Ok last
passed_alike [] found given last passed = refl
passed_alike ((true, fault) ∷ refusals) found given last passed = cc
passed_alike ((false, fault) ∷ refusals) found given last passed = passed_alike refusals found given last passed

-- where none refuses, neither the first ones nor the others do
pub passed_both : {S T : Type 0} (first others : List (Bool × OpenFault)) (found : S) (last given : T)
    → first_refusal (first ++ others) last ≡ Ok given → (first_refusal first found ≡ Ok found) × (first_refusal others last ≡ Ok given)
passed_both [] others found last given passed = (refl, passed)
passed_both ((true, fault) ∷ first) others found last given passed = cc
passed_both ((false, fault) ∷ first) others found last given passed = passed_both first others found last given passed

-- one refusal whose test does not hold
pub passed_last : {T : Type 0} (test : Bool) (why : OpenFault) (last given : T) → first_refusal ((test, why) ∷ []) last ≡ Ok given → test ≡ false
passed_last true why last given passed = cc
passed_last false why last given passed = refl

-- two refusals of which no test holds
pub passed_two : {T : Type 0} (first second : Bool) (why other : OpenFault) (last given : T)
    → first_refusal ((first, why) ∷ (second, other) ∷ []) last ≡ Ok given → (first ≡ false) × (second ≡ false) × (last ≡ given)
passed_two true second why other last given passed = cc
passed_two false true why other last given passed = cc
passed_two false false why other last given passed = (refl, refl, cc)

-- two refusals of which no test is to hold
pub pass_two : {T : Type 0} (first second : Bool) (why other : OpenFault) (last : T)
    → first ≡ false → second ≡ false → first_refusal ((first, why) ∷ (second, other) ∷ []) last ≡ Ok last
pass_two true second why other last one two = cc
pass_two false true why other last one two = cc
pass_two false false why other last one two = refl

-- the third of three refusals of which no test holds
pub passed_third : {T : Type 0} (first second third : Bool) (why other last : OpenFault) (found given : T)
    → first_refusal ((first, why) ∷ (second, other) ∷ (third, last) ∷ []) found ≡ Ok given → third ≡ false
passed_third true second third why other last found given passed = cc
passed_third false true third why other last found given passed = cc
passed_third false false third why other last found given passed = (passed_two false third other last found given passed).1

-- three refusals of which no test is to hold
pub pass_three : {T : Type 0} (first second third : Bool) (why other last : OpenFault) (found : T)
    → first ≡ false → second ≡ false → third ≡ false → first_refusal ((first, why) ∷ (second, other) ∷ (third, last) ∷ []) found ≡ Ok found
pass_three true second third why other last found one two three = cc
pass_three false second third why other last found one two three = pass_two second third other last found two three
