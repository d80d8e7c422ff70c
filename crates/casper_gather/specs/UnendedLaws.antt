use Rattle.std.specs.Prelude.{◌≡◌, ℕ, ◌==◌, List, ◌++◌, ◌∷◌, [], Some, not, ◌&&◌, cond, map, filter, find, option_map, Contains}
use Rattle.casper_words.specs.Crew.{has_member}
use Rattle.casper_model.specs.Stabilisation.{Stabilisation, is_sealed as machine_sealed, is_doubtful as machine_doubts}
use Rattle.casper_gather.specs.declared.stab.Stab.{Stab}
use Rattle.casper_gather.specs.Bookkeeping.{stabilisation_of, without_asker}
use Rattle.casper_gather.specs.Unended.{led_by, led_among, sealed_by, first_in, is_doubtful, with_changed, but_led_among, without_asker_of_each}

-- the machine's list of stabilisations
abbrev pub stabilisations_of : List Stab → List Stabilisation
stabilisations_of each = map stabilisation_of each

-- each one is the one that its lead leads
abbrev pub HaveOneEachLead : List Stab → Type 0
HaveOneEachLead each = (one : Stab) → Contains each one → led_by one.lead each ≡ Some one

-- what is found by a lead is what the machine finds
abbrev pub FoundByLead : Type 0
FoundByLead = (lead : ℕ) (each : List Stab) → option_map stabilisation_of (led_by lead each) ≡ find (λ one. one.lead == lead) (stabilisations_of each)

-- and so is what is found by the clients that its lead is among
abbrev pub FoundByMembers : Type 0
FoundByMembers = (members : List ℕ) (each : List Stab)
    → option_map stabilisation_of (led_among members each) ≡ find (λ one. has_member one.lead members) (stabilisations_of each)

-- and the sealed one of a lead
abbrev pub FoundSealed : Type 0
FoundSealed = (lead : ℕ) (each : List Stab)
    → option_map stabilisation_of (sealed_by lead each) ≡ find (λ one. (one.lead == lead) && machine_sealed one.phase) (stabilisations_of each)

-- and the one in doubt
abbrev pub FoundInDoubt : Type 0
FoundInDoubt = (each : List Stab)
    → option_map stabilisation_of (first_in is_doubtful each) ≡ find (λ one. machine_doubts one.phase) (stabilisations_of each)

-- a change of the one that a lead leads is the machine's change of that lead's
abbrev pub ChangedAsInTheMachine : Type 0
ChangedAsInTheMachine = (change : Stabilisation → Stabilisation) (one changed : Stab) (each : List Stab) → HaveOneEachLead each
    → led_by changed.lead each ≡ Some one → stabilisation_of changed ≡ change (stabilisation_of one)
    → stabilisations_of (with_changed changed each) ≡ map (λ other. cond (other.lead == changed.lead) (change other) other) (stabilisations_of each)

-- those that end are those that the machine ends
abbrev pub EndedAsInTheMachine : Type 0
EndedAsInTheMachine = (members : List ℕ) (each : List Stab)
    → stabilisations_of (but_led_among members each) ≡ filter (λ one. not (has_member one.lead members)) (stabilisations_of each)

-- a client that is gone waits in none of the machine's
abbrev pub ForgottenAsInTheMachine : Type 0
ForgottenAsInTheMachine = (who : ℕ) (each : List Stab)
    → stabilisations_of (without_asker_of_each who each) ≡ map (without_asker who) (stabilisations_of each)

-- one that begins stands behind the others
abbrev pub BegunAsInTheMachine : Type 0
BegunAsInTheMachine = (one : Stab) (each : List Stab) → stabilisations_of (each ++ one ∷ []) ≡ stabilisations_of each ++ stabilisation_of one ∷ []
