use Rattle.std.proofs.Common.{◌≡◌, List, [], ◌∷◌, Bool, true, false, cond, ◌==◌, map, refl, sym, ap, ◌∙◌, subst, Contains, eqb-true}
use Rattle.casper_gather.specs.declared.stab.Stab.{Stab}
use Rattle.casper_gather.specs.Bookkeeping.{stabilisation_of}
use Rattle.casper_gather.specs.Unended.{with_changed}
use Rattle.casper_gather.specs.UnendedLaws.{stabilisations_of}
use Rattle.casper_gather.proofs.Shown.{map_shown}
use Rattle.casper_model.specs.Shared.{Shared}
use Rattle.casper_model.specs.Stabilisation.{Stabilisation}
use Rattle.casper_turns.specs.Good.{IsGoodShared}
use Rattle.casper_turns.proofs.Lists.{contains_mapped}
use Rattle.casper_hub.proofs.FrozenOpened.{leads_differ}

-- What is noted of a loss, in the list that the server keeps.

-- a change of the one that has a lead is the machine's change of it
pub changed_in_machine : (shared : Shared) (each : List Stab) (one changed : Stab) (change : Stabilisation → Stabilisation) → IsGoodShared shared
    → shared.stabilisations ≡ stabilisations_of each → Contains shared.stabilisations (stabilisation_of one) → changed.lead ≡ one.lead
    → stabilisation_of changed ≡ change (stabilisation_of one)
    → stabilisations_of (with_changed changed each) ≡ map (λ other. cond (other.lead == one.lead) (change other) other) (stabilisations_of each)
changed_in_machine shared each one changed change good list inside lead is =
    map_shown stabilisation_of (λ (other : Stab). cond (other.lead == changed.lead) changed other) (λ other. cond (other.lead == changed.lead) (change other) other) each
    (λ other also. by other also (other.lead == changed.lead) refl)
    ∙ ap (λ n. map (λ (other : Stabilisation). cond (other.lead == n) (change other) other) (stabilisations_of each)) lead
  where
    by : (other : Stab) → Contains each other → (b : Bool) → (other.lead == changed.lead) ≡ b
        → stabilisation_of (cond b changed other) ≡ cond b (change (stabilisation_of other)) (stabilisation_of other)
    by other also true same =
        is
        ∙ ap change
        (leads_differ shared good (stabilisation_of one) (stabilisation_of other) inside
        (subst (λ xs. Contains xs (stabilisation_of other)) (sym list) (contains_mapped stabilisation_of each other also))
        (sym (eqb-true other.lead changed.lead same ∙ lead)))
    by other also false apart = refl

-- where nothing is being made stable nothing is after a change
pub none_changed : (changed : Stab) (each : List Stab) → stabilisations_of each ≡ [] → stabilisations_of (with_changed changed each) ≡ []
none_changed changed [] none = refl
none_changed changed (one ∷ each) none = cc
