use Rattle.std.proofs.Common.{◌≡◌, ◌<◌, ℕ, zero, suc, ◌+◌, List, [], ◌∷◌, map, refl, sym, ap, ◌∙◌, subst, ⊎_elim, true≢false, arith}
use Rattle.std.specs.Prelude.{None, slice_index_or}
use Rattle.std.specs.List.{range_with_len}
use Rattle.std.proofs.lemmas.Bool.{cases_lt}
use Rattle.std.proofs.lemmas.List.{get_or-replicate}
use Rattle.casper_words.specs.declared.page.Right.TheVariants as may
use Rattle.casper_model.specs.Held.{allows}
use Rattle.casper_model.specs.Shared.{client_at, of_client, new_shared}
use Rattle.casper_model.specs.Own.{Own, blank}
use Rattle.casper_model.specs.Vault.{VaultState}
use Rattle.casper_model.specs.State.{State, own_at, start}
use Rattle.casper_model.specs.Step.{step}
use Rattle.casper_model.specs.Run.{Happening, state_after}
use Rattle.casper_model.specs.Rights.{Agrees, InOrder, AllNameClients, StartsInOrder, EveryRunKeepsTheRights}
use Rattle.casper_model.proofs.Places.{client_beyond}
use Rattle.casper_model.proofs.StepRights.{step_rights}

-- an own part of a client that has nothing
pub record IsBlank (own : Own) (who : ℕ) : Type 0 where
  pub number : own.who ≡ who
  pub held : own.held ≡ []
  pub pending : own.pending ≡ []

blank_place : (capacity first count at : ℕ) → IsBlank (slice_index_or (map (λ who. blank who capacity) (range_with_len first count)) at (blank (first + at) 0)) (first + at)
blank_place capacity first zero at = record { number = refl; held = refl; pending = refl }
blank_place capacity first (suc count) zero = let e : first ≡ first + 0 = omega arith in record { number = e; held = refl; pending = refl }
blank_place capacity first (suc count) (suc at) =
    let e : first + 1 + at ≡ first + suc at = omega arith in
    subst (λ number. IsBlank (slice_index_or (map (λ who. blank who capacity) (range_with_len (first + 1) count)) at (blank number 0)) number) e
    (blank_place capacity (first + 1) count at)

pub blank_at : (vault : VaultState) (pages limit capacity who : ℕ) → IsBlank (own_at (start vault pages limit capacity) who) who
blank_at vault pages limit capacity who =
    let e : 0 + who ≡ who = omega arith in
    subst (λ number. IsBlank (slice_index_or (map (λ one. blank one capacity) (range_with_len 0 33)) who (blank number 0)) number) e (blank_place capacity 0 33 who)

pub nobody_at : (pages limit who : ℕ) → client_at (new_shared pages limit) who ≡ None
nobody_at pages limit who =
    ⊎_elim (λ (below : who < 33). get_or-replicate 33 who None None below) (λ past. client_beyond (new_shared pages limit) who past) (cases_lt who 33)

pub start_in_order : StartsInOrder
start_in_order vault pages limit capacity = record {
  shaped = record { clients = refl; owns = refl; nobody = refl; numbers = λ who. (blank_at vault pages limit capacity who).number };
  rights = record {
    agree = λ who.
        let own = blank_at vault pages limit capacity who in
        subst (λ place. Agrees place (own_at (start vault pages limit capacity) who)) (sym (nobody_at pages limit who)) (own.held, own.pending);
    exclusive = λ one other page writes holds.
        absurd (true≢false (sym writes ∙ ap (λ place. allows (of_client [] (λ client. client.rights) place) page may.Write) (nobody_at pages limit one)));
  };
}

run_rights : (state : State) (happenings : List Happening) → AllNameClients happenings → InOrder state → InOrder (state_after state happenings)
run_rights state [] named order = order
run_rights state (first ∷ following) named order =
    run_rights (step state first.event first.outside).state following named.1 (step_rights state first.event first.outside named.0 order)

pub every_run_rights : EveryRunKeepsTheRights
every_run_rights vault pages limit capacity happenings named =
    run_rights (start vault pages limit capacity) happenings named (start_in_order vault pages limit capacity)
