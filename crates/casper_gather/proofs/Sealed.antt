use Rattle.std.proofs.Common.{◌≡◌, ◌<◌, ◌≤◌, ◌+◌, ℕ, Bool, true, false, ◌&&◌, ◌||◌, ◌==◌, cond, List, [], ◌∷◌, length, drop, get_or, refl, sym, ap, ◌∙◌}
use Rattle.std.specs.Prelude.{Option, None, Some, is_some}
use Rattle.std.proofs.lemmas.List.{at_drop_more, at_drop_all}
use Rattle.casper_words.specs.Crew.{IsCrew, has_member, crew_of}
use Rattle.casper_words.proofs.CrewLemmas.{crew_of_same, has_member_crew_of}
use Rattle.casper_gather.specs.declared.stab.Stab.{Stab}
use Rattle.casper_gather.specs.Unended.{is_sealed, sealed_by, sealed_leads}
use Rattle.casper_gather.proofs.Awaited.{flip}

-- The leads of those that are sealed, gathered one after another.

-- with those of the rest that are sealed they are all
pub record AreLeadsSoFar (each rest : List Stab) (leads : List ℕ) : Type 0 where
  pub all : crew_of (λ lead. has_member lead leads || is_some (sealed_by lead rest)) ≡ sealed_leads each
  pub crew : IsCrew leads

-- none at first
pub no_leads : (each : List Stab) (leads : List ℕ) → leads ≡ [] → IsCrew leads → AreLeadsSoFar each each leads
no_leads each leads none crew = record {
  all = ap (λ (list : List ℕ). crew_of (λ lead. has_member lead list || is_some (sealed_by lead each))) none;
  crew = crew;
}

-- whether the first one is the sealed one of a lead, or another is
first_or_rest : (is : Bool) (one : Stab) (rest : Option Stab) → is_some (cond is (Some one) rest) ≡ (is || is_some rest)
first_or_rest true one rest = refl
first_or_rest false one rest = refl

sealed_next : (each : List Stab) (i : ℕ) (one : Stab) (who : ℕ) → i < length each → one ≡ get_or each i one
    → is_some (sealed_by who (drop i each)) ≡ (((one.lead == who) && is_sealed one.phase) || is_some (sealed_by who (drop (i + 1) each)))
sealed_next each i one who within at =
    at_drop_more (λ rest. is_some (sealed_by who rest)) each i one within
    ∙ ap (λ (first : Stab). is_some (sealed_by who (first ∷ drop (i + 1) each))) (sym at)
    ∙ first_or_rest ((one.lead == who) && is_sealed one.phase) one (sealed_by who (drop (i + 1) each))

moved : (member same rest : Bool) → ((member || same) || rest) ≡ (member || ((same && true) || rest))
moved true same rest = refl
moved false true rest = refl
moved false false rest = refl

skipped : (same rest : Bool) → ((same && false) || rest) ≡ rest
skipped true rest = refl
skipped false rest = refl

-- a sealed one adds its lead
pub one_lead_more : (each : List Stab) (i : ℕ) (one : Stab) (leads after : List ℕ) → i < length each → one ≡ get_or each i one
    → is_sealed one.phase ≡ true → after ≡ crew_of (λ client. has_member client leads || client == one.lead) → IsCrew after
    → AreLeadsSoFar each (drop i each) leads → AreLeadsSoFar each (drop (i + 1) each) after
one_lead_more each i one leads after within at sealed is crew so = record {
  all = crew_of_same (λ lead. has_member lead after || is_some (sealed_by lead (drop (i + 1) each)))
      (λ lead. has_member lead leads || is_some (sealed_by lead (drop i each)))
      (λ who client.
      let rest = is_some (sealed_by who (drop (i + 1) each)) in
      ap (λ (list : List ℕ). has_member who list || rest) is
      ∙ ap (λ b. b || rest) (has_member_crew_of (λ other. has_member other leads || other == one.lead) who client)
      ∙ ap (λ b. (has_member who leads || b) || rest) (flip who one.lead)
      ∙ moved (has_member who leads) (one.lead == who) rest
      ∙ ap (λ b. has_member who leads || (((one.lead == who) && b) || rest)) (sym sealed)
      ∙ ap (λ b. has_member who leads || b) (sym (sealed_next each i one who within at)))
      ∙ so.all;
  crew = crew;
}

-- and one that is not sealed does not
pub no_lead_more : (each : List Stab) (i : ℕ) (one : Stab) (leads : List ℕ) → i < length each → one ≡ get_or each i one
    → is_sealed one.phase ≡ false → AreLeadsSoFar each (drop i each) leads → AreLeadsSoFar each (drop (i + 1) each) leads
no_lead_more each i one leads within at not_sealed so = record {
  all = crew_of_same (λ lead. has_member lead leads || is_some (sealed_by lead (drop (i + 1) each)))
      (λ lead. has_member lead leads || is_some (sealed_by lead (drop i each)))
      (λ who client.
      ap (λ b. has_member who leads || b)
      (sym (sealed_next each i one who within at
      ∙ ap (λ b. ((one.lead == who) && b) || is_some (sealed_by who (drop (i + 1) each))) not_sealed
      ∙ skipped (one.lead == who) (is_some (sealed_by who (drop (i + 1) each))))))
      ∙ so.all;
  crew = so.crew;
}

or_false : (b : Bool) → (b || false) ≡ b
or_false true = refl
or_false false = refl

-- at last they are all
pub all_leads : (each : List Stab) (i : ℕ) (leads : List ℕ) → length each ≤ i → AreLeadsSoFar each (drop i each) leads
    → leads ≡ sealed_leads each
all_leads each i leads past so =
    so.crew.canonical
    ∙ crew_of_same (λ who. has_member who leads) (λ lead. has_member lead leads || is_some (sealed_by lead (drop i each)))
    (λ who client.
    sym (ap (λ b. has_member who leads || b) (at_drop_all (λ rest. is_some (sealed_by who rest)) each i past) ∙ or_false (has_member who leads)))
    ∙ so.all
