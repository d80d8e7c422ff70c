use Rattle.std.proofs.Common.{◌≡◌, ℕ, List, [], ◌∷◌, ◌++◌, Bool, true, false, cond, map, filter, Contains, refl, sym, ap, ap₂, ◌∙◌, ⊎_elim, arith, true≢false}
use Rattle.std.specs.List.{list_any}
use Rattle.std.proofs.lemmas.Bool.{cond_both, or_from, or_parts, false_from_ne_true}
use Rattle.casper_words.specs.Crew.{has_member}
use Rattle.casper_trail.specs.declared.item.Item.{Item}
use Rattle.casper_trail.specs.Association.{association_of}
use Rattle.casper_trail.proofs.LinkLists.{contains_there}
use Rattle.casper_model.specs.Stabilisation.{Stabilisation}
use Rattle.casper_model.proofs.Entries.{contains_cases}
use Rattle.casper_turns.specs.Frozen.{leads_of, AreApart}
use Rattle.casper_turns.proofs.Lists.{contains_here, contains_mapped, contains_filter, any_none, any_of}

-- leads whose associations stay are apart still
pub apart_still : (trail after : List Item) (leads : List ℕ) → ((lead : ℕ) → Contains leads lead → association_of after lead ≡ association_of trail lead)
    → AreApart trail leads → AreApart after leads
apart_still trail after [] same apart = tt
apart_still trail after (lead ∷ leads) same apart = (
  λ who is.
      any_none (λ other. has_member who (association_of after other)) leads
      (λ other inside found.
      true≢false
      (sym (any_of (λ one. has_member who (association_of trail one)) leads other inside
      (sym (ap (has_member who) (same other (contains_there lead leads other inside))) ∙ found))
      ∙ apart.0 who (sym (ap (has_member who) (same lead (contains_here lead leads))) ∙ is))),
  apart_still trail after leads (λ other inside. same other (contains_there lead leads other inside)) apart.1,
)

-- some of them are
pub apart_some : (trail : List Item) (test : ℕ → Bool) (leads : List ℕ) → AreApart trail leads → AreApart trail (filter test leads)
apart_some trail test [] apart = tt
apart_some trail test (lead ∷ leads) apart =
    cond_both (test lead) (lead ∷ filter test leads) (filter test leads) (AreApart trail)
    (λ kept. (
      λ who is.
          any_none (λ other. has_member who (association_of trail other)) (filter test leads)
          (λ other inside found.
          true≢false
          (sym (any_of (λ one. has_member who (association_of trail one)) leads other (contains_filter test leads other inside).0 found) ∙ apart.0 who is)),
      apart_some trail test leads apart.1,
    ))
    (λ dropped. apart_some trail test leads apart.1)

-- one more is, of whose members none is in the association of another
pub apart_one_more : (trail : List Item) (leads : List ℕ) (lead : ℕ) → AreApart trail leads
    → ((who other : ℕ) → has_member who (association_of trail lead) ≡ true → Contains leads other → has_member who (association_of trail other) ≡ true → ⊥)
    → AreApart trail (leads ++ lead ∷ [])
apart_one_more trail [] lead apart alone = (λ who is. refl, tt)
apart_one_more trail (first ∷ leads) lead apart alone = (
  λ who is.
      list_any_append_one (λ other. has_member who (association_of trail other)) leads lead (apart.0 who is)
      (false_from_ne_true (has_member who (association_of trail lead)) (λ found. alone who first found (contains_here first leads) is)),
  apart_one_more trail leads lead apart.1 (λ who other found inside is. alone who other found (contains_there first leads other inside) is),
)
  where
    list_any_append_one : (test : ℕ → Bool) (xs : List ℕ) (x : ℕ) → list_any test xs ≡ false → test x ≡ false → list_any test (xs ++ x ∷ []) ≡ false
    list_any_append_one test [] x none fails = or_from (test x) false fails refl
    list_any_append_one test (y ∷ xs) x none fails =
        let parts = or_parts (test y) (list_any test xs) none in or_from (test y) (list_any test (xs ++ x ∷ [])) parts.0 (list_any_append_one test xs x parts.1 fails)

-- changes that keep each lead keep the leads
pub leads_mapped : (change : Stabilisation → Stabilisation) → ((one : Stabilisation) → (change one).lead ≡ one.lead) → (stabilisations : List Stabilisation)
    → leads_of (map change stabilisations) ≡ leads_of stabilisations
leads_mapped change same [] = refl
leads_mapped change same (one ∷ rest) = ap₂ (λ (lead : ℕ) (leads : List ℕ). lead ∷ leads) (same one) (leads_mapped change same rest)

pub leads_filtered : (test : ℕ → Bool) (stabilisations : List Stabilisation)
    → leads_of (filter (λ one. test one.lead) stabilisations) ≡ filter test (leads_of stabilisations)
leads_filtered test [] = refl
leads_filtered test (one ∷ rest) =
    elim (test one.lead) as
    (λ keep. leads_of (cond keep (one ∷ filter (λ other. test other.lead) rest) (filter (λ other. test other.lead) rest))
    ≡ cond keep (one.lead ∷ filter test (leads_of rest)) (filter test (leads_of rest)))
    [ true ↦ ap (λ (leads : List ℕ). one.lead ∷ leads) (leads_filtered test rest) | false ↦ leads_filtered test rest ]

pub leads_pushed : (stabilisations : List Stabilisation) (one : Stabilisation) → leads_of (stabilisations ++ one ∷ []) ≡ leads_of stabilisations ++ one.lead ∷ []
leads_pushed [] one = refl
leads_pushed (first ∷ rest) one = ap (λ (leads : List ℕ). first.lead ∷ leads) (leads_pushed rest one)

-- two with a common member are one
pub one_with_member : (trail : List Item) (stabilisations : List Stabilisation) (one other : Stabilisation) (who : ℕ) → AreApart trail (leads_of stabilisations)
    → Contains stabilisations one → Contains stabilisations other
    → has_member who (association_of trail one.lead) ≡ true → has_member who (association_of trail other.lead) ≡ true → one ≡ other
one_with_member trail [] one other who apart inside also is is_too = absurd (omega (arith, inside.1))
one_with_member trail (first ∷ rest) one other who apart inside also is is_too =
    ⊎_elim
    (λ (here : first ≡ one).
    ⊎_elim (λ (here_too : first ≡ other). sym here ∙ here_too)
    (λ later. absurd (both_not one other here is later is_too)) (contains_cases first rest other also))
    (λ later.
    ⊎_elim (λ (here : first ≡ other). absurd (both_not other one here is_too later is))
    (λ later_too. one_with_member trail rest one other who apart.1 later later_too is is_too) (contains_cases first rest other also))
    (contains_cases first rest one inside)
  where
    both_not : (near away : Stabilisation) → first ≡ near → has_member who (association_of trail near.lead) ≡ true → Contains rest away
        → has_member who (association_of trail away.lead) ≡ true → ⊥
    both_not near away same near_is far far_is =
        true≢false
        (sym (any_of (λ lead. has_member who (association_of trail lead)) (leads_of rest) away.lead (contains_mapped (λ (x : Stabilisation). x.lead) rest away far) far_is)
        ∙ apart.0 who (ap (λ (x : Stabilisation). has_member who (association_of trail x.lead)) same ∙ near_is))
