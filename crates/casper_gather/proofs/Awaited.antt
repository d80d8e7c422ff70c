use Rattle.std.proofs.Common.{◌≡◌, ℕ, Bool, true, false, ◌&&◌, ◌||◌, not, cond, nat_eq, List, [], ◌∷◌, length, eq-eqb, refl, sym, ap, ◌∙◌, ⊎_elim, arith}
use Rattle.std.specs.List.{filter}
use Rattle.std.proofs.lemmas.Bool.{ne_eqb, eqb-true, eqb-false, cases_Bool}
use Rattle.casper_words.specs.Crew.{IsCrew, has_member, crew_of, clients}
use Rattle.casper_words.proofs.CrewLemmas.{crew_of_same, has_member_filter, has_member_crew_of}
use Rattle.casper_model.specs.Stabilisation.{Gathering, Sealed, is_empty, without, phase_awaiting}
use Rattle.casper_gather.specs.GatherLaws.{BegunGathers, BegunSealed, GathersForTheOthers, LastMemberSeals}
use Rattle.casper_gather.specs.AskerLaws.{LeadIsAsker, WhoAsksIsAsker, OtherAskersStay, WhoIsGoneIsNoAsker, OtherAskersAreKept}

-- a filter of a filter is one by both tests
filter_both : (first second : ℕ → Bool) (xs : List ℕ) → filter second (filter first xs) ≡ filter (λ x. first x && second x) xs
filter_both first second [] = refl
filter_both first second (x ∷ xs) =
    ⊎_elim
    (λ (passes : first x ≡ true). rw passes (ap (λ rest. cond (second x) (x ∷ rest) rest) (filter_both first second xs)))
    (λ (fails : first x ≡ false). rw fails (filter_both first second xs))
    (cases_Bool (first x))

-- a crew without a client, as a crew and as a list
pub without_is : (members : List ℕ) (who : ℕ) → IsCrew members
    → crew_of (λ client. has_member client members && not (nat_eq client who)) ≡ without who members
unfolding crew_of
without_is members who crew =
    sym (filter_both (λ client. has_member client members) (λ client. not (nat_eq client who)) clients)
    ∙ ap (filter (λ client. not (nat_eq client who))) (sym crew.canonical)

pub flip : (one other : ℕ) → nat_eq one other ≡ nat_eq other one
flip one other =
    ⊎_elim
    (λ (same : nat_eq one other ≡ true). same ∙ sym (eq-eqb other one (sym (eqb-true one other same))))
    (λ (differ : nat_eq one other ≡ false). differ ∙ sym (ne_eqb other one (λ same. eqb-false one other differ (sym same))))
    (cases_Bool (nat_eq one other))

or_flip : (a b : Bool) → (a || b) ≡ (b || a)
or_flip true true = refl
or_flip true false = refl
or_flip false true = refl
or_flip false false = refl

-- a crew with a client, as the machine has it
pub with_is : (members : List ℕ) (who : ℕ) → crew_of (λ client. has_member client members || nat_eq client who) ≡ crew_of
    (λ client. has_member client (who ∷ members))
with_is members who =
    crew_of_same (λ client. has_member client members || nat_eq client who) (λ client. has_member client (who ∷ members))
    (λ client is. or_flip (has_member client members) (nat_eq client who) ∙ ap (λ b. b || has_member client members) (flip client who))

-- a crew is empty exactly where it counts nobody
pub is_empty_counted : (members : List ℕ) → length members ≡ 0 → is_empty members ≡ true
is_empty_counted [] none = refl
is_empty_counted (x ∷ xs) some = absurd (omega (arith, some))

pub is_not_empty : (members : List ℕ) → (length members ≡ 0 → ⊥) → is_empty members ≡ false
is_not_empty [] some = absurd (some refl)
is_not_empty (x ∷ xs) some = refl

has_some : (members : List ℕ) (member : ℕ) → has_member member members ≡ true → is_empty members ≡ false
has_some [] member found = cc
has_some (x ∷ xs) member found = refl

pub begun_gathers : BegunGathers
begun_gathers lead member awaited found = ap (λ b. cond b Sealed Gathering) (has_some awaited member found)

pub begun_sealed : BegunSealed
begun_sealed lead = refl

pub gathers_for_the_others : GathersForTheOthers
gathers_for_the_others one who member found differ =
    let left : has_member member (without who one.awaited) ≡ true =
    has_member_filter (λ other. not (nat_eq other who)) member one.awaited
    ∙ ap (λ b. not b && has_member member one.awaited) (ne_eqb member who differ) ∙ found in
    (ap (λ b. cond b Sealed Gathering) (has_some (without who one.awaited) member left), left)

or_right : (a b : Bool) → b ≡ true → (a || b) ≡ true
or_right true b e = refl
or_right false b e = e

nobody_left : (members : List ℕ) (who : ℕ) → ((member : ℕ) → has_member member members ≡ true → member ≡ who) → without who members ≡ []
nobody_left [] who all = refl
nobody_left (x ∷ xs) who all =
    let here : x ≡ who = all x (ap (λ b. b || has_member x xs) (eq-eqb x x refl)) in
    let goes : nat_eq x who ≡ true = eq-eqb x who here in
    rw goes (nobody_left xs who (λ member found. all member (or_right (nat_eq x member) (has_member member xs) found)))

pub last_member_seals : LastMemberSeals
last_member_seals one who all =
    let none : without who one.awaited ≡ [] = nobody_left one.awaited who all in
    (ap phase_awaiting none, none)

pub lead_is_asker : LeadIsAsker
lead_is_asker lead awaited is =
    has_member_crew_of (λ other. has_member other (lead ∷ [])) lead is ∙ ap (λ b. b || false) (eq-eqb lead lead refl)

pub who_asks_is_asker : WhoAsksIsAsker
who_asks_is_asker who one is =
    has_member_crew_of (λ other. has_member other (who ∷ one.askers)) who is
    ∙ ap (λ b. b || has_member who one.askers) (eq-eqb who who refl)

pub other_askers_stay : OtherAskersStay
other_askers_stay who other one is differ =
    has_member_crew_of (λ client. has_member client (who ∷ one.askers)) other is
    ∙ ap (λ b. b || has_member other one.askers) (ne_eqb who other (λ same. differ (sym same)))

pub who_is_gone_is_no_asker : WhoIsGoneIsNoAsker
who_is_gone_is_no_asker who one =
    has_member_filter (λ member. not (nat_eq member who)) who one.askers
    ∙ ap (λ b. not b && has_member who one.askers) (eq-eqb who who refl)

pub other_askers_are_kept : OtherAskersAreKept
other_askers_are_kept who other one differ =
    has_member_filter (λ member. not (nat_eq member who)) other one.askers
    ∙ ap (λ b. not b && has_member other one.askers) (ne_eqb other who differ)
