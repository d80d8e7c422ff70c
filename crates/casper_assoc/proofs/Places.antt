use Rattle.std.proofs.Common.{◌≡◌, ℕ, zero, suc, ◌+◌, ◌≤◌, Bool, true, false, ◌&&◌, ◌||◌, nat_eq, nat_lt, List, [], Option, None, get_or, replicate, eq-eqb, refl, sym, ap, ◌∙◌, ⊎_elim, arith}
use Rattle.std.proofs.Math.Bool.{or-false}
use Rattle.std.proofs.lemmas.Bool.{ne_eqb, cases_eq}
use Rattle.casper_words.specs.Crew.{IsCrew, has_member, crew_of}
use Rattle.casper_words.proofs.CrewLemmas.{has_member_crew_of, same_crew, IsCrew_crew_of, crew_of_same}

-- no client in any place of pages without clients
pub none_in_replicate : (pages page : ℕ) → get_or (replicate {A = Option ℕ} pages None) page None ≡ None
none_in_replicate zero page = refl
none_in_replicate (suc pages) zero = refl
none_in_replicate (suc pages) (suc page) = none_in_replicate pages page

-- the clients with a lesser number that pass a test
abbrev pub passing_below : (ℕ → Bool) → ℕ → List ℕ
passing_below test number = crew_of (λ other. nat_lt other number && test other)

-- at first nobody
pub none_passing : (test : ℕ → Bool) (members : List ℕ) → IsCrew members → members ≡ [] → members ≡ passing_below test 1
none_passing test members crew none =
    same_crew members (passing_below test 1) crew (IsCrew_crew_of (λ other. nat_lt other 1 && test other))
    (λ who client.
    let low : nat_lt who 1 ≡ false = let least : 1 ≤ who = client.0 in grind arith in
    ap (has_member who) none
    ∙ sym (has_member_crew_of (λ other. nat_lt other 1 && test other) who client ∙ ap (λ (b : Bool). b && test who) low))

-- the next one passes, and is added
pub one_passing : (test : ℕ → Bool) (members after : List ℕ) (number other : ℕ) → members ≡ passing_below test number → other ≡ number
    → test number ≡ true
    → after ≡ crew_of (λ client. has_member client members || nat_eq client other) → after ≡ passing_below test (number + 1)
one_passing test members after number other are same passes is =
    is ∙ crew_of_same (λ client. has_member client members || nat_eq client other) (λ client. nat_lt client (number + 1) && test client)
    (λ who client.
    ap (λ (l : List ℕ). has_member who l || nat_eq who other) are
    ∙ ap (λ (b : Bool). b || nat_eq who other) (has_member_crew_of (λ o. nat_lt o number && test o) who client)
    ∙ ap (λ (o : ℕ). (nat_lt who number && test who) || nat_eq who o) same
    ∙ ⊎_elim
    (λ (here : who ≡ number).
    let passed : test who ≡ true = ap test here ∙ passes in
    let below : nat_lt who (number + 1) ≡ true = grind arith in
    let not_yet : nat_lt who number ≡ false = grind arith in
    let test_here : nat_eq who number ≡ true = eq-eqb who number here in
    rw (passed, below, not_yet, test_here) refl)
    (λ (differ : who ≡ number → ⊥).
    let alike : nat_lt who (number + 1) ≡ nat_lt who number = grind arith in
    let test_other : nat_eq who number ≡ false = ne_eqb who number differ in
    rw (alike, test_other) (or-false (nat_lt who number && test who)))
    (cases_eq who number))

-- the next one does not pass
pub none_more_passing : (test : ℕ → Bool) (members : List ℕ) (number : ℕ) → members ≡ passing_below test number → test number ≡ false
    → members ≡ passing_below test (number + 1)
none_more_passing test members number are fails =
    are ∙ crew_of_same (λ client. nat_lt client number && test client) (λ client. nat_lt client (number + 1) && test client)
    (λ who client. ⊎_elim
    (λ (here : who ≡ number).
    let failed : test who ≡ false = ap test here ∙ fails in
    rw failed (neither (nat_lt who number) (nat_lt who (number + 1))))
    (λ (differ : who ≡ number → ⊥).
    let alike : nat_lt who (number + 1) ≡ nat_lt who number = grind arith in
    rw alike refl)
    (cases_eq who number))
  where
    neither : (a b : Bool) → (a && false) ≡ (b && false)
    neither true true = refl
    neither true false = refl
    neither false true = refl
    neither false false = refl

-- at last all
pub all_passing : (test : ℕ → Bool) (members : List ℕ) (number : ℕ) → members ≡ passing_below test number → 33 ≤ number
    → members ≡ crew_of test
all_passing test members number are last =
    are ∙ crew_of_same (λ client. nat_lt client number && test client) test
    (λ who client.
    let below : nat_lt who number ≡ true = let most : who ≤ 32 = client.1 in grind arith in
    ap (λ (b : Bool). b && test who) below)
