use Rattle.std.proofs.Common.{AllPairs, slice_get, Some, length, get_or, ◌≡◌, ℕ, zero, suc, ◌+◌, ◌<◌, ◌≤◌, Bool, true, false, ◌&&◌, ◌||◌, ◌==◌, List, [], ◌∷◌, refl, sym, ◌∙◌, ap, inl, inr, subst, arith}
use Rattle.std.specs.List.{range_with_len, filter}
use Rattle.std.specs.List.Sorted.{IsStrictlyIncreasing}
use Rattle.std.proofs.lemmas.Bool.{or_left, eq-eqb, cond_both, cases_Bool, eqb-true, eqb-false, and_right, and_left, and_parts, or_cases}
use Rattle.std.proofs.lemmas.List.FromFn.{length-range_with_len, get_or-range_with_len}
use Rattle.std.proofs.lemmas.List.Kept.{IsStrictlyIncreasing-filter, AllPairs-from_increasing}
use Rattle.std.proofs.lemmas.List.Folds.{Any-from_list_any}
use Rattle.std.proofs.lemmas.Option.{none-some, same_Some}
use Rattle.casper_words.specs.Crew.{IsClient, has_member, crew_of, IsCrew}
use Rattle.casper_words.specs.CrewBits.{crew_of_counted}

and_true : (b : Bool) → (b && true) ≡ b
and_true true = refl
and_true false = refl

-- a member of what passes a test passes it, and is a member of the whole
pub has_member_filter : (test : ℕ → Bool) (who : ℕ) (xs : List ℕ) → has_member who (filter test xs) ≡ (test who && has_member who xs)
has_member_filter test who [] = sym (and_right (test who) false refl)
has_member_filter test who (x ∷ xs) =
    let rest = filter test xs in
    let kept : has_member who rest ≡ (test who && has_member who xs) = has_member_filter test who xs in
    cond_both (test x) (x ∷ rest) rest (λ ys. has_member who ys ≡ (test who && (x == who || has_member who xs)))
    (λ passes. elim (cases_Bool (x == who)) [
      | inl here ↦
          let passed : test who ≡ true = sym (ap test (eqb-true x who here)) ∙ passes in
          rw (here, passed) refl
      | inr other ↦ rw other kept
    ])
    (λ fails. elim (cases_Bool (x == who)) [
      | inl here ↦
          let failed : test who ≡ false = sym (ap test (eqb-true x who here)) ∙ fails in
          kept ∙ and_left (test who) (has_member who xs) failed ∙ sym (and_left (test who) (x == who || has_member who xs) failed)
      | inr other ↦ rw other kept
    ])

-- each number of a range is a member of it
pub has_member_range : (who first count : ℕ) → first ≤ who → who < first + count → has_member who (range_with_len first count) ≡ true
has_member_range who first zero low high = absurd (omega arith)
has_member_range who first (suc count) low high =
    elim (cases_Bool (first == who)) [
      | inl here ↦ rw here refl
      | inr other ↦
          let apart : first ≡ who → ⊥ = eqb-false first who other in
          rw other (has_member_range who (first + 1) count (omega arith) (omega arith))
    ]

-- a member of a range is within it
pub range_from_member : (who first count : ℕ) → has_member who (range_with_len first count) ≡ true → (first ≤ who) × (who < first + count)
range_from_member who first zero found = cc
range_from_member who first (suc count) found =
    elim (or_cases (first == who) (has_member who (range_with_len (first + 1) count)) found) [
      | inl here ↦ let e : first ≡ who = eqb-true first who here in (omega arith, omega arith)
      | inr behind ↦ let within = range_from_member who (first + 1) count behind in (omega (arith, within.0), omega (arith, within.1))
    ]

-- two tests that agree on a range keep the same of it
pub filter_range_same : (f g : ℕ → Bool) (first count : ℕ) → ((who : ℕ) → first ≤ who → who < first + count → f who ≡ g who) → filter f (range_with_len first count) ≡ filter g (range_with_len first count)
filter_range_same f g first zero same = refl
filter_range_same f g first (suc count) same =
    let here : f first ≡ g first = same first (omega arith) (omega arith) in
    let rest : filter f (range_with_len (first + 1) count) ≡ filter g (range_with_len (first + 1) count) =
    filter_range_same f g (first + 1) count (λ who low high. same who (omega arith) (omega arith)) in
    rw (here, rest) refl

has_member_counted : (test : ℕ → Bool) (who count : ℕ) → count ≡ 32 → has_member who (crew_of test) ≡ (test who && has_member who (range_with_len 1 count))
has_member_counted test who count is = ap (has_member who) (crew_of_counted test count is) ∙ has_member_filter test who (range_with_len 1 count)

member_counted : (test : ℕ → Bool) (who count : ℕ) → count ≡ 32 → IsClient who → has_member who (crew_of test) ≡ test who
member_counted test who count is client =
    has_member_counted test who count is
    ∙ ap (λ found. test who && found) (has_member_range who 1 count client.0 (omega (arith, client.1, is)))
    ∙ and_true (test who)

crew_of_same_counted : (f g : ℕ → Bool) (count : ℕ) → count ≡ 32 → ((who : ℕ) → IsClient who → f who ≡ g who) → crew_of f ≡ crew_of g
crew_of_same_counted f g count is same =
    crew_of_counted f count is
    ∙ filter_range_same f g 1 count (λ who low high. same who (low, omega arith))
    ∙ sym (crew_of_counted g count is)

client_counted : (test : ℕ → Bool) (who count : ℕ) → count ≡ 32 → has_member who (crew_of test) ≡ true → IsClient who
client_counted test who count is found =
    let within = range_from_member who 1 count (and_parts (test who) (has_member who (range_with_len 1 count)) (sym (has_member_counted test who count is) ∙ found)).1 in
    (within.0, omega (arith, within.1))

range_rises : (first count : ℕ) → IsStrictlyIncreasing (range_with_len first count)
range_rises first count =
    λ k within.
    let long : k + 1 < count = let P : ℕ → Type 0 = λ n. k + 1 < n in subst P (length-range_with_len first count) within in
    omega (arith, get_or-range_with_len first count k 0 (omega arith), get_or-range_with_len first count (k + 1) 0 long)

crew_rises_counted : (test : ℕ → Bool) (count : ℕ) → count ≡ 32 → IsStrictlyIncreasing (crew_of test)
crew_rises_counted test count is =
    let P : List ℕ → Type 0 = λ xs. IsStrictlyIncreasing xs in
    subst P (sym (crew_of_counted test count is)) (IsStrictlyIncreasing-filter test (range_with_len 1 count) (range_rises 1 count))

-- of a crew, exactly the clients that pass its test are members
pub has_member_crew_of : (test : ℕ → Bool) (who : ℕ) → IsClient who → has_member who (crew_of test) ≡ test who
has_member_crew_of test who client = member_counted test who 32 refl client

-- tests that agree on clients make the same crew
pub crew_of_same : (f g : ℕ → Bool) → ((who : ℕ) → IsClient who → f who ≡ g who) → crew_of f ≡ crew_of g
crew_of_same f g same = crew_of_same_counted f g 32 refl same

-- what a test makes is a crew
pub IsCrew_crew_of : (test : ℕ → Bool) → IsCrew (crew_of test)
IsCrew_crew_of test = record { canonical = crew_of_same test (λ who. has_member who (crew_of test)) (λ who client. sym (has_member_crew_of test who client)) }

-- crews with the same members are equal
pub same_crew : (xs ys : List ℕ) → IsCrew xs → IsCrew ys → ((who : ℕ) → IsClient who → has_member who xs ≡ has_member who ys) → xs ≡ ys
same_crew xs ys p q same = p.canonical ∙ crew_of_same (λ who. has_member who xs) (λ who. has_member who ys) same ∙ sym q.canonical

-- each member of a crew is a client
pub client_from_member : (members : List ℕ) (who : ℕ) → IsCrew members → has_member who members ≡ true → IsClient who
client_from_member members who crew found =
    client_counted (λ client. has_member client members) who 32 refl (sym (ap (has_member who) crew.canonical) ∙ found)

-- a crew's list rises
pub IsStrictlyIncreasing_crew : (members : List ℕ) → IsCrew members → IsStrictlyIncreasing members
IsStrictlyIncreasing_crew members crew =
    let P : List ℕ → Type 0 = λ xs. IsStrictlyIncreasing xs in
    subst P (sym crew.canonical) (crew_rises_counted (λ client. has_member client members) 32 refl)

-- a member that rises after another is above it
above_first : (first : ℕ) (members : List ℕ) → AllPairs (λ x y. x < y) (first ∷ members) → (who : ℕ) → has_member who members ≡ true → first < who
above_first first members rise who found =
    let place = Any-from_list_any (λ member. member == who) members found in
    let at : ℕ = place.0 in
    let within : at < length members = place.2 in
    let below : first < get_or members at place.1 = rise 0 (suc at) place.1 (omega arith) (omega arith) in
    let value : get_or members at place.1 ≡ place.1 = place.3 in
    let same : place.1 ≡ who = eqb-true place.1 who place.4 in
    omega arith

-- the first member is a member, and none has a lesser number
pub least_from_first : (members : List ℕ) (first : ℕ) → IsCrew members → slice_get members 0 ≡ Some first → (has_member first members ≡ true) × ((who : ℕ) → has_member who members ≡ true → first ≤ who)
least_from_first [] first crew is = absurd (none-some first is)
least_from_first (head ∷ members) first crew is =
    let same : head ≡ first = same_Some head first is in
    let rise : AllPairs (λ x y. x < y) (head ∷ members) = AllPairs-from_increasing (head ∷ members) (IsStrictlyIncreasing_crew (head ∷ members) crew) in (
      or_left (head == first) (has_member first members) (eq-eqb head first same),
      λ who found. elim (or_cases (head == who) (has_member who members) found) [
        | inl here ↦ let e : head ≡ who = eqb-true head who here in omega arith
        | inr behind ↦ let above : head < who = above_first head members rise who behind in omega arith
      ],
    )
