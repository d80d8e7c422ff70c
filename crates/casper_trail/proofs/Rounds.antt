use Rattle.std.proofs.Common.{◌≡◌, ◌<◌, ◌≤◌, ◌⊎◌, ℕ, zero, suc, List, [], ◌∷◌, Bool, true, false, cond, not, ◌&&◌, ◌||◌, ◌==◌, leb, filter, length, refl, ap, sym, ◌∙◌, subst, ⊎_elim, inl, inr, arith, suc-le-suc}
use Rattle.std.specs.List.{list_any}
use Rattle.std.proofs.lemmas.Bool.{or_cases, or_left, or_right, and_parts, and_from, eqb-true, eq-eqb, le-leb, leb-true, cases_Bool, true≢false, not-true}
use Rattle.casper_words.specs.Crew.{IsClient, IsCrew, clients, has_member, crew_of}
use Rattle.casper_words.proofs.CrewLemmas.{has_member_crew_of, IsCrew_crew_of, same_crew, client_from_member}
use Rattle.casper_trail.specs.declared.item.Item.{Item}
use Rattle.casper_trail.specs.Association.{Link, links_of, joins, AreLinked, IsClosedUnderLinks, joins_member, with_linked, after_rounds, alone, association_of}
use Rattle.casper_trail.specs.AssociationLaws.{AssociationIsSettled, AssociationGoesBothWays, AssociationGoesOn, AssociationIsACrew, AssociationHoldsItsClient, AssociationOfAMember, AssociationOfLinked, AssociationIsLeast}

-- of two tests of which one implies the other, the weaker keeps the same or more
filter_grows : {X : Type 0} (f g : X → Bool) → ((x : X) → f x ≡ true → g x ≡ true) → (xs : List X)
    → (filter f xs ≡ filter g xs) ⊎ (length (filter f xs) < length (filter g xs))
filter_grows f g implies [] = inl refl
filter_grows {X} f g implies (x ∷ xs) = step (f x) (g x) (implies x) (filter f xs) (filter g xs) (filter_grows f g implies xs)
  where
    step : (a b : Bool) → (a ≡ true → b ≡ true) → (few many : List X) → (few ≡ many) ⊎ (length few < length many)
        → (cond a (x ∷ few) few ≡ cond b (x ∷ many) many) ⊎ (length (cond a (x ∷ few) few) < length (cond b (x ∷ many) many))
    step true true implied few many (inl e) = inl (ap (λ rest. x ∷ rest) e)
    step true true implied few many (inr l) = inr (suc-le-suc l)
    step true false implied few many grown = absurd (true≢false (sym (implied refl)))
    step false true implied few many (inl e) = inr (let same : length few ≡ length many = ap length e in omega (arith, same))
    step false true implied few many (inr l) = inr (omega (arith, l))
    step false false implied few many grown = grown

filter_short : {X : Type 0} (f : X → Bool) (xs : List X) → length (filter f xs) ≤ length xs
filter_short f [] = omega arith
filter_short {X} f (x ∷ xs) = step (f x) (filter f xs) (filter_short f xs)
  where
    step : (a : Bool) (few : List X) → length few ≤ length xs → length (cond a (x ∷ few) few) ≤ suc (length xs)
    step true few short = suc-le-suc short
    step false few short = omega (arith, short)

clients_count : length clients ≡ 32
unfolding clients
clients_count = refl

crew_grows : (f g : ℕ → Bool) → ((who : ℕ) → f who ≡ true → g who ≡ true) → (crew_of f ≡ crew_of g) ⊎ (length (crew_of f) < length (crew_of g))
unfolding crew_of
crew_grows f g implies = filter_grows f g implies clients

crew_most : (f : ℕ → Bool) → length (crew_of f) ≤ 32
unfolding crew_of
crew_most f = let short : length (filter f clients) ≤ length clients = filter_short f clients in omega (arith, short, clients_count)

-- a round leaves the members, or adds one
round_grows : (links : List Link) (members : List ℕ) → IsCrew members
    → (members ≡ with_linked links members) ⊎ (length members < length (with_linked links members))
round_grows links members crew =
    ⊎_elim
    (λ e. inl (crew.canonical ∙ e))
    (λ l. inr (subst (λ (list : List ℕ). length list < length (with_linked links members)) (sym crew.canonical) l))
    (crew_grows (λ client. has_member client members) (λ client. has_member client members || list_any (joins_member members client) links)
    (λ client found. or_left (has_member client members) (list_any (joins_member members client) links) found))

rounds_step : (rounds : ℕ) (links : List Link) (members : List ℕ) → after_rounds (suc rounds) links members ≡ with_linked links (after_rounds rounds links members)
rounds_step zero links members = refl
rounds_step (suc rounds) links members = rounds_step rounds links (with_linked links members)

rounds_crew : (rounds : ℕ) (links : List Link) (members : List ℕ) → IsCrew members → IsCrew (after_rounds rounds links members)
rounds_crew zero links members crew = crew
rounds_crew (suc rounds) links members crew =
    rounds_crew rounds links (with_linked links members) (IsCrew_crew_of (λ client. has_member client members || list_any (joins_member members client) links))

-- a client that is a member stays one
rounds_hold : (rounds : ℕ) (links : List Link) (members : List ℕ) (client : ℕ) → IsClient client → has_member client members ≡ true
    → has_member client (after_rounds rounds links members) ≡ true
rounds_hold zero links members client is found = found
rounds_hold (suc rounds) links members client is found =
    rounds_hold rounds links (with_linked links members) client is
    (has_member_crew_of (λ one. has_member one members || list_any (joins_member members one) links) client is
    ∙ or_left (has_member client members) (list_any (joins_member members client) links) found)

alone_holds : (client : ℕ) → IsClient client → has_member client (alone client) ≡ true
alone_holds client is = has_member_crew_of (λ one. one == client) client is ∙ eq-eqb client client refl

some_member : (who : ℕ) (members : List ℕ) → has_member who members ≡ true → 0 < length members
some_member who [] found = absurd (true≢false (sym found))
some_member who (member ∷ members) found = omega arith

-- after so many rounds nothing is added any more, or there are more members than rounds
settled_or_long : (rounds : ℕ) (links : List Link) (client : ℕ) → IsClient client
    → (after_rounds rounds links (alone client) ≡ with_linked links (after_rounds rounds links (alone client)))
    ⊎ (rounds < length (after_rounds rounds links (alone client)))
settled_or_long zero links client is = inr (some_member client (alone client) (alone_holds client is))
settled_or_long (suc rounds) links client is =
    let before = after_rounds rounds links (alone client) in
    let step : after_rounds (suc rounds) links (alone client) ≡ with_linked links before = rounds_step rounds links (alone client) in
    ⊎_elim
    (λ (e : before ≡ with_linked links before). inl (step ∙ ap (with_linked links) (e ∙ sym step)))
    (λ (l : rounds < length before).
    ⊎_elim
    (λ (e : before ≡ with_linked links before). inl (step ∙ ap (with_linked links) (e ∙ sym step)))
    (λ (g : length before < length (with_linked links before)).
    inr (subst (λ (list : List ℕ). suc rounds < length list) (sym step) (omega (arith, l, g))))
    (round_grows links before (rounds_crew rounds links (alone client) (IsCrew_crew_of (λ one. one == client)))))
    (settled_or_long rounds links client is)

settled_counted : (count : ℕ) → count ≡ 32 → (links : List Link) (client : ℕ) → IsClient client
    → after_rounds count links (alone client) ≡ with_linked links (after_rounds count links (alone client))
settled_counted count is_count links client is =
    let last = after_rounds count links (alone client) in
    let crew : IsCrew last = rounds_crew count links (alone client) (IsCrew_crew_of (λ one. one == client)) in
    let most : length last ≤ 32 = subst (λ (list : List ℕ). length list ≤ 32) (sym crew.canonical) (crew_most (λ one. has_member one last)) in
    ⊎_elim (λ e. e) (λ (l : count < length last). absurd (omega (arith, l, most, is_count))) (settled_or_long count links client is)

-- the association with the count of the rounds as a variable
association_counted : (items : List Item) (client count : ℕ) → count ≡ 32 → association_of items client ≡ after_rounds count (links_of items) (alone client)
unfolding association_of
association_counted items client count is = ap (λ rounds. after_rounds rounds (links_of items) (alone client)) (sym is)

pub association_is_a_crew : AssociationIsACrew
association_is_a_crew items client =
    subst IsCrew (sym (association_counted items client 32 refl)) (rounds_crew 32 (links_of items) (alone client) (IsCrew_crew_of (λ one. one == client)))

pub association_holds_its_client : AssociationHoldsItsClient
association_holds_its_client items client is =
    ap (has_member client) (association_counted items client 32 refl)
    ∙ rounds_hold 32 (links_of items) (alone client) client is (alone_holds client is)

association_settled : (items : List Item) (client : ℕ) → IsClient client → association_of items client ≡ with_linked (links_of items) (association_of items client)
association_settled items client is =
    association_counted items client 32 refl ∙ settled_counted 32 refl (links_of items) client is
    ∙ ap (with_linked (links_of items)) (sym (association_counted items client 32 refl))

pub association_is_settled : AssociationIsSettled
association_is_settled items client is = sym (association_settled items client is)

-- a link to a member comes from a client
other_of : (links : List Link) (members : List ℕ) (client : ℕ) → list_any (joins_member members client) links ≡ true
    → (other : ℕ) × (list_any (joins other client) links ≡ true) × (has_member other members ≡ true)
other_of [] members client found = absurd (true≢false (sym found))
other_of (link ∷ links) members client found =
    ⊎_elim
    (λ here. ⊎_elim
    (λ writes. let parts = and_parts (link.writer == client) (has_member link.user members) writes in (
      link.user,
      or_left (joins link.user client link) (list_any (joins link.user client) links)
          (or_right ((link.writer == link.user) && (link.user == client)) ((link.writer == client) && (link.user == link.user))
          (and_from (link.writer == client) (link.user == link.user) parts.0 (eq-eqb link.user link.user refl))),
      parts.1,
    ))
    (λ uses. let parts = and_parts (link.user == client) (has_member link.writer members) uses in (
      link.writer,
      or_left (joins link.writer client link) (list_any (joins link.writer client) links)
          (or_left ((link.writer == link.writer) && (link.user == client)) ((link.writer == client) && (link.user == link.writer))
          (and_from (link.writer == link.writer) (link.user == client) (eq-eqb link.writer link.writer refl) parts.0)),
      parts.1,
    ))
    (or_cases ((link.writer == client) && has_member link.user members) ((link.user == client) && has_member link.writer members) here))
    (λ there. let rest = other_of links members client there in
    (rest.0, or_right (joins rest.0 client link) (list_any (joins rest.0 client) links) rest.1, rest.2))
    (or_cases (joins_member members client link) (list_any (joins_member members client) links) found)

-- what implies another test for each element implies it for some
pub list_any_implies : {X : Type 0} (p q : X → Bool) → ((x : X) → p x ≡ true → q x ≡ true) → (xs : List X) → list_any p xs ≡ true → list_any q xs ≡ true
list_any_implies p q implies [] found = absurd (true≢false (sym found))
list_any_implies p q implies (x ∷ xs) found =
    ⊎_elim
    (λ here. or_left (q x) (list_any q xs) (implies x here))
    (λ there. or_right (q x) (list_any q xs) (list_any_implies p q implies xs there))
    (or_cases (p x) (list_any p xs) found)

joins_a_member : (members : List ℕ) (other client : ℕ) → has_member other members ≡ true → (link : Link) → joins other client link ≡ true
    → joins_member members client link ≡ true
joins_a_member members other client found link joined =
    let as_member : (who : ℕ) → (who == other) ≡ true → has_member who members ≡ true =
    λ who is. ap (λ w. has_member w members) (eqb-true who other is) ∙ found in
    ⊎_elim
    (λ writes. let parts = and_parts (link.writer == other) (link.user == client) writes in
    or_right ((link.writer == client) && has_member link.user members) ((link.user == client) && has_member link.writer members)
    (and_from (link.user == client) (has_member link.writer members) parts.1 (as_member link.writer parts.0)))
    (λ uses. let parts = and_parts (link.writer == client) (link.user == other) uses in
    or_left ((link.writer == client) && has_member link.user members) ((link.user == client) && has_member link.writer members)
    (and_from (link.writer == client) (has_member link.user members) parts.0 (as_member link.user parts.1)))
    (or_cases ((link.writer == other) && (link.user == client)) ((link.writer == client) && (link.user == other)) joined)

-- the association is closed under links
pub association_closed : (items : List Item) (client : ℕ) → IsClient client → IsClosedUnderLinks items (λ who. has_member who (association_of items client))
association_closed items client is one other is_one is_other linked found =
    let whole = association_of items client in
    ap (has_member other) (association_settled items client is)
    ∙ has_member_crew_of (λ who. has_member who whole || list_any (joins_member whole who) (links_of items)) other is_other
    ∙ or_right (has_member other whole) (list_any (joins_member whole other) (links_of items))
    (list_any_implies (joins one other) (joins_member whole other) (joins_a_member whole one other found) (links_of items) linked)

rounds_within : (items : List Item) (test : ℕ → Bool) → IsClosedUnderLinks items test → (rounds : ℕ) (members : List ℕ) → IsCrew members
    → ((who : ℕ) → has_member who members ≡ true → test who ≡ true)
    → (who : ℕ) → has_member who (after_rounds rounds (links_of items) members) ≡ true → test who ≡ true
rounds_within items test closed zero members crew within who found = within who found
rounds_within items test closed (suc rounds) members crew within who found =
    let links = links_of items in
    let next = λ (one : ℕ). has_member one members || list_any (joins_member members one) links in
    rounds_within items test closed rounds (with_linked links members) (IsCrew_crew_of next)
    (λ one in_next.
    let is_one : IsClient one = client_from_member (with_linked links members) one (IsCrew_crew_of next) in_next in
    let passes : next one ≡ true = sym (has_member_crew_of next one is_one) ∙ in_next in
    ⊎_elim
    (λ old. within one old)
    (λ new. let other = other_of links members one new in
    closed other.0 one (client_from_member members other.0 crew other.2) is_one other.1 (within other.0 other.2))
    (or_cases (has_member one members) (list_any (joins_member members one) links) passes))
    who found

-- who is alone with a client is the client
pub alone_is : (client who : ℕ) → has_member who (alone client) ≡ true → IsClient who × (who ≡ client)
alone_is client who found =
    let is : IsClient who = client_from_member (alone client) who (IsCrew_crew_of (λ one. one == client)) found in
    (is, eqb-true who client (sym (has_member_crew_of (λ one. one == client) who is) ∙ found))

pub association_within : (items : List Item) (client : ℕ) (test : ℕ → Bool) → IsClosedUnderLinks items test
    → (IsClient client → test client ≡ true) → (who : ℕ) → has_member who (association_of items client) ≡ true → test who ≡ true
association_within items client test closed passes who found =
    rounds_within items test closed 32 (alone client) (IsCrew_crew_of (λ one. one == client))
    (λ one in_alone. let is = alone_is client one in_alone in
    ap test is.1 ∙ passes (subst IsClient is.1 is.0))
    who (sym (ap (has_member who) (association_counted items client 32 refl)) ∙ found)

pub association_is_least : AssociationIsLeast
association_is_least items client test closed passes = association_within items client test closed (λ _. passes)

-- an association that has a member is of a client
pub client_of_association : (items : List Item) (client who : ℕ) → has_member who (association_of items client) ≡ true → IsClient client
client_of_association items client who found =
    let tested : (leb 1 client && leb client 32) ≡ true =
    association_within items client (λ _. leb 1 client && leb client 32) (λ one other _ _ _ holds. holds)
    (λ is. and_from (leb 1 client) (leb client 32) (le-leb 1 client is.0) (le-leb client 32 is.1)) who found in
    let parts = and_parts (leb 1 client) (leb client 32) tested in
    (leb-true 1 client parts.0, leb-true client 32 parts.1)

pub member_is_client : (items : List Item) (client who : ℕ) → has_member who (association_of items client) ≡ true → IsClient who
member_is_client items client who found = client_from_member (association_of items client) who (association_is_a_crew items client) found

pub linked_back : (items : List Item) (one other : ℕ) → AreLinked items one other → AreLinked items other one
linked_back items one other linked =
    list_any_implies (joins one other) (joins other one)
    (λ link joined. ⊎_elim
    (λ first. or_right ((link.writer == other) && (link.user == one)) ((link.writer == one) && (link.user == other)) first)
    (λ second. or_left ((link.writer == other) && (link.user == one)) ((link.writer == one) && (link.user == other)) second)
    (or_cases ((link.writer == one) && (link.user == other)) ((link.writer == other) && (link.user == one)) joined))
    (links_of items) linked

pub association_goes_both_ways : AssociationGoesBothWays
association_goes_both_ways items client member found =
    let is : IsClient client = client_of_association items client member found in
    let is_member : IsClient member = member_is_client items client member found in
    let theirs = association_of items member in
    let outside = λ (who : ℕ). not (has_member who theirs) in
    let closed : IsClosedUnderLinks items outside = λ one other is_one is_other linked out.
    ⊎_elim
    (λ inside. absurd (true≢false
    (sym (association_closed items member is_member other one is_other is_one (linked_back items one other linked) inside) ∙ not-true (has_member one theirs) out)))
    (λ out'. ap not out')
    (cases_Bool (has_member other theirs)) in
    ⊎_elim (λ inside. inside)
    (λ out. absurd (true≢false
    (sym (association_holds_its_client items member is_member)
    ∙ not-true (has_member member theirs) (association_is_least items client outside closed (ap not out) member found))))
    (cases_Bool (has_member client theirs))

pub association_of_a_member : AssociationOfAMember
association_of_a_member items client member found =
    let is : IsClient client = client_of_association items client member found in
    let is_member : IsClient member = member_is_client items client member found in
    same_crew (association_of items member) (association_of items client) (association_is_a_crew items member) (association_is_a_crew items client)
    (λ who _. same_bool (has_member who (association_of items member)) (has_member who (association_of items client))
    (λ inside. association_is_least items member (λ one. has_member one (association_of items client)) (association_closed items client is) found who inside)
    (λ inside. association_is_least items client (λ one. has_member one (association_of items member)) (association_closed items member is_member)
    (association_goes_both_ways items client member found) who inside))
  where
    same_bool : (a b : Bool) → (a ≡ true → b ≡ true) → (b ≡ true → a ≡ true) → a ≡ b
    same_bool true b to from = sym (to refl)
    same_bool false true to from = absurd (true≢false (sym (from refl)))
    same_bool false false to from = refl

pub association_of_linked : AssociationOfLinked
association_of_linked items one other is_one is_other linked =
    association_of_a_member items other one
    (association_closed items other is_other other one is_other is_one (linked_back items one other linked) (association_holds_its_client items other is_other))

pub association_goes_on : AssociationGoesOn
association_goes_on items client member third found next =
    subst (λ members. has_member third members ≡ true) (association_of_a_member items client member found) next
