use Rattle.std.proofs.Common.{◌≡◌, ◌≢◌, ◌<◌, ◌≤◌, ◌+◌, ℕ, zero, suc, List, [], ◌∷◌, Bool, true, false, cond, ◌&&◌, nat_lt, length, length-set, get_or-set_same, get_or-set_other, refl, sym, ap, ap₂, ◌∙◌, subst, ⊎_elim, true≢false, arith}
use Rattle.std.specs.Prelude.{Option, None, Some, is_some, is_none, slice_set}
use Rattle.std.proofs.lemmas.List.Sums.{sum_by-cons}
use Rattle.std.proofs.lemmas.Bool.{cases_eq, lt-ltb}
use Rattle.casper_words.specs.Crew.{has_member}
use Rattle.casper_trail.specs.declared.item.Item.{Item}
use Rattle.casper_trail.specs.Association.{association_of}
use Rattle.casper_trail.proofs.Rounds.{member_is_client}
use Rattle.casper_hub.specs.HubView.{ClientView, FallenView, place_in, fall_of, felled, is_up, count_up}
use Rattle.casper_model.specs.Loss.{dropped_of}
use Rattle.casper_hub.specs.Felling.{is_among}
use Rattle.casper_hub.specs.RollingBack.{fall_behind}

-- Members of an association fall, one after another.

-- the next number adds one client
pub among_next : (members : List ℕ) (q number : ℕ) → q ≢ number → is_among (number + 1) members q ≡ is_among number members q
among_next members q number apart = ap (λ b. nat_lt 0 q && (b && has_member q members)) (grind (arith, apart))

pub among_here : (members : List ℕ) (number : ℕ) → 0 < number → has_member number members ≡ true → is_among (number + 1) members number ≡ true
among_here members number least member = ap₂ (λ a b. a && (b && has_member number members)) (lt-ltb 0 number least) (lt-ltb number (number + 1) (omega arith)) ∙ member

among_not_yet : (members : List ℕ) (number : ℕ) → is_among number members number ≡ false
among_not_yet members number =
    let never_below : nat_lt number number ≡ false = grind arith in
    ap (λ b. nat_lt 0 number && (b && has_member number members)) never_below ∙ never (nat_lt 0 number)
  where
    never : (a : Bool) → (a && false) ≡ false
    never true = refl
    never false = refl

pub among_out : (number : ℕ) (members : List ℕ) (who : ℕ) → has_member who members ≡ false → is_among number members who ≡ false
among_out number members who out = ap (λ b. nat_lt 0 who && (nat_lt who number && b)) out ∙ never (nat_lt 0 who) (nat_lt who number)
  where
    never : (a b : Bool) → (a && (b && false)) ≡ false
    never true true = refl
    never true false = refl
    never false b = refl

-- no number is among those below the first
pub among_none : (members : List ℕ) (who : ℕ) → is_among 1 members who ≡ false
among_none members zero = refl
among_none members (suc who) =
    let never_below : nat_lt (suc who) 1 ≡ false = grind arith in
    ap (λ b. nat_lt 0 (suc who) && (b && has_member (suc who) members)) never_below ∙ never (nat_lt 0 (suc who))
  where
    never : (a : Bool) → (a && false) ≡ false
    never true = refl
    never false = refl

-- members of an association are clients, so all of them are below the last number
pub among_members : (items : List Item) (lost who : ℕ) (members : List ℕ) → members ≡ association_of items lost
    → is_among 33 members who ≡ has_member who (association_of items lost)
among_members items lost who members same = ap (λ all. is_among 33 all who) same ∙ by (has_member who (association_of items lost)) refl
  where
    by : (b : Bool) → has_member who (association_of items lost) ≡ b → is_among 33 (association_of items lost) who ≡ b
    by true is =
        let bounds = member_is_client items lost who is in
        ap₂ (λ a b. a && (b && has_member who (association_of items lost))) (lt-ltb 0 who (omega (arith, bounds.0))) (lt-ltb who 33 (omega (arith, bounds.1))) ∙ is
    by false is = among_out 33 (association_of items lost) who is

-- the places once those of the members with lesser numbers than this changed
abbrev pub ChangedBelow : ℕ → (ℕ → Option ClientView → Option ClientView) → List ℕ → List (Option ClientView) → List (Option ClientView) → Type 0
ChangedBelow number change members old now =
    (who : ℕ) → place_in now who ≡ cond (is_among number members who) (change who (place_in old who)) (place_in old who)

-- none changed yet
pub changed_none : (change : ℕ → Option ClientView → Option ClientView) (members : List ℕ) (places : List (Option ClientView)) → ChangedBelow 1 change members places places
changed_none change members places who = sym (ap (λ b. cond b (change who (place_in places who)) (place_in places who)) (among_none members who))

-- one more changes
pub changed_next : (change : ℕ → Option ClientView → Option ClientView) (members : List ℕ) (old now new : List (Option ClientView)) (number who : ℕ) → who ≡ number → 0 < number → number < length now
    → ChangedBelow number change members old now → has_member who members ≡ true → new ≡ slice_set now who (change who (place_in now who))
    → ChangedBelow (number + 1) change members old new
changed_next change members old now new number who same least below changed member is q = ⊎_elim here there (cases_eq q number)
  where
    here : q ≡ number → place_in new q ≡ cond (is_among (number + 1) members q) (change q (place_in old q)) (place_in old q)
    here at =
        let now_is : place_in now number ≡ place_in old number =
        changed number ∙ ap (λ b. cond b (change number (place_in old number)) (place_in old number)) (among_not_yet members number) in
        let new_is : new ≡ slice_set now number (change number (place_in now number)) = is ∙ ap (λ n. slice_set now n (change n (place_in now n))) same in
        subst (λ n. place_in new n ≡ cond (is_among (number + 1) members n) (change n (place_in old n)) (place_in old n)) (sym at)
        (ap (λ places. place_in places number) new_is
        ∙ get_or-set_same now number (change number (place_in now number)) None below
        ∙ ap (change number) now_is
        ∙ sym (ap (λ b. cond b (change number (place_in old number)) (place_in old number))
        (among_here members number least (ap (λ n. has_member n members) (sym same) ∙ member))))

    there : q ≢ number → place_in new q ≡ cond (is_among (number + 1) members q) (change q (place_in old q)) (place_in old q)
    there apart =
        ap (λ places. place_in places q) is
        ∙ get_or-set_other now who q (change who (place_in now who)) None (λ at. apart (at ∙ same))
        ∙ changed q ∙ ap (λ b. cond b (change q (place_in old q)) (place_in old q)) (sym (among_next members q number apart))

-- who is no member stays
pub stays_next : (change : ℕ → Option ClientView → Option ClientView) (members : List ℕ) (old now : List (Option ClientView)) (number who : ℕ) → who ≡ number
    → ChangedBelow number change members old now → has_member who members ≡ false → ChangedBelow (number + 1) change members old now
stays_next change members old now number who same changed out q =
    changed q ∙ ap (λ b. cond b (change q (place_in old q)) (place_in old q)) (⊎_elim here (λ apart. sym (among_next members q number apart)) (cases_eq q number))
  where
    here : q ≡ number → is_among number members q ≡ is_among (number + 1) members q
    here at =
        let none : has_member q members ≡ false = ap (λ n. has_member n members) (at ∙ sym same) ∙ out in
        among_out number members q none ∙ sym (among_out (number + 1) members q none)

-- Fewer clients are up where some fell and nobody rose.

counted : (place : Option ClientView) (places : List (Option ClientView)) → count_up (place ∷ places) ≡ cond (is_up place) 1 0 + count_up places
counted place places = sum_by-cons (λ one. cond (is_up one) 1 0) place places

-- one place of each
one_of_each : (was is : Bool) (before after : ℕ) → (is ≡ true → was ≡ true) → after ≤ before → cond is 1 0 + after ≤ cond was 1 0 + before
one_of_each true true before after falls rest = omega (arith, rest)
one_of_each true false before after falls rest = omega (arith, rest)
one_of_each false true before after falls rest = absurd (true≢false (sym (falls refl)))
one_of_each false false before after falls rest = omega (arith, rest)

-- no more are up
pub fewer_up : (before after : List (Option ClientView)) → length after ≡ length before → ((at : ℕ) → is_up (place_in after at) ≡ true → is_up (place_in before at) ≡ true)
    → count_up after ≤ count_up before
fewer_up [] [] long falls = omega arith
fewer_up [] (b ∷ after) long falls = absurd (omega (arith, long))
fewer_up (a ∷ before) [] long falls = absurd (omega (arith, long))
fewer_up (a ∷ before) (b ∷ after) long falls =
    let rest = one_of_each (is_up a) (is_up b) (count_up before) (count_up after) (falls 0) (fewer_up before after (omega (arith, long)) (λ at. falls (suc at))) in
    omega (arith, rest, counted a before, counted b after)

-- and one fewer where one was up and is not
pub one_fewer_up : (before after : List (Option ClientView)) (who : ℕ) → length after ≡ length before
    → ((at : ℕ) → is_up (place_in after at) ≡ true → is_up (place_in before at) ≡ true)
    → is_up (place_in before who) ≡ true → is_up (place_in after who) ≡ false → count_up after + 1 ≤ count_up before
one_fewer_up [] after who long falls was now = absurd (true≢false (sym was))
one_fewer_up (a ∷ before) [] who long falls was now = absurd (omega (arith, long))
one_fewer_up (a ∷ before) (b ∷ after) zero long falls was now =
    let rest = fewer_up before after (omega (arith, long)) (λ at. falls (suc at)) in
    omega (arith, rest, counted a before, counted b after, ap (λ b. cond {A = ℕ} b 1 0) was, ap (λ b. cond {A = ℕ} b 1 0) now)
one_fewer_up (a ∷ before) (b ∷ after) (suc who) long falls was now =
    let less = one_fewer_up before after who (omega (arith, long)) (λ at. falls (suc at)) was now in
    let rest = one_of_each (is_up a) (is_up b) (count_up before) (count_up after + 1) (falls 0) less in
    omega (arith, rest, counted a before, counted b after)

-- a client that is up is counted
pub some_up : (places : List (Option ClientView)) (who : ℕ) → is_up (place_in places who) ≡ true → 0 < count_up places
some_up [] who up = absurd (true≢false (sym up))
some_up (a ∷ places) zero up = omega (arith, counted a places, ap (λ b. cond {A = ℕ} b 1 0) up)
some_up (a ∷ places) (suc who) up = let rest = some_up places who up in omega (arith, rest, counted a places)

-- a live client that has not fallen is up
pub up_of : (place : Option ClientView) → is_some place ≡ true → fall_of place ≡ None → is_up place ≡ true
up_of None live up = absurd (true≢false (sym live))
up_of (Some client) live up = by client.fallen up
  where
    by : (fallen : Option FallenView) → fallen ≡ None → is_none fallen ≡ true
    by None is = refl
    by (Some fallen) is = cc

-- who falls is not up
pub not_up_felled : (fallen : FallenView) (place : Option ClientView) → is_up (felled fallen place) ≡ false
not_up_felled fallen None = refl
not_up_felled fallen (Some client) = refl

-- a client that was up before a fall of members was so
pub was_up : (member : Bool) (fallen : FallenView) (place : Option ClientView) → is_up (cond member (felled fallen place) place) ≡ true → is_up place ≡ true
was_up true fallen place up = absurd (true≢false (sym up ∙ not_up_felled fallen place))
was_up false fallen place up = up

-- what a fall leaves of a place, by the mark's place and the calls that it dropped
pub fell_so : (among member : Bool) (place : Option ClientView) (mark dropped : ℕ) (items : List Item) (who : ℕ) → among ≡ member → mark ≡ length items
    → (member ≡ true → dropped ≡ dropped_of items who)
    → cond among (felled (record { mark = mark; dropped = dropped }) place) place ≡ cond member (felled (fall_behind items who) place) place
fell_so among member place mark dropped items who same at counted =
    ap (λ b. cond b (felled (record { mark = mark; dropped = dropped }) place) place) same ∙ by member counted
  where
    by : (member : Bool) → (member ≡ true → dropped ≡ dropped_of items who)
        → cond member (felled (record { mark = mark; dropped = dropped }) place) place ≡ cond member (felled (fall_behind items who) place) place
    by false count = refl
    by true count = ap₂ (λ m d. felled (record { mark = m; dropped = d }) place) at (count refl)

-- no more are up without one
pub fewer_up_without : (places : List (Option ClientView)) (who : ℕ) → count_up (slice_set places who None) ≤ count_up places
fewer_up_without places who =
    fewer_up places (slice_set places who None) (length-set places who None)
    (λ at up. ⊎_elim
    (λ same. absurd (here at same (up)))
    (λ apart. sym (ap is_up (get_or-set_other places who at None None apart)) ∙ up)
    (cases_eq at who))
  where
    gone_at : (places : List (Option ClientView)) (at : ℕ) → place_in (slice_set places at None) at ≡ None
    gone_at [] at = refl
    gone_at (place ∷ places) zero = refl
    gone_at (place ∷ places) (suc at) = gone_at places at

    here : (at : ℕ) → at ≡ who → is_up (place_in (slice_set places who None) at) ≡ true → ⊥
    here at same up = true≢false (sym up ∙ ap is_up (ap (place_in (slice_set places who None)) same ∙ gone_at places who))
