use Rattle.std.proofs.Common.{◌≡◌, ◌<◌, ◌≤◌, ◌+◌, ℕ, zero, suc, add-one, arith, Bool, true, false, cond, ◌&&◌, ◌||◌, ◌==◌, List, [], ◌∷◌, ◌++◌, Option, None, ap, sym, subst, ◌∙◌, refl}
use Rattle.std.specs.List.{list_any, range_with_len}
use Rattle.std.proofs.lemmas.Bool.{or_left, or_right, eqb-true, eqb-false, true≢false}
use Rattle.std.proofs.lemmas.List.Folds.{list_any-append}
use Rattle.casper_words.specs.Crew.{IsClient, has_member}
use Rattle.casper_audit.specs.declared.words.Place.{Place}
use Rattle.casper_audit.specs.declared.words.Values.{Values}
use Rattle.casper_audit.specs.declared.ledger.Ledger.{Ledger}
use Rattle.casper_audit.specs.Words.{same_place, values_in}
use Rattle.casper_audit.specs.Opened.{places_in, is_among}
use Rattle.casper_audit.specs.Keeps.{writer_in}
use Rattle.casper_audit.specs.Settled.{settled, Settles, Empties, on_page, is_theirs, has_theirs}

or_none : (b : Bool) → (b || false) ≡ b
or_none true = refl
or_none false = refl

twice : (committed : Bool) (v : Values) → settled committed (settled committed v) ≡ settled committed v
twice true v = refl
twice false v = refl

both_values : (committed one other : Bool) (v m z : Values) → m ≡ cond one (settled committed v) v → z ≡ cond other (settled committed m) m → z ≡ cond (one || other) (settled committed v) v
both_values committed true true v m z is is' = is' ∙ ap (settled committed) is ∙ twice committed v
both_values committed true false v m z is is' = is' ∙ is
both_values committed false true v m z is is' = is' ∙ ap (settled committed) is
both_values committed false false v m z is is' = is' ∙ is

both_writers : (one other : Bool) (v m z : Option ℕ) → m ≡ cond one None v → z ≡ cond other None m → z ≡ cond (one || other) None v
both_writers true true v m z is is' = is'
both_writers true false v m z is is' = is' ∙ is
both_writers false true v m z is is' = is'
both_writers false false v m z is is' = is' ∙ is

-- nothing was settled
pub settles_none : (committed : Bool) (before after : Ledger) → after ≡ before → Settles committed (λ _. false) (λ _. false) before after
settles_none committed before after same = record {
  values = λ place. ap (λ ledger. values_in ledger.words place) same;
  writers = λ page. ap (λ ledger. writer_in ledger page) same;
  groups = ap (λ ledger. ledger.groups) same;
}

-- one after another
pub settles_both : (committed : Bool) {one other words : Place → Bool} {one_page other_page pages : ℕ → Bool} {before between after : Ledger}
    → Settles committed one one_page before between → Settles committed other other_page between after
    → ((place : Place) → words place ≡ (one place || other place)) → ((page : ℕ) → pages page ≡ (one_page page || other_page page))
    → Settles committed words pages before after
settles_both committed {one} {other} {words} {one_page} {other_page} {pages} {before} {between} {after} first second same same' = record {
  values = λ place. both_values committed (one place) (other place) (values_in before.words place) (values_in between.words place) (values_in after.words place) (first.values place) (second.values place)
      ∙ ap (λ (b : Bool). cond b (settled committed (values_in before.words place)) (values_in before.words place)) (sym (same place));
  writers = λ page. both_writers (one_page page) (other_page page) (writer_in before page) (writer_in between page) (writer_in after page) (first.writers page) (second.writers page)
      ∙ ap (λ (b : Bool). cond b None (writer_in before page)) (sym (same' page));
  groups = second.groups ∙ first.groups;
}

-- by other tests that answer alike
pub settles_as : (committed : Bool) {one words : Place → Bool} {one_page pages : ℕ → Bool} {before after : Ledger}
    → Settles committed one one_page before after
    → ((place : Place) → words place ≡ one place) → ((page : ℕ) → pages page ≡ one_page page)
    → Settles committed words pages before after
settles_as committed {one} {words} {one_page} {pages} {before} {after} first same same' = record {
  values = λ place. first.values place ∙ ap (λ (b : Bool). cond b (settled committed (values_in before.words place)) (values_in before.words place)) (sym (same place));
  writers = λ page. first.writers page ∙ ap (λ (b : Bool). cond b None (writer_in before page)) (sym (same' page));
  groups = first.groups;
}

pub among_last : (places : List Place) (last other : Place) → is_among (places ++ last ∷ []) other ≡ (is_among places other || same_place last other)
among_last places last other = list_any-append (λ (one : Place). same_place one other) places (last ∷ []) ∙ ap (λ (b : Bool). is_among places other || b) (or_none (same_place last other))

pub page_last : (places : List Place) (last : Place) (page : ℕ) → list_any (on_page page) (places ++ last ∷ []) ≡ (list_any (on_page page) places || on_page page last)
page_last places last page = list_any-append (on_page page) places (last ∷ []) ∙ ap (λ (b : Bool). list_any (on_page page) places || b) (or_none (on_page page last))

-- the words of the first places were settled
pub record SettledUpTo (committed : Bool) (places : List Place) (before now : Ledger) : Type 0 where
  pub settles : Settles committed (is_among places) (λ page. list_any (on_page page) places) before now
  pub opened : now.opened ≡ before.opened

pub settled_more : (committed : Bool) (places more : List Place) (last : Place) (before between after : Ledger) → more ≡ places ++ last ∷ []
    → SettledUpTo committed places before between → Settles committed (same_place last) (λ page. on_page page last) between after → after.opened ≡ between.opened
    → SettledUpTo committed more before after
settled_more committed places more last before between after is first second same = subst (λ (list : List Place). SettledUpTo committed list before after) (sym is) (record {
  settles = settles_both committed first.settles second (λ place. among_last places last place) (λ page. page_last places last page);
  opened = same ∙ first.opened;
})

-- one number more
pub range_more : (first count : ℕ) → range_with_len first (count + 1) ≡ range_with_len first count ++ (first + count) ∷ []
range_more first zero = let e : first ≡ first + 0 = omega arith in ap (λ (n : ℕ). n ∷ []) e
range_more first (suc count) =
    let e : first + 1 + count ≡ first + suc count = omega arith in
    let more : range_with_len first (suc count + 1) ≡ first ∷ range_with_len (first + 1) (count + 1) =
    ap (range_with_len first) (add-one (suc count)) ∙ ap (λ (n : ℕ). first ∷ range_with_len (first + 1) n) (sym (add-one count)) in
    more ∙ ap (λ (rest : List ℕ). first ∷ rest) (range_more (first + 1) count ∙ ap (λ (n : ℕ). range_with_len (first + 1) count ++ n ∷ []) e)

any_more : (test : ℕ → Bool) (count : ℕ) → list_any test (range_with_len 1 (count + 1)) ≡ (list_any test (range_with_len 1 count) || test (count + 1))
any_more test count =
    ap (list_any test) (range_more 1 count) ∙ list_any-append test (range_with_len 1 count) ((1 + count) ∷ [])
    ∙ ap (λ (b : Bool). list_any test (range_with_len 1 count) || b) (or_none (test (1 + count)) ∙ ap test (let e : 1 + count ≡ count + 1 = omega arith in e))

-- some number in a range passes
pub any_from : (test : ℕ → Bool) (first count : ℕ) → list_any test (range_with_len first count) ≡ true → (who : ℕ) × (first ≤ who) × (who < first + count) × (test who ≡ true)
any_from test first zero found = absurd (true≢false (sym found))
any_from test first (suc count) found = by_first (test first) refl (any_from test (first + 1) count)
  where
    by_first : (b : Bool) → test first ≡ b → (list_any test (range_with_len (first + 1) count) ≡ true → (who : ℕ) × (first + 1 ≤ who) × (who < first + 1 + count) × (test who ≡ true))
        → (who : ℕ) × (first ≤ who) × (who < first + suc count) × (test who ≡ true)
    by_first true e later = (first, omega arith, omega arith, e)
    by_first false e later = let rest = later (sym (ap (λ (b : Bool). b || list_any test (range_with_len (first + 1) count)) e) ∙ found) in (rest.0, omega (arith, rest.1), omega (arith, rest.2), rest.3)

pub any_of : (test : ℕ → Bool) (first count who : ℕ) → first ≤ who → who < first + count → test who ≡ true → list_any test (range_with_len first count) ≡ true
any_of test first zero who least most passes = absurd (omega (arith, least, most))
any_of test first (suc count) who least most passes = by_first (first == who) refl (any_of test (first + 1) count who)
  where
    by_first : (b : Bool) → (first == who) ≡ b → (first + 1 ≤ who → who < first + 1 + count → test who ≡ true → list_any test (range_with_len (first + 1) count) ≡ true)
        → list_any test (range_with_len first (suc count)) ≡ true
    by_first true e later = or_left (test first) (list_any test (range_with_len (first + 1) count)) (ap test (eqb-true first who e) ∙ passes)
    by_first false e later = let other = eqb-false first who e in
        or_right (test first) (list_any test (range_with_len (first + 1) count)) (later (omega (arith, other, least)) (omega (arith, most)) passes)

-- the words of the members up to a number were settled, and these clients have no place left
pub record MembersUpTo (committed : Bool) (members : List ℕ) (count : ℕ) (before now : Ledger) : Type 0 where
  pub settles : Settles committed (is_theirs before members count) (has_theirs before members count) before now
  pub empties : (who : ℕ) → IsClient who → who ≤ count → places_in now.opened who ≡ cond (has_member who members) [] (places_in before.opened who)
  pub keeps : (who : ℕ) → IsClient who → count < who → places_in now.opened who ≡ places_in before.opened who

pub members_first : (committed : Bool) (members : List ℕ) (before : Ledger) → MembersUpTo committed members 0 before before
unfolding is_theirs has_theirs
members_first committed members before = record {
  settles = settles_none committed before before refl;
  empties = λ who is below. absurd (omega (arith, is.0));
  keeps = λ who is above. refl;
}

theirs_more : (ledger : Ledger) (members : List ℕ) (count : ℕ) (place : Place)
    → is_theirs ledger members (count + 1) place ≡ (is_theirs ledger members count place || (has_member (count + 1) members && is_among (places_in ledger.opened (count + 1)) place))
unfolding is_theirs
theirs_more ledger members count place = any_more (λ who. has_member who members && is_among (places_in ledger.opened who) place) count

pages_more : (ledger : Ledger) (members : List ℕ) (count page : ℕ)
    → has_theirs ledger members (count + 1) page ≡ (has_theirs ledger members count page || (has_member (count + 1) members && list_any (on_page page) (places_in ledger.opened (count + 1))))
unfolding has_theirs
pages_more ledger members count page = any_more (λ who. has_member who members && list_any (on_page page) (places_in ledger.opened who)) count

pub members_more : (committed : Bool) (members : List ℕ) (count who : ℕ) (before between after : Ledger) → count < 32 → who ≡ count + 1 → MembersUpTo committed members count before between
    → Settles committed (λ place. has_member who members && is_among (places_in between.opened who) place) (λ page. has_member who members && list_any (on_page page) (places_in between.opened who)) between after
    → Empties (λ client. has_member who members && (client == who)) between after
    → MembersUpTo committed members (count + 1) before after
members_more committed members count who before between after few is first settles empties =
    by_next (subst (λ (n : ℕ). Settles committed (λ place. has_member n members && is_among (places_in between.opened n) place) (λ page. has_member n members && list_any (on_page page) (places_in between.opened n)) between after) is settles)
    (subst (λ (n : ℕ). Empties (λ client. has_member n members && (client == n)) between after) is empties)
  where
    next_is : IsClient (count + 1)
    next_is = (omega arith, omega arith)

    own : places_in between.opened (count + 1) ≡ places_in before.opened (count + 1)
    own = first.keeps (count + 1) next_is (omega arith)

    by_next : Settles committed (λ place. has_member (count + 1) members && is_among (places_in between.opened (count + 1)) place) (λ page. has_member (count + 1) members && list_any (on_page page) (places_in between.opened (count + 1))) between after
        → Empties (λ client. has_member (count + 1) members && (client == count + 1)) between after → MembersUpTo committed members (count + 1) before after
    by_next second emptied = record {
      settles = settles_both committed first.settles second
          (λ place. theirs_more before members count place ∙ ap (λ places. is_theirs before members count place || (has_member (count + 1) members && is_among places place)) (sym own))
          (λ page. pages_more before members count page ∙ ap (λ places. has_theirs before members count page || (has_member (count + 1) members && list_any (on_page page) places)) (sym own));
      empties = λ client c below. emptied client c ∙ emptied_by client c below (client == count + 1) refl;
      keeps = λ client c above. emptied client c ∙ kept_by client c above (client == count + 1) refl;
    }
      where
        emptied_by : (client : ℕ) → IsClient client → client ≤ count + 1 → (b : Bool) → (client == count + 1) ≡ b
            → cond (has_member (count + 1) members && (client == count + 1)) [] (places_in between.opened client) ≡ cond (has_member client members) [] (places_in before.opened client)
        emptied_by client c below true e = let same : client ≡ count + 1 = eqb-true client (count + 1) e in
            ap (λ (b : Bool). cond (has_member (count + 1) members && b) [] (places_in between.opened client)) e
            ∙ ap (λ (n : ℕ). cond (has_member (count + 1) members && true) [] (places_in between.opened n)) same
            ∙ and_true (has_member (count + 1) members)
            ∙ ap (λ places. cond (has_member (count + 1) members) [] places) own
            ∙ ap (λ (n : ℕ). cond (has_member n members) [] (places_in before.opened n)) (sym same)
          where
            and_true : (b : Bool) → cond (b && true) [] (places_in between.opened (count + 1)) ≡ cond b [] (places_in between.opened (count + 1))
            and_true true = refl
            and_true false = refl
        emptied_by client c below false e = let other = eqb-false client (count + 1) e in
            ap (λ (b : Bool). cond (has_member (count + 1) members && b) [] (places_in between.opened client)) e
            ∙ and_false (has_member (count + 1) members)
            ∙ first.empties client c (omega (arith, other, below))
          where
            and_false : (b : Bool) → cond (b && false) [] (places_in between.opened client) ≡ places_in between.opened client
            and_false true = refl
            and_false false = refl

        kept_by : (client : ℕ) → IsClient client → count + 1 < client → (b : Bool) → (client == count + 1) ≡ b
            → cond (has_member (count + 1) members && (client == count + 1)) [] (places_in between.opened client) ≡ places_in before.opened client
        kept_by client c above true e = let same : client ≡ count + 1 = eqb-true client (count + 1) e in absurd (omega (arith, same, above))
        kept_by client c above false e =
            ap (λ (b : Bool). cond (has_member (count + 1) members && b) [] (places_in between.opened client)) e
            ∙ and_false (has_member (count + 1) members)
            ∙ first.keeps client c (omega arith)
          where
            and_false : (b : Bool) → cond (b && false) [] (places_in between.opened client) ≡ places_in between.opened client
            and_false true = refl
            and_false false = refl

-- the words of a list were settled from a ledger that has the same words, writers and groups
pub settles_from : (committed : Bool) (list list' : List Place) (before between after : Ledger) → list ≡ list' → between.words ≡ before.words → between.writers ≡ before.writers → between.groups ≡ before.groups
    → Settles committed (is_among list) (λ page. list_any (on_page page) list) between after
    → Settles committed (is_among list') (λ page. list_any (on_page page) list') before after
settles_from committed list list' before between after same words writers groups settles =
    subst (λ (places : List Place). Settles committed (is_among places) (λ page. list_any (on_page page) places) before after) same (record {
      values = λ place. settles.values place ∙ ap (λ kept. cond (is_among list place) (settled committed (values_in kept place)) (values_in kept place)) words;
      writers = λ page. settles.writers page ∙ ap (λ kept. cond (list_any (on_page page) list) None (writer_in (record before { writers = kept }) page)) writers;
      groups = settles.groups ∙ groups;
    })
