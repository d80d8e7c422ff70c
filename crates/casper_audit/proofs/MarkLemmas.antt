use Rattle.std.proofs.Common.{◌≡◌, ℕ, arith, Bool, true, false, cond, ◌&&◌, ◌==◌, List, [], ◌∷◌, ◌++◌, ap, sym, subst, ◌∙◌, refl, ⊎_elim, eq-eqb}
use Rattle.std.specs.List.{list_any}
use Rattle.std.proofs.lemmas.Bool.{or_cases, or_left, or_right, and_parts, true≢false}
use Rattle.casper_words.specs.Crew.{IsClient, has_member}
use Rattle.casper_trail.specs.declared.mark.Mark.{Mark}
use Rattle.casper_trail.specs.declared.item.Item.{Item}
use Rattle.casper_trail.specs.declared.item.Item.TheVariants as item
use Rattle.casper_trail.specs.Fate.{members_of}
use Rattle.casper_trail.specs.Association.{alone}
use Rattle.casper_trail.specs.Marks.{IsExactMark}
use Rattle.casper_audit.specs.declared.words.Place.{Place}
use Rattle.casper_audit.specs.declared.words.Values.{Values}
use Rattle.casper_audit.specs.declared.ledger.Ledger.{Ledger}
use Rattle.casper_audit.specs.Words.{values_in, live_in, stable_in}
use Rattle.casper_audit.specs.Groups.{group_in}
use Rattle.casper_audit.specs.Opened.{places_in, is_among, opened_in}
use Rattle.casper_audit.specs.Keeps.{IsLedger, writer_in}
use Rattle.casper_audit.specs.Settled.{commits, settled, Settles, Empties, on_page, is_theirs, has_theirs}
use Rattle.casper_audit.proofs.KeepsMark.{IsTheirs, keeps_mark}
use Rattle.casper_audit.proofs.SettleLemmas.{any_from, any_of}

-- some place on a page, and its word
on_some : (places : List Place) (page : ℕ) → list_any (on_page page) places ≡ true → (word : ℕ) × (is_among places (record { page = page; word = word }) ≡ true)
on_some [] page found = absurd (true≢false (sym found))
on_some (first ∷ places) page found = ⊎_elim
    (λ here. (
      first.word,
      or_left ((first.page == page) && (first.word == first.word)) (is_among places (record { page = page; word = first.word }))
          (ap (λ (b : Bool). b && (first.word == first.word)) here ∙ eq-eqb first.word first.word refl),
    ))
    (λ there. let rest = on_some places page there in
    (rest.0, or_right ((first.page == page) && (first.word == rest.0)) (is_among places (record { page = page; word = rest.0 })) rest.1))
    (or_cases (first.page == page) (list_any (on_page page) places) found)

on_its_page : (places : List Place) (page word : ℕ) → is_among places (record { page = page; word = word }) ≡ true → list_any (on_page page) places ≡ true
on_its_page [] page word found = absurd (true≢false (sym found))
on_its_page (first ∷ places) page word found = ⊎_elim
    (λ here. or_left (first.page == page) (list_any (on_page page) places) (and_parts (first.page == page) (first.word == word) here).0)
    (λ there. or_right (first.page == page) (list_any (on_page page) places) (on_its_page places page word there))
    (or_cases ((first.page == page) && (first.word == word)) (is_among places (record { page = page; word = word })) found)

-- the words and pages of members
theirs_are : (ledger : Ledger) (members : List ℕ) (count : ℕ) → count ≡ 32
    → IsTheirs members (opened_in ledger.opened) (λ page word. is_theirs ledger members count (record { page = page; word = word })) (has_theirs ledger members count)
unfolding is_theirs has_theirs
theirs_are ledger members count all = record {
  words_from = λ page word found.
      let some = any_from (λ who. has_member who members && is_among (places_in ledger.opened who) (record { page = page; word = word })) 1 count found in
      let parts = and_parts (has_member some.0 members) (is_among (places_in ledger.opened some.0) (record { page = page; word = word })) some.3 in
      (some.0, (some.1, omega (arith, some.2)), parts.0, parts.1);
  words_have = λ who page word is named opens.
      any_of (λ one. has_member one members && is_among (places_in ledger.opened one) (record { page = page; word = word })) 1 count who is.0 (omega (arith, is.1))
      (ap (λ (b : Bool). b && is_among (places_in ledger.opened who) (record { page = page; word = word })) named ∙ opens);
  pages_from = λ page found.
      let some = any_from (λ who. has_member who members && list_any (on_page page) (places_in ledger.opened who)) 1 count found in
      let parts = and_parts (has_member some.0 members) (list_any (on_page page) (places_in ledger.opened some.0)) some.3 in
      let word = on_some (places_in ledger.opened some.0) page parts.1 in
      (some.0, word.0, (some.1, omega (arith, some.2)), parts.0, word.1);
  pages_have = λ who page word is named opens.
      any_of (λ one. has_member one members && list_any (on_page page) (places_in ledger.opened one)) 1 count who is.0 (omega (arith, is.1))
      (ap (λ (b : Bool). b && list_any (on_page page) (places_in ledger.opened who)) named ∙ on_its_page (places_in ledger.opened who) page word opens);
}

live_of : (theirs committed : Bool) (v : Values) → (cond theirs (settled committed v) v).live ≡ cond theirs (cond committed v.live v.stable) v.live
live_of true committed v = refl
live_of false committed v = refl

stable_of : (theirs committed : Bool) (v : Values) → (cond theirs (settled committed v) v).stable ≡ cond theirs (cond committed v.live v.stable) v.stable
stable_of true committed v = refl
stable_of false committed v = refl

among_cond : (b : Bool) (places : List Place) (place : Place) → is_among (cond b [] places) place ≡ cond b false (is_among places place)
among_cond true places place = refl
among_cond false places place = refl

-- what is kept after a mark that was carried out
pub ledger_settled : (base : List (List ℕ)) (items : List Item) (mark : Mark) (before between after : Ledger) → IsExactMark items mark
    → Settles (commits mark) (is_theirs before (members_of mark) 32) (has_theirs before (members_of mark) 32) before between
    → Empties (λ who. has_member who (members_of mark)) before between
    → ((client : ℕ) → IsClient client → group_in after.groups client ≡ cond (has_member client (members_of mark)) (alone client) (group_in between.groups client))
    → after.words ≡ between.words → after.writers ≡ between.writers → after.opened ≡ between.opened
    → IsLedger base items before → IsLedger base (items ++ item.Mark mark ∷ []) after
ledger_settled base items mark before between after exact settles empties parts words writers opened keeps =
    keeps_mark keeps mark exact (theirs_are before (members_of mark) 32 refl)
    (λ page word. ap (λ own. live_in own page word) words ∙ ap (λ (v : Values). v.live) (settles.values (record { page = page; word = word }))
    ∙ live_of (is_theirs before (members_of mark) 32 (record { page = page; word = word })) (commits mark) (values_in before.words (record { page = page; word = word })))
    (λ page word. ap (λ own. stable_in own page word) words ∙ ap (λ (v : Values). v.stable) (settles.values (record { page = page; word = word }))
    ∙ stable_of (is_theirs before (members_of mark) 32 (record { page = page; word = word })) (commits mark) (values_in before.words (record { page = page; word = word })))
    (λ page. ap (λ own. writer_in (record between { writers = own }) page) writers ∙ settles.writers page)
    (λ client page word is. ap (λ own. opened_in own client page word) opened
    ∙ ap (λ places. is_among places (record { page = page; word = word })) (empties client is)
    ∙ among_cond (has_member client (members_of mark)) (places_in before.opened client) (record { page = page; word = word }))
    (λ client is. parts client is ∙ ap (λ own. cond (has_member client (members_of mark)) (alone client) (group_in own client)) settles.groups)

-- the same by the members and the kind as they were read off the mark
pub ledger_settled_by : (base : List (List ℕ)) (items : List Item) (mark : Mark) (members : List ℕ) (committed : Bool) (before between after : Ledger)
    → members ≡ members_of mark → committed ≡ commits mark → IsExactMark items mark
    → Settles committed (is_theirs before members 32) (has_theirs before members 32) before between
    → Empties (λ who. has_member who members) before between
    → ((client : ℕ) → IsClient client → group_in after.groups client ≡ cond (has_member client members) (alone client) (group_in between.groups client))
    → after.words ≡ between.words → after.writers ≡ between.writers → after.opened ≡ between.opened
    → IsLedger base items before → IsLedger base (items ++ item.Mark mark ∷ []) after
ledger_settled_by base items mark members committed before between after same same' exact settles empties parts words writers opened keeps =
    ledger_settled base items mark before between after exact
    (subst (λ (b : Bool). Settles b (is_theirs before (members_of mark) 32) (has_theirs before (members_of mark) 32) before between) same'
    (subst (λ (list : List ℕ). Settles committed (is_theirs before list 32) (has_theirs before list 32) before between) same settles))
    (subst (λ (list : List ℕ). Empties (λ who. has_member who list) before between) same empties)
    (subst (λ (list : List ℕ). (client : ℕ) → IsClient client → group_in after.groups client ≡ cond (has_member client list) (alone client) (group_in between.groups client)) same parts)
    words writers opened keeps
