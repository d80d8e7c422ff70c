use Rattle.std.proofs.Common.{◌≡◌, ℕ, List, [], ◌∷◌, ◌++◌, Bool, true, false, cond, not, ◌&&◌, filter, refl, ap, ap₂, ◌∙◌, append-nil}
use Rattle.casper_trail.specs.declared.entry.Entry.{Entry}
use Rattle.casper_trail.specs.declared.mark.Mark.{Mark}
use Rattle.casper_trail.specs.declared.mark.Mark.TheVariants.{Commit, Rollback}
use Rattle.casper_trail.specs.declared.item.Item.{Item}
use Rattle.casper_trail.specs.declared.item.Item.TheVariants as item
use Rattle.casper_words.specs.Crew.{has_member}
use Rattle.casper_trail.specs.Fate.{Fate, Stable, Dropped, Open, fate_of, decided_first, members_of, fate_by, is_live, is_open, is_stable}
use Rattle.casper_trail.specs.Parts.{entries_where, live_entries, stable_entries, open_entries, as_items}
use Rattle.casper_trail.specs.PartLaws.{FateOfMore, FateOfMoreEntries, PartOfMore, LiveOfMoreEntries, OpenOfMoreEntries, StableOfMoreEntries, OpenAfterMark, LiveAfterCommit}

-- what a mark decides is decided
by_mark_first : (mark : Mark) (later : Fate) → fate_by mark ≡ decided_first (fate_by mark) later
by_mark_first (Commit lead members) later = refl
by_mark_first (Rollback lost members) later = refl

pub fate_of_more : FateOfMore
fate_of_more who [] more = refl
fate_of_more who (item.Entry entry ∷ items) more = fate_of_more who items more
fate_of_more who (item.Mark mark ∷ items) more =
    elim (has_member who (members_of mark)) as (λ named. cond named (fate_by mark) (fate_of who (items ++ more))
    ≡ decided_first (cond named (fate_by mark) (fate_of who items)) (fate_of who more))
    [ true ↦ by_mark_first mark (fate_of who more) | false ↦ fate_of_more who items more ]

-- entries alone leave a fate open
pub fate_of_entries : (who : ℕ) (entries : List Entry) → fate_of who (as_items entries) ≡ Open
fate_of_entries who [] = refl
fate_of_entries who (entry ∷ entries) = fate_of_entries who entries

pub decided_then_open : (fate : Fate) → decided_first fate Open ≡ fate
decided_then_open Stable = refl
decided_then_open Dropped = refl
decided_then_open Open = refl

pub fate_of_more_entries : FateOfMoreEntries
fate_of_more_entries who items more =
    fate_of_more who items (as_items more) ∙ ap (decided_first (fate_of who items)) (fate_of_entries who more) ∙ decided_then_open (fate_of who items)

-- a part by a test of the fates
pub part_by : (one other : ℕ → Fate → Bool) → ((who : ℕ) (fate : Fate) → one who fate ≡ other who fate)
    → (items : List Item) → entries_where one items ≡ entries_where other items
part_by one other same items = λ i. entries_where (λ who fate. same who fate i) items

pub part_of_more : PartOfMore
part_of_more test [] more = refl
part_of_more test (item.Entry entry ∷ items) more =
    ap₂ (λ (keep : Bool) (rest : List Entry). cond keep (entry ∷ rest) rest)
    (ap (test entry.who) (fate_of_more entry.who items more)) (part_of_more test items more)
    ∙ cond_push (test entry.who (decided_first (fate_of entry.who items) (fate_of entry.who more))) entry
    (entries_where (λ who fate. test who (decided_first fate (fate_of who more))) items) (entries_where test more)
  where
    cond_push : (keep : Bool) (entry : Entry) (front back : List Entry)
        → cond keep (entry ∷ (front ++ back)) (front ++ back) ≡ cond keep (entry ∷ front) front ++ back
    cond_push true entry front back = refl
    cond_push false entry front back = refl
part_of_more test (item.Mark mark ∷ items) more = part_of_more test items more

-- of entries alone the test sees open ones
pub part_of_entries : (test : ℕ → Fate → Bool) (entries : List Entry) → entries_where test (as_items entries) ≡ filter (λ entry. test entry.who Open) entries
part_of_entries test [] = refl
part_of_entries test (entry ∷ entries) =
    ap₂ (λ (fate : Fate) (rest : List Entry). cond (test entry.who fate) (entry ∷ rest) rest) (fate_of_entries entry.who entries) (part_of_entries test entries)

pub part_of_more_entries : (test : ℕ → Fate → Bool) (items : List Item) (more : List Entry)
    → entries_where test (items ++ as_items more) ≡ entries_where test items ++ filter (λ entry. test entry.who Open) more
part_of_more_entries test items more =
    part_of_more test items (as_items more)
    ∙ ap₂ (λ (front back : List Entry). front ++ back)
    (part_by (λ who fate. test who (decided_first fate (fate_of who (as_items more)))) test
    (λ who fate. ap (λ (later : Fate). test who (decided_first fate later)) (fate_of_entries who more) ∙ ap (test who) (decided_then_open fate)) items)
    (part_of_entries test more)

filter_all : {X : Type 0} (xs : List X) → filter (λ x. true) xs ≡ xs
filter_all [] = refl
filter_all (x ∷ xs) = ap (λ rest. x ∷ rest) (filter_all xs)

filter_none : {X : Type 0} (xs : List X) → filter (λ x. false) xs ≡ []
filter_none [] = refl
filter_none (x ∷ xs) = filter_none xs

pub live_of_more_entries : LiveOfMoreEntries
live_of_more_entries items more = part_of_more_entries (λ who fate. is_live fate) items more ∙ ap (λ back. live_entries items ++ back) (filter_all more)

pub open_of_more_entries : OpenOfMoreEntries
open_of_more_entries items more = part_of_more_entries (λ who fate. is_open fate) items more ∙ ap (λ back. open_entries items ++ back) (filter_all more)

pub stable_of_more_entries : StableOfMoreEntries
stable_of_more_entries items more =
    part_of_more_entries (λ who fate. is_stable fate) items more ∙ ap (λ back. stable_entries items ++ back) (filter_none more) ∙ append-nil (stable_entries items)

-- a mark drops no open entry from sight of others: the test of a part of open entries after a mark
after_mark : (mark : Mark) (who : ℕ) (fate : Fate)
    → is_open (decided_first fate (cond (has_member who (members_of mark)) (fate_by mark) Open)) ≡ (is_open fate && not (has_member who (members_of mark)))
after_mark mark who Stable = refl
after_mark mark who Dropped = refl
after_mark mark who Open =
    elim (has_member who (members_of mark)) as (λ named. is_open (cond named (fate_by mark) Open) ≡ not named)
    [ true ↦ decided mark | false ↦ refl ]
  where
    decided : (mark : Mark) → is_open (fate_by mark) ≡ false
    decided (Commit lead members) = refl
    decided (Rollback lost members) = refl

-- a part by a further test of the client is a filter of the part
pub part_by_client : (test : ℕ → Fate → Bool) (among : ℕ → Bool) (items : List Item)
    → entries_where (λ who fate. test who fate && among who) items ≡ filter (λ entry. among entry.who) (entries_where test items)
part_by_client test among [] = refl
part_by_client test among (item.Mark mark ∷ items) = part_by_client test among items
part_by_client test among (item.Entry entry ∷ items) =
    ap (λ (rest : List Entry). cond (test entry.who (fate_of entry.who items) && among entry.who) (entry ∷ rest) rest) (part_by_client test among items)
    ∙ pushed (test entry.who (fate_of entry.who items)) entry (entries_where test items)
  where
    pushed : (keep : Bool) (entry : Entry) (rest : List Entry)
        → cond (keep && among entry.who) (entry ∷ filter (λ e. among e.who) rest) (filter (λ e. among e.who) rest)
        ≡ filter (λ e. among e.who) (cond keep (entry ∷ rest) rest)
    pushed true entry rest = refl
    pushed false entry rest = refl

pub open_after_mark : OpenAfterMark
open_after_mark items mark =
    part_of_more (λ who fate. is_open fate) items (item.Mark mark ∷ []) ∙ append-nil (entries_where (λ who fate. is_open (decided_first fate (fate_of who (item.Mark mark ∷ [])))) items)
    ∙ part_by (λ who fate. is_open (decided_first fate (fate_of who (item.Mark mark ∷ []))))
    (λ who fate. is_open fate && not (has_member who (members_of mark))) (λ who fate. after_mark mark who fate) items
    ∙ part_by_client (λ who fate. is_open fate) (λ who. not (has_member who (members_of mark))) items

after_commit : (lead : ℕ) (members : List ℕ) (who : ℕ) (fate : Fate)
    → is_live (decided_first fate (cond (has_member who members) Stable Open)) ≡ is_live fate
after_commit lead members who Stable = refl
after_commit lead members who Dropped = refl
after_commit lead members who Open =
    elim (has_member who members) as (λ named. is_live (cond named Stable Open) ≡ true) [ true ↦ refl | false ↦ refl ]

pub live_after_commit : LiveAfterCommit
live_after_commit items lead members =
    part_of_more (λ who fate. is_live fate) items (item.Mark (Commit lead members) ∷ [])
    ∙ append-nil (entries_where (λ who fate. is_live (decided_first fate (fate_of who (item.Mark (Commit lead members) ∷ [])))) items)
    ∙ part_by (λ who fate. is_live (decided_first fate (fate_of who (item.Mark (Commit lead members) ∷ []))))
    (λ who fate. is_live fate) (after_commit lead members) items
