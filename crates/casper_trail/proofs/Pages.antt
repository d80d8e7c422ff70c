use Rattle.std.proofs.Common.{◌≡◌, ⊎_elim, slice_index_or, length, suc, ◌<◌, ℕ, zero, List, [], ◌∷◌, ◌++◌, Bool, true, false, cond, ◌&&◌, ◌||◌, filter, Contains, refl, ap, sym, ◌∙◌, subst, append_assoc, append-nil, arith}
use Rattle.std.specs.List.{list_any}
use Rattle.std.proofs.lemmas.Bool.{cond_both, or_parts, or_cases, and_parts, true≢false}
use Rattle.casper_words.specs.Crew.{IsClient, has_member}
use Rattle.casper_trail.specs.declared.entry.Entry.{Entry}
use Rattle.casper_trail.specs.declared.mark.Mark.TheVariants.{Commit}
use Rattle.casper_trail.specs.declared.item.Item.{Item}
use Rattle.casper_trail.specs.declared.item.Item.TheVariants as item
use Rattle.casper_trail.specs.Value.{value_of, writes_page}
use Rattle.casper_trail.specs.Fate.{Fate, Stable, Dropped, Open, fate_of, fate_by, decided_first, is_live, is_open, is_stable}
use Rattle.casper_trail.specs.Parts.{entries_where, live_entries, stable_entries, open_entries, stable_or_open_of}
use Rattle.casper_trail.specs.Legal.{AreRightAfter}
use Rattle.casper_trail.specs.Association.{association_of}
use Rattle.casper_trail.specs.Image.{array_of}
use Rattle.casper_trail.specs.LegalLaws.{RightOfMore, RightBySameWrites}
use Rattle.casper_trail.specs.PageLaws.{UnmodifiedPage, PageOfOthers, PageOfAssociation, OpenWritersPass, SameWritesOfAPage, ValueAfterMark, ValueOfCleanPage, ValueOfModifiedPage, ImageOfOtherPage, StableAfterCommit, ImageAfterCommit}
use Rattle.casper_trail.proofs.Values.{value_by_its_page, array_has_values}
use Rattle.casper_trail.proofs.Parts.{part_by, part_of_more}
use Rattle.casper_trail.proofs.Rounds.{association_holds_its_client, association_of_a_member}
use Rattle.casper_trail.proofs.Links.{client_at, one_association_a_page}
use Rattle.casper_trail.proofs.LinkLists.{contains_there}
use Rattle.casper_trail.proofs.LiveLegal.{push_same, right_over}

-- of a list in which no element passes, none does
none_at : {X : Type 0} (test : X → Bool) (xs : List X) (x : X) (k : ℕ) → k < length xs → slice_index_or xs k x ≡ x → list_any test xs ≡ false → test x ≡ false
none_at test [] x k below is lacks = absurd (omega (arith, below))
none_at test (first ∷ xs) x zero below is lacks = ap test (sym is) ∙ (or_parts (test first) (list_any test xs) lacks).0
none_at test (first ∷ xs) x (suc k) below is lacks = none_at test xs x k (omega (arith, below)) is (or_parts (test first) (list_any test xs) lacks).1

-- of a list in which some element passes, one that does
pub some_passes : {X : Type 0} (test : X → Bool) (xs : List X) → list_any test xs ≡ true → (x : X) × Contains xs x × (test x ≡ true)
some_passes test [] found = absurd (true≢false (sym found))
some_passes test (x ∷ xs) found =
    ⊎_elim
    (λ here. (x, (zero, omega arith, refl), here))
    (λ there. let rest = some_passes test xs there in (rest.0, contains_there x xs rest.0 rest.1, rest.2))
    (or_cases (test x) (list_any test xs) found)

pub unmodified_page : UnmodifiedPage
unmodified_page items page clean write inside writes =
    true≢false (sym writes ∙ none_at (writes_page page) (open_entries items) write inside.0 inside.1 inside.2 clean)

pub page_of_others : PageOfOthers
page_of_others members items page others write inside writes =
    sym (ap (λ b. b && has_member write.who members) writes)
    ∙ none_at (λ (entry : Entry). writes_page page entry && has_member entry.who members) (open_entries items) write inside.0 inside.1 inside.2 others

pub page_of_association : PageOfAssociation
page_of_association items client page clients modified write inside writes =
    let some = some_passes (λ (entry : Entry). writes_page page entry && has_member entry.who (association_of items client)) (open_entries items) modified in
    let parts = and_parts (writes_page page some.0) (has_member some.0.who (association_of items client)) some.2 in
    let writer : IsClient write.who = client_at items write inside.0 clients inside.1 inside.2 in
    ap (has_member write.who) (sym (association_of_a_member items client some.0.who parts.1))
    ∙ ap (has_member write.who) (sym (one_association_a_page items page write some.0 clients inside some.1 writes parts.0))
    ∙ association_holds_its_client items write.who writer

-- the writers of the open entries after an item pass too
passes_after : (entry : Entry) (items : List Item) (page : ℕ) (P : ℕ → Type 0) → OpenWritersPass (item.Entry entry ∷ items) page P → OpenWritersPass items page P
passes_after entry items page P pass write inside =
    pass write (cond_both (is_open (fate_of entry.who items)) (entry ∷ open_entries items) (open_entries items) (λ entries. Contains entries write)
    (λ _. contains_there entry (open_entries items) write inside) (λ _. inside))

-- the writer of an open entry at the front passes
passes_front : (entry : Entry) (items : List Item) (page : ℕ) (P : ℕ → Type 0) → OpenWritersPass (item.Entry entry ∷ items) page P
    → fate_of entry.who items ≡ Open → writes_page page entry ≡ true → P entry.who
passes_front entry items page P pass is =
    pass entry (subst (λ (fate : Fate). Contains (cond (is_open fate) (entry ∷ open_entries items) (open_entries items)) entry) (sym is) (zero, omega arith, refl))

pub same_writes_of_a_page : SameWritesOfAPage
same_writes_of_a_page one other [] page stable dropped pass = refl
same_writes_of_a_page one other (item.Mark mark ∷ items) page stable dropped pass = same_writes_of_a_page one other items page stable dropped pass
same_writes_of_a_page one other (item.Entry entry ∷ items) page stable dropped pass =
    push_same (writes_page page) entry (one entry.who (fate_of entry.who items)) (other entry.who (fate_of entry.who items))
    (entries_where one items) (entries_where other items)
    (same_writes_of_a_page one other items page stable dropped (passes_after entry items page (λ who. one who Open ≡ other who Open) pass))
    (λ writes. by_fate (fate_of entry.who items) (λ is. passes_front entry items page (λ who. one who Open ≡ other who Open) pass is writes))
  where
    by_fate : (fate : Fate) → (fate ≡ Open → one entry.who Open ≡ other entry.who Open) → one entry.who fate ≡ other entry.who fate
    by_fate Stable opens = stable entry.who
    by_fate Dropped opens = dropped entry.who
    by_fate Open opens = opens refl

-- parts with the same writes of a page give its words the same values
pub same_values : (base : List (List ℕ)) (one other : List Entry) (page word : ℕ) → filter (writes_page page) one ≡ filter (writes_page page) other
    → value_of base one page word ≡ value_of base other page word
same_values base one other page word same =
    value_by_its_page base one page word ∙ ap (λ entries. value_of base entries page word) same ∙ sym (value_by_its_page base other page word)

pub value_after_mark : ValueAfterMark
value_after_mark base items mark page word pass =
    ap (λ entries. value_of base entries page word)
    (part_of_more (λ who fate. is_live fate) items (item.Mark mark ∷ []) ∙ append-nil (entries_where (λ who fate. is_live (decided_first fate (fate_of who (item.Mark mark ∷ [])))) items))
    ∙ same_values base (entries_where (λ who fate. is_live (decided_first fate (fate_of who (item.Mark mark ∷ [])))) items) (live_entries items) page word
    (same_writes_of_a_page (λ who fate. is_live (decided_first fate (fate_of who (item.Mark mark ∷ [])))) (λ who fate. is_live fate) items page
    (λ who. refl) (λ who. refl)
    (λ write inside writes. ap (λ named. is_live (cond named (fate_by mark) Open)) (pass write inside writes)))

pub value_of_clean_page : ValueOfCleanPage
value_of_clean_page pages base items page word shape below inside clean =
    array_has_values pages base (stable_entries items) page word shape below inside
    ∙ same_values base (stable_entries items) (live_entries items) page word
    (same_writes_of_a_page (λ who fate. is_stable fate) (λ who fate. is_live fate) items page (λ who. refl) (λ who. refl)
    (λ write inside writes. absurd (clean write inside writes)))

pub value_of_modified_page : ValueOfModifiedPage
value_of_modified_page pages base items client page word shape below inside pass =
    let members = association_of items client in
    array_has_values pages base (stable_or_open_of members items) page word shape below inside
    ∙ same_values base (stable_or_open_of members items) (live_entries items) page word
    (same_writes_of_a_page (λ who fate. is_stable fate || (is_open fate && has_member who members)) (λ who fate. is_live fate) items page
    (λ who. refl) (λ who. refl) pass)

pub image_of_other_page : ImageOfOtherPage
image_of_other_page pages base items client page word shape below inside pass =
    let members = association_of items client in
    array_has_values pages base (stable_or_open_of members items) page word shape below inside
    ∙ same_values base (stable_or_open_of members items) (stable_entries items) page word
    (same_writes_of_a_page (λ who fate. is_stable fate || (is_open fate && has_member who members)) (λ who fate. is_stable fate) items page
    (λ who. refl) (λ who. refl) pass)
    ∙ sym (array_has_values pages base (stable_entries items) page word shape below inside)

stable_by_commit : (members : List ℕ) (who : ℕ) (fate : Fate)
    → is_stable (decided_first fate (cond (has_member who members) Stable Open)) ≡ (is_stable fate || (is_open fate && has_member who members))
stable_by_commit members who Stable = refl
stable_by_commit members who Dropped = refl
stable_by_commit members who Open =
    elim (has_member who members) as (λ named. is_stable (cond named Stable Open) ≡ named) [ true ↦ refl | false ↦ refl ]

pub stable_after_commit : StableAfterCommit
stable_after_commit items lead members =
    part_of_more (λ who fate. is_stable fate) items (item.Mark (Commit lead members) ∷ [])
    ∙ append-nil (entries_where (λ who fate. is_stable (decided_first fate (fate_of who (item.Mark (Commit lead members) ∷ [])))) items)
    ∙ part_by (λ who fate. is_stable (decided_first fate (fate_of who (item.Mark (Commit lead members) ∷ []))))
    (λ who fate. is_stable fate || (is_open fate && has_member who members)) (stable_by_commit members) items

pub image_after_commit : ImageAfterCommit
image_after_commit base items lead = ap (array_of base) (stable_after_commit items lead (association_of items lead))

right_then : (base : List (List ℕ)) (before entries more : List Entry) → AreRightAfter base before (entries ++ more)
    → AreRightAfter base before entries × AreRightAfter base (before ++ entries) more
right_then base before [] more right = (tt, subst (λ start. AreRightAfter base start more) (sym (append-nil before)) right)
right_then base before (next ∷ entries) more right =
    let rest = right_then base (before ++ next ∷ []) entries more right.1 in
    ((right.0, rest.0), subst (λ start. AreRightAfter base start more) (append_assoc before (next ∷ []) entries) rest.1)

pub right_joined : (base : List (List ℕ)) (before entries more : List Entry) → AreRightAfter base before entries → AreRightAfter base (before ++ entries) more
    → AreRightAfter base before (entries ++ more)
right_joined base before [] more right right' = subst (λ start. AreRightAfter base start more) (append-nil before) right'
right_joined base before (next ∷ entries) more right right' = (
  right.0,
  right_joined base (before ++ next ∷ []) entries more right.1
      (subst (λ start. AreRightAfter base start more) (sym (append_assoc before (next ∷ []) entries)) right'),
)

pub right_of_more : RightOfMore
right_of_more base before entries more = (right_then base before entries more, λ both. right_joined base before entries more both.0 both.1)

pub filter_append : {X : Type 0} (test : X → Bool) (xs ys : List X) → filter test (xs ++ ys) ≡ filter test xs ++ filter test ys
filter_append test [] ys = refl
filter_append {X} test (x ∷ xs) ys =
    elim (test x) as (λ keep. cond keep (x ∷ filter test (xs ++ ys)) (filter test (xs ++ ys)) ≡ cond keep (x ∷ filter test xs) (filter test xs) ++ filter test ys)
    [ true ↦ ap (λ (rest : List X). x ∷ rest) (filter_append test xs ys) | false ↦ filter_append test xs ys ]

pub right_by_same_writes : RightBySameWrites
right_by_same_writes base one other [] same right = tt
right_by_same_writes base one other (next ∷ entries) same right = (
  right_over base one other next (same next (zero, omega arith, refl)) right.0,
  right_by_same_writes base (one ++ next ∷ []) (other ++ next ∷ []) entries
      (λ entry inside. filter_append (writes_page entry.page) one (next ∷ [])
      ∙ ap (λ front. front ++ filter (writes_page entry.page) (next ∷ [])) (same entry (contains_there next entries entry inside))
      ∙ sym (filter_append (writes_page entry.page) other (next ∷ [])))
      right.1,
)
