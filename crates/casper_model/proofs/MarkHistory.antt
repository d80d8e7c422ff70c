use Rattle.std.proofs.Common.{◌≡◌, ◌⊎◌, ℕ, zero, List, [], ◌∷◌, ◌++◌, Bool, true, false, cond, not, filter, Contains, refl, sym, ap, ◌∙◌, subst, inl, inr, ⊎_elim, arith, append-nil}
use Rattle.std.proofs.lemmas.Bool.{cases_Bool, both_ways, not-true}
use Rattle.casper_words.specs.Crew.{has_member}
use Rattle.casper_words.specs.declared.page.Right.TheVariants as may
use Rattle.casper_trail.specs.declared.entry.Entry.{Entry}
use Rattle.casper_trail.specs.declared.mark.Mark.{Mark}
use Rattle.casper_trail.specs.declared.mark.Mark.TheVariants.{Commit, Rollback}
use Rattle.casper_trail.specs.declared.item.Item.{Item}
use Rattle.casper_trail.specs.declared.item.Item.TheVariants as item
use Rattle.casper_trail.specs.Value.{writes_page}
use Rattle.casper_trail.specs.Fate.{Open, fate_of, fate_by, is_live, decided_first, members_of}
use Rattle.casper_trail.specs.Parts.{open_entries, live_entries, entries_where}
use Rattle.casper_trail.specs.Calls.{entries_by}
use Rattle.casper_trail.specs.Legal.{AreRightAfter}
use Rattle.casper_trail.specs.Marks.{IsExactMark}
use Rattle.casper_trail.specs.Association.{association_of}
use Rattle.casper_trail.specs.GrowthLaws.{WritersAreWith}
use Rattle.casper_trail.specs.PageLaws.{OpenWritersPass}
use Rattle.casper_trail.proofs.LinkLists.{contains_there}
use Rattle.casper_trail.proofs.Parts.{part_of_more, open_after_mark, live_after_commit}
use Rattle.casper_trail.proofs.Pages.{same_writes_of_a_page, right_by_same_writes}
use Rattle.casper_trail.proofs.Growth.{members_together, others_after_mark}
use Rattle.casper_trail.proofs.Rounds.{association_of_a_member}
use Rattle.casper_model.specs.Held.{allows}
use Rattle.casper_model.specs.Own.{Own}
use Rattle.casper_model.specs.LegalHistory.{right_for, IsGoodNow}
use Rattle.casper_model.proofs.HeldRights.{covers_read, allows_covered}
use Rattle.casper_model.proofs.Entries.{contains_entry, contains_cases}

-- what a filter keeps
pub contains_kept : {X : Type 0} (test : X → Bool) (xs : List X) (x : X) → Contains (filter test xs) x → Contains xs x × (test x ≡ true)
contains_kept test [] x inside = absurd (omega (arith, inside.1))
contains_kept {X} test (first ∷ xs) x inside = step (test first) refl inside (contains_kept test xs x)
  where
    step : (kept : Bool) → test first ≡ kept → Contains (cond kept (first ∷ filter test xs) (filter test xs)) x
        → (Contains (filter test xs) x → Contains xs x × (test x ≡ true)) → Contains (first ∷ xs) x × (test x ≡ true)
    step true e there more =
        ⊎_elim (λ is. ((zero, omega arith, is), subst (λ one. test one ≡ true) is e))
        (λ later. let found = more later in (contains_there first xs x found.0, found.1)) (contains_cases first (filter test xs) x there)
    step false e there more = let found = more there in (contains_there first xs x found.0, found.1)

-- a rollback leaves the live writes of a page that no member has an open write on
writes_after_mark : (items : List Item) (mark : Mark) (page : ℕ) → OpenWritersPass items page (λ who. has_member who (members_of mark) ≡ false)
    → filter (writes_page page) (live_entries (items ++ item.Mark mark ∷ [])) ≡ filter (writes_page page) (live_entries items)
writes_after_mark items mark page pass =
    ap (filter (writes_page page))
    (part_of_more (λ who fate. is_live fate) items (item.Mark mark ∷ [])
    ∙ append-nil (entries_where (λ who fate. is_live (decided_first fate (fate_of who (item.Mark mark ∷ [])))) items))
    ∙ same_writes_of_a_page (λ who fate. is_live (decided_first fate (fate_of who (item.Mark mark ∷ [])))) (λ who fate. is_live fate) items page
    (λ who. refl) (λ who. refl) (λ write inside writes. ap (λ named. is_live (cond named (fate_by mark) Open)) (pass write inside writes))

-- the client that a mark is for
abbrev pub head_of : Mark → ℕ
head_of (Commit lead members) = lead
head_of (Rollback lost members) = lost

pub members_are : (items : List Item) (mark : Mark) → IsExactMark items mark → members_of mark ≡ association_of items (head_of mark)
members_are items (Commit lead members) exact = exact
members_are items (Rollback lost members) exact = exact

-- a client outside a mark is in no association with a member
outside_apart : (items : List Item) (mark : Mark) → IsExactMark items mark → (client who : ℕ) → has_member client (members_of mark) ≡ false
    → has_member who (association_of items client) ≡ true → has_member who (members_of mark) ≡ false
outside_apart items mark exact client who outside found =
    let is = members_are items mark exact in
    ap (has_member who) is ∙ members_together items (head_of mark) who client found ∙ ap (has_member client) (sym is) ∙ outside

-- the open writes of a page after a mark are of the client's association still
writers_after_mark : (items : List Item) (mark : Mark) → IsExactMark items mark → (page client : ℕ) → WritersAreWith items page client
    → WritersAreWith (items ++ item.Mark mark ∷ []) page client
writers_after_mark items mark exact page client before write inside writes = by_member (cases_Bool (has_member client (members_of mark)))
  where
    kept : Contains (open_entries items) write × (not (has_member write.who (members_of mark)) ≡ true)
    kept = contains_kept (λ entry. not (has_member entry.who (members_of mark))) (open_entries items) write
        (subst (λ entries. Contains entries write) (open_after_mark items mark) inside)

    with_client : has_member write.who (association_of items client) ≡ true
    with_client = before write kept.0 writes

    by_member : (has_member client (members_of mark) ≡ true) ⊎ (has_member client (members_of mark) ≡ false)
        → has_member write.who (association_of (items ++ item.Mark mark ∷ []) client) ≡ true
    by_member (inl member) =
        let is = members_are items mark exact in
        let same : association_of items client ≡ association_of items (head_of mark) =
        association_of_a_member items (head_of mark) client (ap (has_member client) (sym is) ∙ member) in
        absurd (both_ways (has_member write.who (members_of mark)) (not-true (has_member write.who (members_of mark)) kept.1)
        (ap (has_member write.who) is ∙ ap (has_member write.who) (sym same) ∙ with_client))
    by_member (inr other) = ap (has_member write.who) (others_after_mark items mark client exact other) ∙ with_client

right_after_mark : (base : List (List ℕ)) (items : List Item) (mark : Mark) → IsExactMark items mark → (own : Own) → IsGoodNow base items own
    → has_member own.who (members_of mark) ≡ false
    → AreRightAfter base (live_entries (items ++ item.Mark mark ∷ [])) (entries_by own.who own.pending)
right_after_mark base items mark exact own good outside =
    right_by_same_writes base (live_entries items) (live_entries (items ++ item.Mark mark ∷ [])) (entries_by own.who own.pending)
    (λ entry inside.
    let found = contains_entry own.who own.pending entry inside in
    let reads : allows own.held found.0.page may.Read ≡ true =
    allows_covered own.held found.0.page (right_for found.0.op) may.Read (covers_read (right_for found.0.op)) (good.held found.0 found.1) in
    let there : allows own.held entry.page may.Read ≡ true = subst (λ page. allows own.held page may.Read ≡ true) (ap (λ (e : Entry). e.page) found.2) reads in
    sym (writes_after_mark items mark entry.page
    (λ write opened writes. outside_apart items mark exact own.who write.who outside (good.writers entry.page there write opened writes))))
    good.right

-- a client that a mark does not roll back stays good
pub good_behind_rollback : (base : List (List ℕ)) (items : List Item) (mark : Mark) → IsExactMark items mark → (own : Own)
    → has_member own.who (members_of mark) ≡ false → IsGoodNow base items own → IsGoodNow base (items ++ item.Mark mark ∷ []) own
good_behind_rollback base items mark exact own outside good = record {
  held = good.held;
  right = right_after_mark base items mark exact own good outside;
  writers = λ page found. writers_after_mark items mark exact page own.who (good.writers page found);
}

pub good_behind_commit : (base : List (List ℕ)) (items : List Item) (lead : ℕ) (members : List ℕ) → IsExactMark items (Commit lead members) → (own : Own)
    → IsGoodNow base items own → IsGoodNow base (items ++ item.Mark (Commit lead members) ∷ []) own
good_behind_commit base items lead members exact own good = record {
  held = good.held;
  right = subst (λ live. AreRightAfter base live (entries_by own.who own.pending)) (sym (live_after_commit items lead members)) good.right;
  writers = λ page found. writers_after_mark items (Commit lead members) exact page own.who (good.writers page found);
}
