use Rattle.std.proofs.Common.{◌≡◌, ◌≢◌, ◌≤◌, ◌<◌, ◌+◌, ℕ, List, [], ◌∷◌, ◌++◌, Bool, true, false, ◌==◌, ◌&&◌, ◌||◌, cond, nat_eq, length, length-append, refl, sym, ap, ◌∙◌, subst, ⊎_elim, true≢false, arith}
use Rattle.std.specs.Prelude.{Option, Some, None, map, filter, slice_index_or}
use Rattle.std.specs.List.{IsDistinct, AllByRecursion, list_any}
use Rattle.std.specs.List.Sorted.{IsPermutation, IsNonDecreasing, IsStrictlyIncreasing}
use Rattle.std.proofs.lemmas.Bool.{cases_eq, or_cases, or_parts, or_left, or_right, false_from_ne_true}
use Rattle.std.proofs.lemmas.Cmp.{nat_eq_equiv}
use Rattle.std.proofs.lemmas.List.Folds.{list_any-append}
use Rattle.std.proofs.lemmas.Map.Made.{length-from_same_keys}
use Rattle.std.proofs.lemmas.List.Sorted.{list_any-IsPermutation}
use Rattle.std.proofs.lemmas.Map.Keys.{IsStrictlyIncreasing-from_distinct, IsDistinct-IsPermutation}
use Rattle.std.proofs.lemmas.Map.Views.{list_any-from_Contains}
use Rattle.std.proofs.lemmas.Map.Steps.{length-le_from_distinct_below}
use Rattle.casper_words.specs.Crew.{IsClient, has_member}
use Rattle.casper_trail.specs.declared.entry.Entry.{Entry}
use Rattle.casper_trail.specs.declared.item.Item.{Item}
use Rattle.casper_trail.specs.Clients.{AreOfClients}
use Rattle.casper_trail.specs.Association.{association_of}
use Rattle.casper_trail.specs.Value.{is_write, writes_page}
use Rattle.casper_trail.specs.Parts.{open_entries}
use Rattle.casper_trail.specs.Modified.{is_modified_by}
use Rattle.casper_trail.proofs.Rounds.{member_is_client}
use Rattle.casper_model.specs.Frozen.{open_writes_of, pages_modified_by}
use Rattle.casper_assoc.specs.Written.{is_listed, AreWrittenBy}
use Rattle.casper_assoc.specs.TrailAssociations.{AssociationsView, AreAssociationsOf, PagesAreWithin}
use Rattle.casper_assoc.proofs.TrailAssociations.{members_labelled_the_modified}
use Rattle.casper_assoc.proofs.WrittenLists.{within_some}
use Rattle.casper_frozen.specs.Counting.{CountsPagesOf, ArePagesOf, IsOfMemberBelow, AreWrittenBelow}
use Rattle.casper_frozen.proofs.Rises.{rising_is_distinct, rising_lists, rising_is_one}

-- The pages that the members of an association labelled, counted for one member after another, are those that it modified.

-- none at first
pub none_written : (writers : List (Option ℕ)) (members : List ℕ) → AreWrittenBelow writers members 1 []
unfolding IsDistinct
none_written writers members = record {
  exactly = λ page. ((λ listed. absurd (true≢false (sym listed))), (λ is. absurd (omega (arith, is.1, is.2))));
  once = tt;
}

apart_append : (x : ℕ) (xs ys : List ℕ) → AllByRecursion (λ y. nat_eq x y ≡ false) xs → is_listed x ys ≡ false → AllByRecursion (λ y. nat_eq x y ≡ false) (xs ++ ys)
apart_append x [] [] all out = tt
apart_append x [] (y ∷ ys) all out = let parts = or_parts (nat_eq x y) (is_listed x ys) out in (parts.0, apart_append x [] ys tt parts.1)
apart_append x (y ∷ xs) ys all out = (all.0, apart_append x xs ys all.1 out)

-- two lists that share no number have each of theirs once
distinct_append : (xs ys : List ℕ) → IsDistinct nat_eq xs → IsDistinct nat_eq ys → ((x : ℕ) → is_listed x xs ≡ true → is_listed x ys ≡ false) → IsDistinct nat_eq (xs ++ ys)
unfolding IsDistinct
distinct_append [] ys left right apart = right
distinct_append (x ∷ xs) ys left right apart = (
  apart_append x xs ys left.0 (apart x (or_left (nat_eq x x) (is_listed x xs) (nat_eq_equiv.refl x))),
  distinct_append xs ys left.1 right (λ q listed. apart q (or_right (nat_eq q x) (is_listed q xs) listed)),
)

listed_append : (page : ℕ) (xs ys : List ℕ) → is_listed page (xs ++ ys) ≡ (is_listed page xs || is_listed page ys)
listed_append page xs ys = list_any-append (λ listed. page == listed) xs ys

some_is : (one other : ℕ) → ◌≡◌ {A = Option ℕ} (Some one) (Some other) → one ≡ other
some_is one other is = cc

-- and those of one member more
pub more_written : (writers : List (Option ℕ)) (members : List ℕ) (number who : ℕ) (pages written : List ℕ) → who ≡ number → 1 ≤ number
    → has_member who members ≡ true → AreWrittenBy writers who written → AreWrittenBelow writers members number pages
    → AreWrittenBelow writers members (number + 1) (pages ++ written)
more_written writers members number who pages written same least member wrote so = record {
  exactly = λ page. (listed page, is_listed_there page);
  once = distinct_append pages written so.once wrote.once apart;
}
  where
    listed : (page : ℕ) → is_listed page (pages ++ written) ≡ true → IsOfMemberBelow writers members (number + 1) page
    listed page is =
        ⊎_elim
        (λ before. let found = (so.exactly page).0 before in (found.0, found.1, omega (arith, found.2), found.3, found.4))
        (λ now. (who, omega (arith, least, same), omega (arith, same), member, (wrote.exactly page).0 now))
        (or_cases (is_listed page pages) (is_listed page written) (sym (listed_append page pages written) ∙ is))

    is_listed_there : (page : ℕ) → IsOfMemberBelow writers members (number + 1) page → is_listed page (pages ++ written) ≡ true
    is_listed_there page found =
        listed_append page pages written
        ∙ ⊎_elim
        (λ (at : found.0 ≡ who).
        or_right (is_listed page pages) (is_listed page written)
        ((wrote.exactly page).1 (subst (λ w. slice_index_or writers page None ≡ Some w) at found.4)))
        (λ (other : found.0 ≢ who).
        or_left (is_listed page pages) (is_listed page written)
        ((so.exactly page).1 (found.0, found.1, grind (arith, found.2, other, same), found.3, found.4)))
        (cases_eq found.0 who)

    apart : (page : ℕ) → is_listed page pages ≡ true → is_listed page written ≡ false
    apart page before =
        let found = (so.exactly page).0 before in
        false_from_ne_true (is_listed page written)
        (λ now. let at = some_is found.0 who (sym found.4 ∙ (wrote.exactly page).0 now) in omega (arith, at, same, found.2))

-- one that is no member adds none
pub same_written : (writers : List (Option ℕ)) (members : List ℕ) (number who : ℕ) (pages : List ℕ) → who ≡ number
    → has_member who members ≡ false → AreWrittenBelow writers members number pages → AreWrittenBelow writers members (number + 1) pages
same_written writers members number who pages same out so = record {
  exactly = λ page. (
    (λ listed. let found = (so.exactly page).0 listed in (found.0, found.1, omega (arith, found.2), found.3, found.4)),
    (λ found. (so.exactly page).1 (found.0, found.1, earlier found.0 found.2 found.3, found.3, found.4)),
  );
  once = so.once;
}
  where
    earlier : (one : ℕ) → one < number + 1 → has_member one members ≡ true → one < number
    earlier one below member =
        ⊎_elim
        (λ (at : one ≡ who). absurd (true≢false (sym member ∙ ap (λ n. has_member n members) at ∙ out)))
        (λ (other : one ≢ who). grind (arith, below, other, same))
        (cases_eq one who)

-- this is how many pages the members with lesser numbers labelled
pub record CountsBelow (writers : List (Option ℕ)) (members : List ℕ) (number count : ℕ) : Type 0 where
  pub pages : List ℕ
  pub counted : count ≡ length pages
  pub written : AreWrittenBelow writers members number pages

-- none at first
pub counts_none : (writers : List (Option ℕ)) (members : List ℕ) → CountsBelow writers members 1 0
counts_none writers members = record { pages = []; counted = refl; written = none_written writers members }

-- there are no more than pages
pub counts_few : (writers : List (Option ℕ)) (members : List ℕ) (number count : ℕ) → CountsBelow writers members number count → count ≤ length writers
counts_few writers members number count so =
    let few = length-le_from_distinct_below so.pages (length writers) so.written.once
    (λ page listed. let is = (so.written.exactly page).0 listed in within_some writers page is.0 is.4) in
    omega (arith, few, so.counted)

-- those of one member more
pub counts_more : (writers : List (Option ℕ)) (members : List ℕ) (number count who : ℕ) (written : List ℕ) → who ≡ number → 1 ≤ number
    → has_member who members ≡ true → AreWrittenBy writers who written → CountsBelow writers members number count
    → CountsBelow writers members (number + 1) (count + length written)
counts_more writers members number count who written same least member wrote so = record {
  pages = so.pages ++ written;
  counted = ap (λ (n : ℕ). n + length written) so.counted ∙ sym (length-append so.pages written);
  written = more_written writers members number who so.pages written same least member wrote so.written;
}

-- they are no more than pages with those of one member more
pub more_are_few : (writers : List (Option ℕ)) (members : List ℕ) (number count who : ℕ) (written : List ℕ) → who ≡ number → 1 ≤ number
    → has_member who members ≡ true → AreWrittenBy writers who written → CountsBelow writers members number count → count + length written ≤ length writers
more_are_few writers members number count who written same least member wrote so =
    counts_few writers members (number + 1) (count + length written) (counts_more writers members number count who written same least member wrote so)

-- one that is no member adds none
pub counts_same : (writers : List (Option ℕ)) (members : List ℕ) (number count who : ℕ) → who ≡ number → has_member who members ≡ false
    → CountsBelow writers members number count → CountsBelow writers members (number + 1) count
counts_same writers members number count who same out so =
    record { pages = so.pages; counted = so.counted; written = same_written writers members number who so.pages same out so.written }

-- The pages that an association modified, in the words of the machine.

kept_page : (page : ℕ) (entry : Entry) (writes is member : Bool) (rest : List Entry) → (page == entry.page) ≡ is
    → is_listed page (map (λ (one : Entry). one.page) (cond (writes && member) (entry ∷ rest) rest))
    ≡ (((writes && is) && member) || is_listed page (map (λ (one : Entry). one.page) rest))
kept_page page entry true true true rest at = ap (λ b. b || is_listed page (map (λ (one : Entry). one.page) rest)) at
kept_page page entry true false true rest at = ap (λ b. b || is_listed page (map (λ (one : Entry). one.page) rest)) at
kept_page page entry true true false rest at = refl
kept_page page entry true false false rest at = refl
kept_page page entry false is member rest at = refl

modified_among : (members : List ℕ) (page : ℕ) (entries : List Entry)
    → is_listed page (map (λ (entry : Entry). entry.page) (filter (λ (entry : Entry). is_write entry.op && has_member entry.who members) entries))
    ≡ list_any (λ (entry : Entry). writes_page page entry && has_member entry.who members) entries
modified_among members page [] = refl
modified_among members page (entry ∷ entries) =
    kept_page page entry (is_write entry.op) (entry.page == page) (has_member entry.who members)
    (filter (λ (one : Entry). is_write one.op && has_member one.who members) entries) (nat_eq_equiv.symm page entry.page)
    ∙ ap (λ b. (writes_page page entry && has_member entry.who members) || b) (modified_among members page entries)

-- a page stands among them where the association modified it
pub modified_is_listed : (items : List Item) (members : List ℕ) (page : ℕ)
    → is_listed page (pages_modified_by items members) ≡ is_modified_by members items page
modified_is_listed items members page =
    rising_lists (map (λ (entry : Entry). entry.page) (open_writes_of items members)) page ∙ modified_among members page (open_entries items)

-- tests that pass alike are the same
same_tests : (a b : Bool) → (a ≡ true → b ≡ true) → (b ≡ true → a ≡ true) → a ≡ b
same_tests true b there back = sym (there refl)
same_tests false true there back = back refl
same_tests false false there back = refl

-- those of all members are those that their association modified
pub all_written : (all : AssociationsView) (members : List ℕ) (number : ℕ) (pages : List ℕ) (items : List Item) (who page : ℕ) → number ≡ 33
    → AreWrittenBelow all.labelling.writers members number pages → AreOfClients items → AreAssociationsOf all items → IsClient who
    → members ≡ association_of items who → is_listed page pages ≡ is_listed page (pages_modified_by items members)
all_written all members number pages items who page last so clients are client same =
    same_tests (is_listed page pages) (is_listed page (pages_modified_by items members)) there back
  where
    there : is_listed page pages ≡ true → is_listed page (pages_modified_by items members) ≡ true
    there listed =
        let found = (so.exactly page).0 listed in
        modified_is_listed items members page
        ∙ ap (λ crew. is_modified_by crew items page) same
        ∙ (members_labelled_the_modified all items who page clients are client).1
        (found.0, sym (ap (has_member found.0) same) ∙ found.3, found.4)

    back : is_listed page (pages_modified_by items members) ≡ true → is_listed page pages ≡ true
    back listed =
        let found = (members_labelled_the_modified all items who page clients are client).0
        (ap (λ crew. is_modified_by crew items page) (sym same) ∙ sym (modified_is_listed items members page) ∙ listed) in
        let bounds = member_is_client items who found.0 found.1 in
        (so.exactly page).1
        (found.0, bounds.0, omega (arith, last, bounds.1), ap (has_member found.0) same ∙ found.1, found.2)

-- and as many
pub counts_all : (all : AssociationsView) (members : List ℕ) (number count : ℕ) → number ≡ 33 → CountsBelow all.labelling.writers members number count
    → CountsPagesOf all members count
counts_all all members number count last so items clients are who client same =
    so.counted
    ∙ length-from_same_keys nat_eq_equiv so.pages (pages_modified_by items members) so.written.once
    (rising_is_distinct (map (λ (entry : Entry). entry.page) (open_writes_of items members)))
    (λ page. all_written all members number so.pages items who page last so.written clients are client same)

-- in rising order they are the modified ones
pub sorted_are_modified : (all : AssociationsView) (members : List ℕ) (number : ℕ) (written pages : List ℕ) → number ≡ 33
    → AreWrittenBelow all.labelling.writers members number written → IsPermutation written pages → IsStrictlyIncreasing pages → ArePagesOf all members pages
sorted_are_modified all members number written pages last so moves rises items clients are who client same =
    rising_is_one pages (map (λ (entry : Entry). entry.page) (open_writes_of items members)) rises
    (λ page.
    sym (list_any-IsPermutation (λ listed. page == listed) written pages moves)
    ∙ all_written all members number written items who page last so clients are client same)

-- a sorted list of pages that stand in it once rises
pub sorted_rises : (written pages : List ℕ) → IsDistinct nat_eq written → IsPermutation written pages → IsNonDecreasing pages → IsStrictlyIncreasing pages
sorted_rises written pages once moves sorted =
    IsStrictlyIncreasing-from_distinct pages sorted (IsDistinct-IsPermutation nat_eq nat_eq_equiv.symm written pages moves once)

-- and pages of the store
pub sorted_are_within : (all : AssociationsView) (members : List ℕ) (number : ℕ) (written pages : List ℕ)
    → AreWrittenBelow all.labelling.writers members number written → IsPermutation written pages → PagesAreWithin all pages
sorted_are_within all members number written pages so moves page inside =
    let listed = list_any-IsPermutation (λ listed. page == listed) written pages moves ∙ list_any-from_Contains nat_eq_equiv page pages inside in
    let is = (so.exactly page).0 listed in
    within_some all.labelling.writers page is.0 is.4
